use Rattle.cm_session.proofs.lemmas.ends.Ending.{pool_worked}
use Rattle.cm_session.proofs.workers.run_all.Goals as goal

pub returns : goal.returns
returns g c = record { worked = pool_worked g.G.Gates.log g.G.Gates.faults _ c.args.manager.now.manifests c.args.workers c.args.pool.items _ c.work_all.new.pool c.args.pool.len c.as_mut_slice.ensures.value c.args.pool.ok.0 c.work_all.auto.pool c.work_all.ensures.worked }
