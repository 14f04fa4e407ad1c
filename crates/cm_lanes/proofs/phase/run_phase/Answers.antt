use Rattle.cm_lanes.proofs.lemmas.phases.Passing.{passed_all}
use Rattle.cm_lanes.proofs.phase.run_phase.Goals as goal

pub returns : goal.returns
returns g c = record { passed = passed_all g.G.Gates.log g.G.Gates.faults c.args.manager.now.turn c.args.manager.now.manifests c.args.lines.now c.args.lanes.now c.work_all.new.lanes c.meet_all.new.lanes c.work_all.auto.lanes c.work_all.ensures.worked c.meet_all.ensures.met }
