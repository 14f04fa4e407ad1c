use Rattle.cm_storage.proofs.lemmas.Knowing.{fault_way}
use Rattle.cm_storage.proofs.lemmas.Ways.{same_fault}
use Rattle.cm_storage.proofs.handing.climbed.Goals as goal

pub returns-in-Err : goal.returns-in-Err
returns-in-Err g c =
    fault_way (g.V.View.rows c.args.view.now) (g.V.View.builtins c.args.view.now) c.args.inc c.args.name.now c.in-Err.fault c.faulty.result (λ fine. c.in-Err.ensures.way (λ e. fine (same_fault _ _ e))) c.faulty.ensures.known c.faulty.ensures.memory
