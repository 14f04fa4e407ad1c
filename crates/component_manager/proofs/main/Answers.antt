use Rattle.cm_program.proofs.lemmas.Closed.{is_run}
use Rattle.component_manager.proofs.main.Goals as goal

pub ended-status-requires : goal.ended-status-requires
ended-status-requires g c = is_run _ _ _ _ _ _ _ _ _ _ c.run-ran.ensures c.new-input.ensures.faults c.new-out.ensures.faults c.new-err.ensures.faults
