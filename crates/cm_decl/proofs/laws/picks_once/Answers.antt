use Rattle.cm_decl.proofs.lemmas.cycles.Picking.{picks_once, picked_is_cycle}
use Rattle.cm_decl.proofs.laws.picks_once.Goals as goal

pub returns-clause-once : goal.returns-clause-once
returns-clause-once c = picks_once

pub returns-clause-cycle : goal.returns-clause-cycle
returns-clause-cycle c = picked_is_cycle
