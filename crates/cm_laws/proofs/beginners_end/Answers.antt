use Rattle.cm_laws.proofs.lemmas.actions.Beginners.{beginners_may_end, others_leave_ends}
use Rattle.cm_laws.proofs.beginners_end.Goals as goal

pub returns : goal.returns
returns c = record { begins = beginners_may_end; stays = others_leave_ends }
