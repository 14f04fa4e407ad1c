use Rattle.cm_laws.proofs.lemmas.actions.Beginners.{joiners_are_joined, others_leave_joins}
use Rattle.cm_laws.proofs.joiners_await.Goals as goal

pub returns : goal.returns
returns c = record { joins = joiners_are_joined; stays = others_leave_joins }
