use Rattle.cm_laws.proofs.lemmas.lasting.MarksLast.{done_is_over, over_stays, over_may_purge}
use Rattle.cm_laws.proofs.shutdowns_last.Goals as goal

pub returns : goal.returns
returns c = record { done = done_is_over; stays = over_stays; purges = over_may_purge }
