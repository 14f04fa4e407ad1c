use Rattle.cm_manager.proofs.lemmas.left.Due.{due_stays, due_is_open}
use Rattle.cm_manager.proofs.turns.due_events_stay.Goals as goal

pub returns : goal.returns
returns c = record {
  stays = due_stays c.marks_stay.ensures.stays c.shutdowns_last.ensures.stays;
  allowed = due_is_open c.marks_stay.ensures.closes c.shutdowns_last.ensures.purges;
}
