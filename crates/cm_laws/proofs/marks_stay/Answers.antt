use Rattle.cm_laws.proofs.lemmas.lasting.MarksLast.{marks_mark, marks_stay, marked_may_close}
use Rattle.cm_laws.proofs.marks_stay.Goals as goal

pub returns : goal.returns
returns c = record { marks = marks_mark; stays = marks_stay; closes = marked_may_close }
