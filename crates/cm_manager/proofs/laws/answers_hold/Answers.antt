use Rattle.cm_manager.proofs.lemmas.shutdowns.Answering.{shutdowns_leave_shut, destructions_remove}
use Rattle.cm_manager.proofs.laws.answers_hold.Goals as goal

pub returns : goal.returns
returns c =
    let marks = c.marks_stay.ensures in
    let shutdowns = c.shutdowns_last.ensures in
    record {
      shut = shutdowns_leave_shut marks.marks marks.stays shutdowns.done;
      removed = destructions_remove marks.marks marks.stays shutdowns.done;
    }
