use Rattle.std.proofs.Common.{refl}
use Rattle.cm_answers.proofs.lemmas.Failures.{failure_by}
use Rattle.cm_answers.proofs.ended.if_failed.Goals as goal

pub returns-else-went_well : goal.returns-else-went_well
returns-else-went_well c =
    let ends = failure_by c.in-Ok-Ended.kind c.in-Ok-Ended.action c.in-Ok-Ended.outcome _ c.went_well.ensures c.if-went_well.false in
    rw (c.in-Ok-Ended.is, c.in-Ok-Ended.field-0-is) (ends.0, refl, ends.1)
