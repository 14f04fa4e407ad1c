use Rattle.std.proofs.Common.{◌∙◌, ap, sym, Some}
use Rattle.cm_table.proofs.block.slot_at.Goals as goal

pub returns-in-Some : goal.returns-in-Some
returns-in-Some c = ap Some c.index-slots-place.is ∙ sym (c.in-Some.ensures.found c.index-slots-place.result)
