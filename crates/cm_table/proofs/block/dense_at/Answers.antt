use Rattle.std.proofs.Common.{sym, ◌∙◌, arith}
use Rattle.cm_table.specs.Slots.{inc_of}
use Rattle.cm_table.proofs.lemmas.lists.BinarySearch.{at_place}
use Rattle.cm_table.proofs.block.dense_at.Goals as goal

pub returns-then-inc : goal.returns-then-inc
returns-then-inc c =
    at_place inc_of c.args.slots.now c.args.inc _ c.index-slots-place.result c.requires (omega arith) c.index-slots-place.is (sym c.inc.ensures ∙ c.if-inc.true)
