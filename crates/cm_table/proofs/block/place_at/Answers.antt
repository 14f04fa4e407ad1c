use Rattle.std.proofs.Common.{sym, ◌∙◌}
use Rattle.cm_table.specs.Slots.{inc_of}
use Rattle.cm_table.proofs.lemmas.lists.BinarySearch.{item_none, is_at, none_last}
use Rattle.cm_table.proofs.block.place_at.Goals as goal

pub returns-then-count-eq0 : goal.returns-then-count-eq0
returns-then-count-eq0 c = item_none inc_of c.args.slots.now c.args.inc c.slots_upto-count.result c.requires c.if-count-eq0.true c.slots_upto-count.ensures

pub returns-then-inc : goal.returns-then-inc
returns-then-inc c =
    is_at inc_of c.args.slots.now c.args.inc c.slots_upto-count.result c.index-slots-count.result c.requires c.if-count-eq0.false c.slots_upto-count.ensures c.index-slots-count.is (sym c.inc.ensures ∙ c.if-inc.true)

pub returns : goal.returns
returns c =
    none_last inc_of c.args.slots.now c.args.inc c.slots_upto-count.result c.index-slots-count.result c.requires c.if-count-eq0.false c.slots_upto-count.ensures c.index-slots-count.is (λ e. c.if-inc.false (c.inc.ensures ∙ e))
