use Rattle.cm_table.specs.Slots.{inc_of, slots_in}
use Rattle.cm_table.proofs.lemmas.lists.BinarySearch.{none_at_zero, place_before, place_zero}
use Rattle.cm_table.proofs.block.place_in.Goals as goal

pub returns-then-count-eq0 : goal.returns-then-count-eq0
returns-then-count-eq0 c =
    none_at_zero inc_of slots_in c.args.blocks.now c.args.inc c.requires.filled c.requires.increasing
    (place_zero inc_of slots_in c.args.blocks.now c.args.inc c.blocks_upto-count.result c.if-count-eq0.true c.blocks_upto-count.ensures)

pub returns : goal.returns
returns c = place_before inc_of slots_in c.args.blocks.now c.args.inc c.blocks_upto-count.result c.if-count-eq0.false c.blocks_upto-count.ensures
