use Rattle.std.proofs.Common.{◌+◌, sym, ◌∙◌}
use Rattle.cm_table.specs.Slots.{inc_of, slots_in}
use Rattle.cm_table.proofs.lemmas.lists.BinarySearch.{between}
use Rattle.cm_table.proofs.block.near.Goals as goal

pub returns-then-not-there : goal.returns-then-not-there
returns-then-not-there c =
    between inc_of slots_in c.args.blocks.now c.args.inc c.args.place c.requires.filled c.requires.increasing (sym c.begins_upto-here.ensures ∙ c.if-not-here.false) (sym c.begins_upto-there.ensures ∙ c.if-not-there.true)

pub returns : goal.returns
returns c =
    between inc_of slots_in c.args.blocks.now c.args.inc (c.args.place + 1) c.requires.filled c.requires.increasing (sym c.begins_upto-there.ensures ∙ c.if-not-there.false) (sym c.begins_upto-behind.ensures ∙ c.if-behind.false)
