use Rattle.std.proofs.Common.{arith}
use Rattle.cm_table.specs.Slots.{slots_in}
use Rattle.cm_table.proofs.lemmas.lists.Editing.{joined_flat, joined_filled}
use Rattle.cm_table.proofs.block.join_last.Goals as goal

pub returns-clause-slots : goal.returns-clause-slots
returns-clause-slots c =
    joined_flat slots_in c.join.result c.args.blocks.now.items _ c.index_mut.result.now c.join.new.block c.args.slots.now.items (omega arith) c.index_mut.ensures.value c.join.ensures.block

pub returns-clause-filled : goal.returns-clause-filled
returns-clause-filled c =
    joined_filled slots_in c.join.result c.args.blocks.now.items _ c.index_mut.result.now c.join.new.block c.args.slots.now.items (omega arith) c.requires.filled c.index_mut.ensures.value c.join.ensures.block
