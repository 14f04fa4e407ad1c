use Rattle.std.proofs.Common.{subst, sym, arith}
use Rattle.cm_table.specs.Keys.{Filled}
use Rattle.cm_table.specs.Slots.{slots_in}
use Rattle.cm_table.proofs.lemmas.lists.Editing.{filled_push}
use Rattle.cm_table.proofs.block.push_block.Goals as goal

pub returns-clause-filled : goal.returns-clause-filled
returns-clause-filled c =
    subst (Filled slots_in) (sym c.push_reserved.ensures.items)
    (filled_push slots_in c.join_last-joined.new.blocks.items (record { slots = c.join_last-joined.new.slots }) (omega arith) c.join_last-joined.ensures.filled)
