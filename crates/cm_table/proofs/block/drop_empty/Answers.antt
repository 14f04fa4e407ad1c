use Rattle.std.proofs.Common.{◌<◌, ◌==◌, ◌∙◌, ap, sym, subst, length}
use Rattle.cm_table.specs.Keys.{Filled}
use Rattle.cm_table.specs.Slots.{slots_in, flat}
use Rattle.cm_table.proofs.lemmas.lists.Drops.{empty_list}
use Rattle.cm_table.proofs.lemmas.lists.Editing.{flat-empty, but_removed, but_filled, some_long}
use Rattle.cm_table.proofs.block.drop_empty.Goals as goal

pub returns-then-is_empty-clause-slots : goal.returns-then-is_empty-clause-slots
returns-then-is_empty-clause-slots c =
    ap flat c.remove.ensures.items
    ∙ flat-empty slots_in c.args.blocks.now.items c.args.place c.index.result.now c.requires.place
    (ap slots_in (sym c.index.ensures) ∙ empty_list c.index.result.now.slots.items
    (c.if-is_empty.ensures ∙ ap (λ l. length l == 0) c.as_slice.ensures.value))

pub returns-then-is_empty-clause-filled : goal.returns-then-is_empty-clause-filled
returns-then-is_empty-clause-filled c =
    subst (Filled slots_in) (sym c.remove.ensures.items) (but_removed slots_in c.args.blocks.now.items c.args.place c.requires.place c.requires.others)

pub returns-else-is_empty-clause-filled : goal.returns-else-is_empty-clause-filled
returns-else-is_empty-clause-filled c =
    but_filled slots_in c.args.blocks.now.items c.args.place c.index.result.now c.requires.others
    (subst (λ b. 0 < length (slots_in b)) c.index.ensures (some_long c.index.result.now.slots.items
    (c.if-is_empty.ensures ∙ ap (λ l. length l == 0) c.as_slice.ensures.value)))
