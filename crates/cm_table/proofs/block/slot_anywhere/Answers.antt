use Rattle.std.proofs.Common.{◌∙◌, sym, ap, subst}
use Rattle.cm_table.specs.Keys.{Increasing}
use Rattle.cm_table.specs.Slots.{inc_of, slot_of, slots_in}
use Rattle.cm_table.proofs.lemmas.lists.BinarySearch.{in_last, part_increasing}
use Rattle.cm_table.proofs.block.slot_anywhere.Goals as goal

pub slot_at-requires : goal.slot_at-requires
slot_at-requires c =
    subst (Increasing inc_of) (sym c.as_slice.ensures.value)
    (part_increasing inc_of slots_in c.args.blocks.now c.in-Some-place_in.place c.index-blocks-place.result c.in-Some-place_in.ensures.bound c.requires.increasing)

pub returns-in-Some-place_in : goal.returns-in-Some-place_in
returns-in-Some-place_in c =
    c.slot_at.ensures
    ∙ ap (λ l. slot_of l c.args.inc) c.as_slice.ensures.value
    ∙ sym (in_last inc_of slots_in c.args.blocks.now c.args.inc c.in-Some-place_in.place c.index-blocks-place.result c.requires.filled c.requires.increasing c.in-Some-place_in.ensures)
