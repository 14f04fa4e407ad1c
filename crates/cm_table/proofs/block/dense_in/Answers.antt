use Rattle.std.proofs.Common.{◌∙◌, ap, sym, subst, Some, arith}
use Rattle.cm_table.specs.Keys.{Increasing}
use Rattle.cm_table.specs.Slots.{inc_of, slot_of, slots_in}
use Rattle.cm_table.proofs.lemmas.lists.BinarySearch.{part_increasing, in_part}
use Rattle.cm_table.proofs.block.dense_in.Goals as goal

pub dense_at-requires : goal.dense_at-requires
dense_at-requires c =
    subst (Increasing inc_of) (sym c.as_slice-slots.ensures.value)
    (part_increasing inc_of slots_in c.args.blocks.now c.args.place c.index-blocks-place.result (omega arith) c.requires)

pub returns-in-Some : goal.returns-in-Some
returns-in-Some c =
    in_part inc_of slots_in c.args.blocks.now c.args.inc c.args.place c.index-blocks-place.result c.index-slots-near.result c.requires (omega arith)
    (ap (λ l. slot_of l c.args.inc) (sym c.as_slice-slots.ensures.value)
    ∙ c.in-Some.ensures.found c.index-slots-near.result
    ∙ ap Some (sym c.index-slots-near.is))
