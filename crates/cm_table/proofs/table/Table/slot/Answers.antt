use Rattle.std.proofs.Common.{◌∙◌, List, sym, ap, subst}
use Rattle.std.specs.Prelude.{option_map, IfSome}
use Rattle.cm_world.specs.Rows.{row_of}
use Rattle.cm_table.specs.declared.slot.Slot.{Slot}
use Rattle.cm_table.specs.Tree.{Tree}
use Rattle.cm_table.specs.Keys.{Increasing}
use Rattle.cm_table.specs.Slots.{inc_of, flat, rows_in, slot_of, IsIndexed}
use Rattle.cm_table.proofs.lemmas.slots.Rowed.{row_of-slots, slots_rise}
use Rattle.cm_table.proofs.lemmas.indexes.Told.{if_found}
use Rattle.cm_table.proofs.table.Table.slot.Goals as goal

pub slot_in-requires-clause-increasing : goal.slot_in-requires-clause-increasing
slot_in-requires-clause-increasing c =
    subst (λ l. Increasing inc_of (flat l)) (sym c.as_slice.ensures.value) (slots_rise c.self.inside.next_inc (flat c.self.inside.blocks.items) c.self.invariant.orderly.increasing)

pub returns-clause-row : goal.returns-clause-row
returns-clause-row c =
    ap (option_map (λ s. s.row)) (c.slot_in.ensures ∙ ap (λ l. slot_of (flat l) c.args.inc) c.as_slice.ensures.value)
    ∙ sym (row_of-slots (flat c.self.inside.blocks.items) c.args.inc) ∙ ap (λ (t : Tree). row_of t.rows c.args.inc) c.self.view_is

pub returns-clause-index : goal.returns-clause-index
returns-clause-index c =
    let ss : List Slot = flat c.self.inside.blocks.items in
    subst (λ (t : Tree). IfSome c.slot_in.result (λ s. IsIndexed t.rows t.next_inc s.now)) c.self.view_is
    (if_found (IsIndexed (rows_in ss) c.self.inside.next_inc) c.slot_in.result ss c.args.inc (c.slot_in.ensures ∙ ap (λ l. slot_of (flat l) c.args.inc) c.as_slice.ensures.value) c.self.invariant.indexed)
