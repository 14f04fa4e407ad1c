use Rattle.std.proofs.Common.{◌≡◌, ◌∙◌, ap, sym, subst, List, map, None}
use Rattle.std.specs.Prelude.{option_and_then}
use Rattle.cm_world.specs.declared.row.Row.{Row}
use Rattle.cm_world.specs.Rows.{row_of}
use Rattle.cm_world.specs.Sound.{IncarnationsIncrease}
use Rattle.cm_table.specs.declared.slot.Slot.{Slot}
use Rattle.cm_table.specs.Keys.{Filled, Increasing}
use Rattle.cm_table.specs.Marking.{unmarked, AreIndexed, IsOpenWithin, IsBottom, GoesOn}
use Rattle.cm_table.specs.Slots.{inc_of, flat, slots_in, slot_of, rows_in}
use Rattle.cm_table.proofs.lemmas.slots.Rowed.{row_of-slots, slots_rise}
use Rattle.cm_table.proofs.lemmas.tree.Removing.{parent_by_slots}
use Rattle.cm_table.proofs.lemmas.flags.Flagging.{rows_alike, same-flagged}
use Rattle.cm_table.proofs.lemmas.flags.Passing.{turned, top_done, goes_on}
use Rattle.cm_table.proofs.marking.mark_one.Goals as goal

pub walk_down-bottom-requires-clause-filled : goal.walk_down-bottom-requires-clause-filled
walk_down-bottom-requires-clause-filled c = subst (Filled slots_in) (sym c.as_slice.ensures.value) c.requires.filled

pub walk_down-bottom-requires-clause-indexed : goal.walk_down-bottom-requires-clause-indexed
walk_down-bottom-requires-clause-indexed c = subst (λ l. AreIndexed c.args.next (flat l)) (sym c.as_slice.ensures.value) c.requires.indexed

pub walk_down-bottom-requires-clause-within : goal.walk_down-bottom-requires-clause-within
walk_down-bottom-requires-clause-within c = subst (λ l. IsOpenWithin c.args.kind (flat l) c.args.top c.args.from) (sym c.as_slice.ensures.value) c.requires.within

pub mark_in-requires-clause-increasing : goal.mark_in-requires-clause-increasing
mark_in-requires-clause-increasing c = slots_rise c.args.next (flat c.args.blocks.now.items) c.requires.indexed.orderly.increasing

pub parent_in-requires-clause-increasing : goal.parent_in-requires-clause-increasing
parent_in-requires-clause-increasing c =
    let ss : List Slot = flat c.args.blocks.now.items in
    let zs : List Slot = flat c.mark_in.new.blocks.items in
    let rows : rows_in zs ≡ rows_in ss = rows_alike ss zs (ap (map unmarked) c.mark_in.ensures.slots ∙ same-flagged c.args.kind c.walk_down-bottom.result ss) in
    subst (λ l. Increasing inc_of (flat l)) (sym c.as_slice-2.ensures.value)
    (slots_rise c.args.next zs (subst (IncarnationsIncrease c.args.next) (sym rows) c.requires.indexed.orderly.increasing))

pub returns-then-bottom-top-clause-turns : goal.returns-then-bottom-top-clause-turns
returns-then-bottom-top-clause-turns c =
    let ss : List Slot = flat c.args.blocks.now.items in
    let zs : List Slot = flat c.mark_in.new.blocks.items in
    let b = c.walk_down-bottom.result in
    let bottom : IsBottom c.args.kind ss c.args.top b = subst (λ l. IsBottom c.args.kind (flat l) c.args.top b) c.as_slice.ensures.value c.walk_down-bottom.ensures in
    turned c.args.kind ss zs c.args.top b None c.requires.down bottom c.mark_in.ensures.slots
    (top_done c.args.kind ss zs c.args.top b bottom c.if-bottom-top.true c.mark_in.ensures.slots)

pub returns-clause-turns : goal.returns-clause-turns
returns-clause-turns c =
    let ss : List Slot = flat c.args.blocks.now.items in
    let zs : List Slot = flat c.mark_in.new.blocks.items in
    let b = c.walk_down-bottom.result in
    let bottom : IsBottom c.args.kind ss c.args.top b = subst (λ l. IsBottom c.args.kind (flat l) c.args.top b) c.as_slice.ensures.value c.walk_down-bottom.ensures in
    let up : c.parent_in.result ≡ option_and_then (λ r. r.parent) (row_of (rows_in zs) b) =
    c.parent_in.ensures ∙ ap (λ l. option_and_then (λ (s : Slot). s.row.parent) (slot_of (flat l) b)) c.as_slice-2.ensures.value
    ∙ parent_by_slots (slot_of zs b) ∙ ap (option_and_then (λ (r : Row). r.parent)) (sym (row_of-slots zs b)) in
    turned c.args.kind ss zs c.args.top b c.parent_in.result c.requires.down bottom c.mark_in.ensures.slots
    (subst (GoesOn c.args.kind zs c.args.top) (sym up) (goes_on c.args.kind ss zs c.args.next c.args.top b c.requires.indexed.orderly c.requires.down bottom c.if-bottom-top.false c.mark_in.ensures.slots))
