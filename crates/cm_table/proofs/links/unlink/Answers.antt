use Rattle.std.proofs.Common.{◌≡◌, List, Some, None, ◌∙◌, sym, ap, subst}
use Rattle.std.specs.Prelude.{option_and_then}
use Rattle.cm_table.specs.declared.slot.Slot.{Slot}
use Rattle.cm_table.specs.Keys.{Increasing}
use Rattle.cm_table.specs.Slots.{inc_of, flat, slot_of}
use Rattle.cm_table.proofs.lemmas.slots.Rowed.{increasing_indexed, slots_rise}
use Rattle.cm_table.proofs.lemmas.slots.Linking.{IsSwapped, unlinked, unlinked_none, own_name, taken_rises}
use Rattle.cm_table.proofs.links.unlink.Goals as goal

pub parent_in-requires-clause-increasing : goal.parent_in-requires-clause-increasing
parent_in-requires-clause-increasing c =
    subst (λ l. Increasing inc_of (flat l)) (sym c.as_slice.ensures.value) (slots_rise c.requires.orderly.next (flat c.args.blocks.now.items) c.requires.orderly.orderly.increasing)

pub swap_in-requires-clause-increasing : goal.swap_in-requires-clause-increasing
swap_in-requires-clause-increasing c = slots_rise c.requires.orderly.next (flat c.args.blocks.now.items) c.requires.orderly.orderly.increasing

pub name_in-requires-clause-increasing : goal.name_in-requires-clause-increasing
name_in-requires-clause-increasing c =
    subst (λ l. Increasing inc_of (flat l)) (sym c.as_slice-2.ensures.value)
    (subst (Increasing inc_of) (sym c.swap_in.ensures.slots)
    (increasing_indexed c.in-Some.parent None (flat c.args.blocks.now.items) (slots_rise c.requires.orderly.next (flat c.args.blocks.now.items) c.requires.orderly.orderly.increasing)))

pub swap_in-requires-2-clause-increasing : goal.swap_in-requires-2-clause-increasing
swap_in-requires-2-clause-increasing c =
    subst (Increasing inc_of) (sym c.swap_in.ensures.slots)
    (increasing_indexed c.in-Some.parent None (flat c.args.blocks.now.items) (slots_rise c.requires.orderly.next (flat c.args.blocks.now.items) c.requires.orderly.orderly.increasing))

pub take_out-requires-clause-name : goal.take_out-requires-clause-name
take_out-requires-clause-name c =
    let ss : List Slot = flat c.args.blocks.now.items in
    let up : option_and_then (λ s. s.row.parent) (slot_of ss c.args.inc) ≡ Some c.in-Some.parent =
    ap (λ l. option_and_then (λ s. s.row.parent) (slot_of (flat l) c.args.inc)) (sym c.as_slice.ensures.value) ∙ sym c.parent_in.ensures ∙ c.in-Some.is in
    own_name ss (flat c.swap_in.new.blocks.items) c.args.inc c.in-Some.parent c.swap_in.new.index _ c.requires.orderly up c.swap_in.ensures.slots c.swap_in.ensures.index
    (c.name_in.ensures ∙ ap (λ l. option_and_then (λ s. s.row.name) (slot_of (flat l) c.args.inc)) c.as_slice-2.ensures.value)

pub take_out-requires-clause-rises : goal.take_out-requires-clause-rises
take_out-requires-clause-rises c =
    let ss : List Slot = flat c.args.blocks.now.items in
    let up : option_and_then (λ s. s.row.parent) (slot_of ss c.args.inc) ≡ Some c.in-Some.parent =
    ap (λ l. option_and_then (λ s. s.row.parent) (slot_of (flat l) c.args.inc)) (sym c.as_slice.ensures.value) ∙ sym c.parent_in.ensures ∙ c.in-Some.is in
    taken_rises ss c.args.inc c.in-Some.parent c.swap_in.new.index c.requires.orderly up c.swap_in.ensures.index

pub returns-in_default-clause-links : goal.returns-in_default-clause-links
returns-in_default-clause-links c =
    let ss : List Slot = flat c.args.blocks.now.items in
    unlinked_none c.args.gone ss c.args.inc c.requires.orderly
    (ap (λ l. option_and_then (λ s. s.row.parent) (slot_of (flat l) c.args.inc)) (sym c.as_slice.ensures.value) ∙ sym c.parent_in.ensures ∙ c.in_default.is)

pub returns-clause-links : goal.returns-clause-links
returns-clause-links c =
    let ss : List Slot = flat c.args.blocks.now.items in
    let up : option_and_then (λ s. s.row.parent) (slot_of ss c.args.inc) ≡ Some c.in-Some.parent =
    ap (λ l. option_and_then (λ s. s.row.parent) (slot_of (flat l) c.args.inc)) (sym c.as_slice.ensures.value) ∙ sym c.parent_in.ensures ∙ c.in-Some.is in
    let w : IsSwapped ss (flat c.swap_in.new.blocks.items) (flat c.swap_in-2.new.blocks.items) c.in-Some.parent c.swap_in.new.index c.take_out.new.index =
    record { rise = slots_rise c.requires.orderly.next ss c.requires.orderly.orderly.increasing; out = c.swap_in.ensures.slots; was = c.swap_in.ensures.index; back = c.swap_in-2.ensures.slots } in
    unlinked c.args.gone ss (flat c.swap_in.new.blocks.items) (flat c.swap_in-2.new.blocks.items) c.in-Some.parent c.args.inc c.swap_in.new.index c.take_out.new.index c.requires.orderly w up c.take_out.ensures.base c.take_out.ensures.kids c.take_out.ensures.names
