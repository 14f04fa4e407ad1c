use Rattle.std.proofs.Common.{◌≡◌, suc, None, ◌∙◌, sym, ap, subst}
use Rattle.cm_world.proofs.lemmas.trees.Finding.{none_some}
use Rattle.cm_table.specs.Keys.{Increasing, IsPlace}
use Rattle.cm_table.specs.Slots.{inc_of, slots_in, flat, slot_of, indexed_by}
use Rattle.cm_table.proofs.lemmas.lists.BinarySearch.{in_last, part_increasing}
use Rattle.cm_table.proofs.lemmas.lists.Editing.{edited, edit_none, edit_acts, act_part, edited_filled}
use Rattle.cm_table.proofs.block.swap_in.Goals as goal

pub swap_at-requires : goal.swap_at-requires
swap_at-requires c =
    let bs = c.args.blocks.now.items in
    let place = subst (λ l. IsPlace inc_of slots_in l c.args.inc (suc c.in-Some.place)) c.as_slice.ensures.value c.in-Some.ensures in
    subst (λ b. Increasing inc_of (slots_in b)) (sym c.index_mut.ensures.value) (part_increasing inc_of slots_in bs c.in-Some.place c.index_mut.result.now place.bound c.requires.increasing)

pub returns-in-Some-clause-slots : goal.returns-in-Some-clause-slots
returns-in-Some-clause-slots c =
    let f = indexed_by c.args.index.now in
    let place = subst (λ l. IsPlace inc_of slots_in l c.args.inc (suc c.in-Some.place)) c.as_slice.ensures.value c.in-Some.ensures in
    act_part inc_of slots_in c.args.inc (edited inc_of c.args.inc f) (edit_acts inc_of c.args.inc f) c.args.blocks.now.items c.in-Some.place c.index_mut.result.now c.swap_at.new.block c.requires.filled c.requires.increasing place c.index_mut.ensures.value c.swap_at.ensures.slots

pub returns-in-Some-clause-index : goal.returns-in-Some-clause-index
returns-in-Some-clause-index c = λ s at.
    let place = subst (λ l. IsPlace inc_of slots_in l c.args.inc (suc c.in-Some.place)) c.as_slice.ensures.value c.in-Some.ensures in
    c.swap_at.ensures.index s (ap (λ b. slot_of (slots_in b) c.args.inc) c.index_mut.ensures.value
    ∙ sym (in_last inc_of slots_in c.args.blocks.now.items c.args.inc c.in-Some.place c.index_mut.result.now c.requires.filled c.requires.increasing place) ∙ at)

pub returns-in-Some-clause-none : goal.returns-in-Some-clause-none
returns-in-Some-clause-none c = λ none.
    let place = subst (λ l. IsPlace inc_of slots_in l c.args.inc (suc c.in-Some.place)) c.as_slice.ensures.value c.in-Some.ensures in
    c.swap_at.ensures.none (ap (λ b. slot_of (slots_in b) c.args.inc) c.index_mut.ensures.value
    ∙ sym (in_last inc_of slots_in c.args.blocks.now.items c.args.inc c.in-Some.place c.index_mut.result.now c.requires.filled c.requires.increasing place) ∙ none)

pub returns-in-Some-clause-filled : goal.returns-in-Some-clause-filled
returns-in-Some-clause-filled c =
    let place = subst (λ l. IsPlace inc_of slots_in l c.args.inc (suc c.in-Some.place)) c.as_slice.ensures.value c.in-Some.ensures in
    edited_filled slots_in inc_of c.args.inc (indexed_by c.args.index.now) c.args.blocks.now.items c.in-Some.place c.index_mut.result.now c.swap_at.new.block place.bound c.requires.filled c.index_mut.ensures.value c.swap_at.ensures.slots

pub returns-in_default-clause-slots : goal.returns-in_default-clause-slots
returns-in_default-clause-slots c =
    sym (edit_none inc_of c.args.inc (indexed_by c.args.index.now) (flat c.args.blocks.now.items)
    (subst (λ l. slot_of (flat l) c.args.inc ≡ None) c.as_slice.ensures.value c.in_default.ensures))

pub returns-in_default-clause-index : goal.returns-in_default-clause-index
returns-in_default-clause-index c = λ s at. absurd (none_some s (sym (subst (λ l. slot_of (flat l) c.args.inc ≡ None) c.as_slice.ensures.value c.in_default.ensures) ∙ at))
