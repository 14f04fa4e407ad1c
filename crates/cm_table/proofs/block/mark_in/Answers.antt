use Rattle.std.proofs.Common.{◌≡◌, suc, None, sym, subst}
use Rattle.cm_table.specs.Keys.{Increasing, IsPlace}
use Rattle.cm_table.specs.Marking.{flagged}
use Rattle.cm_table.specs.Slots.{inc_of, slots_in, flat, slot_of}
use Rattle.cm_table.proofs.lemmas.lists.BinarySearch.{part_increasing}
use Rattle.cm_table.proofs.lemmas.lists.Editing.{edited, edit_none, edit_acts, act_part, edited_filled}
use Rattle.cm_table.proofs.block.mark_in.Goals as goal

pub returns-in_default-clause-slots : goal.returns-in_default-clause-slots
returns-in_default-clause-slots c =
    sym (edit_none inc_of c.args.inc (flagged c.args.kind) (flat c.args.blocks.now.items)
    (subst (λ l. slot_of (flat l) c.args.inc ≡ None) c.as_slice.ensures.value c.in_default.ensures))

pub mark_at-requires : goal.mark_at-requires
mark_at-requires c =
    let bs = c.args.blocks.now.items in
    let place = subst (λ l. IsPlace inc_of slots_in l c.args.inc (suc c.in-Some.place)) c.as_slice.ensures.value c.in-Some.ensures in
    subst (λ b. Increasing inc_of (slots_in b)) (sym c.index_mut.ensures.value) (part_increasing inc_of slots_in bs c.in-Some.place c.index_mut.result.now place.bound c.requires.increasing)

pub returns-in-Some-clause-slots : goal.returns-in-Some-clause-slots
returns-in-Some-clause-slots c =
    let f = flagged c.args.kind in
    let place = subst (λ l. IsPlace inc_of slots_in l c.args.inc (suc c.in-Some.place)) c.as_slice.ensures.value c.in-Some.ensures in
    act_part inc_of slots_in c.args.inc (edited inc_of c.args.inc f) (edit_acts inc_of c.args.inc f) c.args.blocks.now.items c.in-Some.place c.index_mut.result.now c.mark_at.new.block c.requires.filled c.requires.increasing place c.index_mut.ensures.value c.mark_at.ensures

pub returns-in-Some-clause-filled : goal.returns-in-Some-clause-filled
returns-in-Some-clause-filled c =
    let place = subst (λ l. IsPlace inc_of slots_in l c.args.inc (suc c.in-Some.place)) c.as_slice.ensures.value c.in-Some.ensures in
    edited_filled slots_in inc_of c.args.inc (flagged c.args.kind) c.args.blocks.now.items c.in-Some.place c.index_mut.result.now c.mark_at.new.block place.bound c.requires.filled c.index_mut.ensures.value c.mark_at.ensures
