use Rattle.std.proofs.Common.{◌≡◌, suc, None, sym, subst}
use Rattle.cm_table.specs.Change.{change_row}
use Rattle.cm_table.specs.Keys.{Increasing, IsPlace}
use Rattle.cm_table.specs.Slots.{inc_of, slots_in, flat, slot_of, with_row_by}
use Rattle.cm_table.proofs.lemmas.lists.BinarySearch.{part_increasing}
use Rattle.cm_table.proofs.lemmas.lists.Editing.{edited, edit_none, edit_acts, act_part, edited_filled}
use Rattle.cm_table.proofs.block.change_in.Goals as goal

pub returns-in-None-clause-slots : goal.returns-in-None-clause-slots
returns-in-None-clause-slots c =
    sym (edit_none inc_of c.args.inc (with_row_by (change_row c.args.new)) (flat c.args.blocks.now.items)
    (subst (λ l. slot_of (flat l) c.args.inc ≡ None) c.as_slice.ensures.value c.in-None.ensures))

pub change_at-requires : goal.change_at-requires
change_at-requires c =
    let bs = c.args.blocks.now.items in
    let place = subst (λ l. IsPlace inc_of slots_in l c.args.inc (suc c.in-Some.place)) c.as_slice.ensures.value c.in-Some.ensures in
    subst (λ b. Increasing inc_of (slots_in b)) (sym c.index_mut.ensures.value) (part_increasing inc_of slots_in bs c.in-Some.place c.index_mut.result.now place.bound c.requires.increasing)

pub returns-in-Some-clause-slots : goal.returns-in-Some-clause-slots
returns-in-Some-clause-slots c =
    let f = with_row_by (change_row c.args.new) in
    let place = subst (λ l. IsPlace inc_of slots_in l c.args.inc (suc c.in-Some.place)) c.as_slice.ensures.value c.in-Some.ensures in
    act_part inc_of slots_in c.args.inc (edited inc_of c.args.inc f) (edit_acts inc_of c.args.inc f) c.args.blocks.now.items c.in-Some.place c.index_mut.result.now c.change_at.new.block c.requires.filled c.requires.increasing place c.index_mut.ensures.value c.change_at.ensures

pub returns-in-Some-clause-filled : goal.returns-in-Some-clause-filled
returns-in-Some-clause-filled c =
    let place = subst (λ l. IsPlace inc_of slots_in l c.args.inc (suc c.in-Some.place)) c.as_slice.ensures.value c.in-Some.ensures in
    edited_filled slots_in inc_of c.args.inc (with_row_by (change_row c.args.new)) c.args.blocks.now.items c.in-Some.place c.index_mut.result.now c.change_at.new.block place.bound c.requires.filled c.index_mut.ensures.value c.change_at.ensures
