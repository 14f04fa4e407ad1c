use Rattle.std.proofs.Common.{◌≡◌, suc, None, ◌∙◌, sym, subst}
use Rattle.cm_table.specs.Keys.{Increasing, IsPlace}
use Rattle.cm_table.specs.Slots.{inc_of, slots_in, flat, slot_of}
use Rattle.cm_table.proofs.lemmas.lists.BinarySearch.{part_increasing}
use Rattle.cm_table.proofs.lemmas.lists.Editing.{dropped, drop_none, drop_acts, act_part, but_set}
use Rattle.cm_table.proofs.block.remove_in.Goals as goal

pub remove_at-requires : goal.remove_at-requires
remove_at-requires c =
    let bs = c.args.blocks.now.items in
    let place = subst (λ l. IsPlace inc_of slots_in l c.args.inc (suc c.in-Some.place)) c.as_slice.ensures.value c.in-Some.ensures in
    subst (λ b. Increasing inc_of (slots_in b)) (sym c.index_mut.ensures.value) (part_increasing inc_of slots_in bs c.in-Some.place c.index_mut.result.now place.bound c.requires.increasing)

pub drop_empty-requires-clause-others : goal.drop_empty-requires-clause-others
drop_empty-requires-clause-others c = but_set slots_in c.args.blocks.now.items c.in-Some.place c.remove_at.new.block c.requires.filled

pub returns-in-Some-clause-slots : goal.returns-in-Some-clause-slots
returns-in-Some-clause-slots c =
    let place = subst (λ l. IsPlace inc_of slots_in l c.args.inc (suc c.in-Some.place)) c.as_slice.ensures.value c.in-Some.ensures in
    c.drop_empty.ensures.slots
    ∙ act_part inc_of slots_in c.args.inc (dropped inc_of c.args.inc) (drop_acts inc_of c.args.inc) c.args.blocks.now.items c.in-Some.place c.index_mut.result.now c.remove_at.new.block c.requires.filled c.requires.increasing place c.index_mut.ensures.value c.remove_at.ensures

pub returns-in_default-clause-slots : goal.returns-in_default-clause-slots
returns-in_default-clause-slots c =
    sym (drop_none inc_of c.args.inc (flat c.args.blocks.now.items) (subst (λ l. slot_of (flat l) c.args.inc ≡ None) c.as_slice.ensures.value c.in_default.ensures))
