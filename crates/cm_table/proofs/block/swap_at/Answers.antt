use Rattle.std.proofs.Common.{◌≡◌, None, ◌∙◌, sym, ap, subst}
use Rattle.cm_world.proofs.lemmas.trees.Finding.{some_same, none_some}
use Rattle.cm_table.specs.Keys.{IsItemAt}
use Rattle.cm_table.specs.declared.slot.Slot.{Slot}
use Rattle.cm_table.specs.Slots.{inc_of, slot_of, indexed_by}
use Rattle.cm_table.proofs.lemmas.lists.Editing.{edit_none, edit_at}
use Rattle.cm_table.proofs.block.swap_at.Goals as goal

pub returns-in-Some-clause-slots : goal.returns-in-Some-clause-slots
returns-in-Some-clause-slots c =
    edit_at inc_of c.args.block.now.slots.items c.args.inc c.in-Some.place (indexed_by c.args.index.now) c.index_mut.result.now (record c.index_mut.result.now { index = c.swap.new.x }) c.requires
    (subst (λ l. IsItemAt inc_of l c.args.inc c.in-Some.place) c.as_slice.ensures.value c.in-Some.ensures) c.index_mut.ensures.value (ap (λ x. indexed_by x c.index_mut.result.now) c.swap.ensures.x_after)

pub returns-in-Some-clause-index : goal.returns-in-Some-clause-index
returns-in-Some-clause-index c = λ s at.
    let there = subst (λ l. IsItemAt inc_of l c.args.inc c.in-Some.place) c.as_slice.ensures.value c.in-Some.ensures in
    c.swap.ensures.y_after ∙ ap (λ (z : Slot). z.index) (c.index_mut.ensures.value ∙ some_same _ s (sym (there.found c.index_mut.result.now) ∙ at))

pub returns-in-Some-clause-none : goal.returns-in-Some-clause-none
returns-in-Some-clause-none c = λ none.
    let there = subst (λ l. IsItemAt inc_of l c.args.inc c.in-Some.place) c.as_slice.ensures.value c.in-Some.ensures in
    absurd (none_some _ (sym none ∙ there.found c.index_mut.result.now))

pub returns-in_default-clause-slots : goal.returns-in_default-clause-slots
returns-in_default-clause-slots c =
    sym (edit_none inc_of c.args.inc (indexed_by c.args.index.now) c.args.block.now.slots.items
    (subst (λ l. slot_of l c.args.inc ≡ None) c.as_slice.ensures.value c.in_default.ensures))

pub returns-in_default-clause-index : goal.returns-in_default-clause-index
returns-in_default-clause-index c = λ s at. absurd (none_some s (sym (subst (λ l. slot_of l c.args.inc ≡ None) c.as_slice.ensures.value c.in_default.ensures) ∙ at))
