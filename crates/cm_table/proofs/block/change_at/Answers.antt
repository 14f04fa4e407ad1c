use Rattle.std.proofs.Common.{◌≡◌, None, sym, subst}
use Rattle.cm_table.specs.Change.{change_row}
use Rattle.cm_table.specs.Keys.{IsItemAt}
use Rattle.cm_table.specs.Slots.{inc_of, slot_of, with_row_by}
use Rattle.cm_table.proofs.lemmas.lists.Editing.{edit_none, edit_at}
use Rattle.cm_table.proofs.block.change_at.Goals as goal

pub returns-in-None : goal.returns-in-None
returns-in-None c =
    sym (edit_none inc_of c.args.inc (with_row_by (change_row c.args.new)) c.args.block.now.slots.items
    (subst (λ l. slot_of l c.args.inc ≡ None) c.as_slice.ensures.value c.in-None.ensures))

pub returns-in-Some : goal.returns-in-Some
returns-in-Some c =
    edit_at inc_of c.args.block.now.slots.items c.args.inc c.in-Some.place (with_row_by (change_row c.args.new)) c.index_mut.result.now c.change.new.slot c.requires
    (subst (λ l. IsItemAt inc_of l c.args.inc c.in-Some.place) c.as_slice.ensures.value c.in-Some.ensures) c.index_mut.ensures.value c.change.ensures
