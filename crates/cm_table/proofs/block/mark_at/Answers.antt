use Rattle.std.proofs.Common.{◌≡◌, None, sym, subst}
use Rattle.cm_table.specs.Keys.{IsItemAt}
use Rattle.cm_table.specs.Marking.{flagged}
use Rattle.cm_table.specs.Slots.{inc_of, slot_of}
use Rattle.cm_table.proofs.lemmas.lists.Editing.{edit_none, edit_at}
use Rattle.cm_table.proofs.block.mark_at.Goals as goal

pub returns-in_default : goal.returns-in_default
returns-in_default c =
    sym (edit_none inc_of c.args.inc (flagged c.args.kind) c.args.block.now.slots.items
    (subst (λ l. slot_of l c.args.inc ≡ None) c.as_slice.ensures.value c.in_default.ensures))

pub returns-in-Some : goal.returns-in-Some
returns-in-Some c =
    edit_at inc_of c.args.block.now.slots.items c.args.inc c.in-Some.place (flagged c.args.kind) c.index_mut.result.now c.mark.new.slot c.requires
    (subst (λ l. IsItemAt inc_of l c.args.inc c.in-Some.place) c.as_slice.ensures.value c.in-Some.ensures) c.index_mut.ensures.value c.mark.ensures
