use Rattle.std.proofs.Common.{◌≡◌, None, ◌∙◌, sym, subst}
use Rattle.cm_table.specs.Keys.{IsItemAt}
use Rattle.cm_table.specs.Slots.{inc_of, slot_of}
use Rattle.cm_table.proofs.lemmas.lists.Editing.{drop_none, drop_at}
use Rattle.cm_table.proofs.block.remove_at.Goals as goal

pub returns-in-Some : goal.returns-in-Some
returns-in-Some c =
    c.remove.ensures.items
    ∙ drop_at inc_of c.args.block.now.slots.items c.args.inc c.in-Some.place c.remove.result c.requires
    (subst (λ l. IsItemAt inc_of l c.args.inc c.in-Some.place) c.as_slice.ensures.value c.in-Some.ensures)

pub returns-in_default : goal.returns-in_default
returns-in_default c =
    sym (drop_none inc_of c.args.inc c.args.block.now.slots.items (subst (λ l. slot_of l c.args.inc ≡ None) c.as_slice.ensures.value c.in_default.ensures))
