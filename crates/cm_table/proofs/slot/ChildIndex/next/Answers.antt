use Rattle.std.proofs.Common.{◌∙◌, sym, ap, find}
use Rattle.cm_world.specs.RowsInside.{is_behind}
use Rattle.cm_table.specs.Slots.{kids_at}
use Rattle.cm_table.proofs.lemmas.indexes.Naming.{first_behind}
use Rattle.cm_table.proofs.slot.ChildIndex.next.Goals as goal

pub returns-in-None : goal.returns-in-None
returns-in-None c = c.kid_at.ensures ∙ sym (first_behind (kids_at c.args.self.now)) ∙ ap (λ a. find (is_behind a) (kids_at c.args.self.now)) (sym c.in-None.is)
