use Rattle.std.proofs.Common.{sym, ap, ◌∙◌, subst}
use Rattle.std.specs.Ordering.{nat_cmp}
use Rattle.std.specs.BTreeSet.{contains}
use Rattle.cm_world.specs.RowsInside.{IsUnwanted}
use Rattle.cm_table.specs.Tree.{Tree}
use Rattle.cm_table.proofs.view.TableView.is_wanted.Goals as goal

pub returns : goal.returns
returns c = λ told.
    subst (λ (t : Tree). IsUnwanted t.rows c.args.name.now) c.self.view_is (c.self.invariant.wanted.none c.args.name.now (ap (contains nat_cmp _) (sym c.word_of.ensures) ∙ sym c.contains.ensures ∙ told))
