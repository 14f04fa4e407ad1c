use Rattle.std.proofs.Common.{◌≡◌, drop}
use Rattle.cm_plain.specs.JsonTree.{items_view}
use Rattle.cm_read.specs.Sections.{rows_at}
use Rattle.cm_read.proofs.lemmas.Row.{with_prefix}
use Rattle.cm_read.proofs.sections.rows_of.Given as goal

abbrev pub invariant-loop-item : goal.invariant-loop-item
invariant-loop-item g l =
    with_prefix l.rows (rows_at (g.T.SectionItem.reads l.children) l.at (items_view (drop l.item-index l.items)))
    ≡ rows_at (g.T.SectionItem.reads l.children) l.fn.start (items_view l.items)
