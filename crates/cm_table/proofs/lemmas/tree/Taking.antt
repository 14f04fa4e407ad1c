-- A row that got its declaration, and the rows of its children.
use Rattle.std.proofs.Common.{◌≡◌, ℕ, ◌+◌, ◌==◌, List, length, length-append, ◌∙◌, ap}
use Rattle.cm_decl.specs.declared.decl.Decl.{Decl}
use Rattle.cm_world.specs.declared.row.Row.{Row}
use Rattle.cm_world.specs.declared.action.Outcome.TheVariants as outcome
use Rattle.cm_world.specs.declared.action.Finish.TheVariants as finish
use Rattle.cm_world.specs.End.{changed, child_rows, rows_by}
use Rattle.cm_table.specs.declared.change.Change.TheVariants.{Resolve}
use Rattle.cm_table.specs.Change.{change_row}
use Rattle.cm_trees.proofs.rows.Edits.{length-edit_first}
use Rattle.cm_table.proofs.lemmas.slots.Numbers.{length-child_rows}

-- A resolve adds as many rows as the declaration has children.
pub length-taken : (i next : ℕ) (a : List ℕ) (d : Decl) (rows : List Row) → length (rows_by i next (finish.Resolved a d) outcome.Resolved rows) ≡ length rows + length d.children
length-taken i next a d rows =
    length-append (changed i (change_row (Resolve a d)) rows) (child_rows i next d.children)
    ∙ ap (λ n. n + length (child_rows i next d.children)) (length-edit_first (λ r. r.inc == i) (change_row (Resolve a d)) rows)
    ∙ ap (λ n. length rows + n) (length-child_rows i next d.children)
