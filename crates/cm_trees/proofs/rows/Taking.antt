-- A row that got its declaration, and the rows of its children.
use Rattle.std.proofs.Common.{◌≡◌, ℕ, ◌+◌, List, Option, Some, None, IsTrue, length, refl, sym, ◌∙◌, ap, subst, inr}
use Rattle.std.specs.Prelude.{option_and_then}
use Rattle.cm_facts.proofs.Options.{is_some_true}
use Rattle.cm_decl.specs.declared.decl.Decl.{Decl}
use Rattle.cm_decl.specs.Valid.{IsValid}
use Rattle.cm_world.specs.declared.row.Row.{Row}
use Rattle.cm_world.specs.declared.action.Outcome.TheVariants as outcome
use Rattle.cm_world.specs.declared.action.Finish.TheVariants as finish
use Rattle.cm_world.specs.Rows.{row_of, is_live, decl_of}
use Rattle.cm_world.specs.End.{changed, rows_by, set_decl, set_pending}
use Rattle.cm_world.specs.Sound.{IsOrderly}
use Rattle.cm_world.proofs.lemmas.trees.Finding.{some_same}
use Rattle.cm_trees.proofs.rows.Rows.{Was, was_before, row_of-changed}
use Rattle.cm_trees.proofs.rows.Orderly.{IsKeeping, kept_parent, orderly_changed}
use Rattle.cm_trees.proofs.rows.Siblings.{valid_apart}
use Rattle.cm_trees.proofs.rows.Growth.{orderly_with_children, childless}

-- A row of which no declaration is read has none.
pub unresolved_row : (o : Option Row) (q : Row) → o ≡ Some q → option_and_then (λ r. r.decl) o ≡ None → q.decl ≡ None
unresolved_row o q e none = sym (ap (λ z. option_and_then (λ r. r.decl) z) e) ∙ none

-- a row that gets a valid declaration keeps its place
pub keeps_taken : (a : List ℕ) (d : Decl) → IsValid d → IsKeeping (λ r. set_decl a d (set_pending None r))
keeps_taken a d valid = record { inc = λ r. refl; parent = λ r. refl; name = λ r. refl; doomed = λ r h. h; resolved = λ r h. refl; valid = λ r e h. inr (subst IsValid (some_same d e h) valid) }

-- rows stay orderly where a living, unresolved row gets a valid declaration, with its children
pub orderly_taken : (i next : ℕ) (a : List ℕ) (d : Decl) (rows : List Row) → IsOrderly rows next → IsTrue (is_live rows i) → decl_of rows i ≡ None → IsValid d → IsOrderly (rows_by i next (finish.Resolved a d) outcome.Resolved rows) (next + length d.children)
orderly_taken i next a d rows o lives unresolved valid =
    let f : Row → Row = λ r. set_decl a d (set_pending None r) in
    let k : IsKeeping f = keeps_taken a d valid in
    let row : (q : Row) × (row_of rows i ≡ Some q) = is_some_true (row_of rows i) lives in
    let none : row.0.decl ≡ None = unresolved_row (row_of rows i) row.0 row.1 unresolved in
    orderly_with_children d.children (changed i f rows) i next (f row.0) (orderly_changed f k i next rows o) (row_of-changed i f k.inc rows row.0 row.1) refl
    (λ j s here up. let w : Was f (row_of rows j) s = was_before i f k.inc rows j s here in
    childless rows next i row.0 o row.1 none j w.row w.was (sym (kept_parent f k s w.row w.is) ∙ up))
    (valid_apart d valid)
