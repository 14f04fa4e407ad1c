-- Up the tree.
use Rattle.std.proofs.Common.{◌≡◌, ℕ, ◌||◌, ◌==◌, List, Bool, true, false, true≢false, not, is_some, Option, Some, None, length, option_map, option_and_then, refl, sym, ◌∙◌, ap, ap₂}
use Rattle.std.specs.Cmp.{unsigned_Decides}
use Rattle.std.specs.Option.{option_map_or}
use Rattle.cm_facts.proofs.Numbers.{eq_of_ne}
use Rattle.cm_facts.proofs.Options.{option_map_none}
use Rattle.cm_world.specs.declared.row.Row.{Row}
use Rattle.cm_world.specs.declared.view.Facts.{Facts}
use Rattle.cm_world.specs.Rows.{row_of, at_or_above, some_above, is_gone, is_closed, is_shut}
use Rattle.cm_world.specs.RowsInside.{facts_of}
use Rattle.cm_world.specs.Sound.{IsOrderly}
use Rattle.cm_world.proofs.lemmas.trees.Climbing.{some_above-step, above_root}
use Rattle.cm_world.proofs.lemmas.trees.Finding.{none_some, some_same, row_of-inc}
use Rattle.cm_trees.proofs.trees.Standing.{nothing_above}

-- the row that facts were told of
pub record Told (o : Option Row) (f : Facts) : Type 0 where
  pub row : Row
  pub lives : o ≡ Some row
  pub facts : f ≡ facts_of row

-- The facts that were made of a row are told of it.
told_by : (o : Option Row) (f : Facts) → Some f ≡ option_map facts_of o → Told o f
told_by None f e = absurd (none_some f (sym e))
told_by (Some r) f e = record { row = r; lives = refl; facts = some_same f (facts_of r) e }

-- Facts that are told of an incarnation are those of its row, which lives.
pub told : (rows : List Row) (i : ℕ) (f : Facts) → Some f ≡ option_map facts_of (row_of rows i) → Told (row_of rows i) f
told rows i f e = told_by (row_of rows i) f e

-- ---- a mark at a row or above it

-- Where the first of two tests fails, one of both passes exactly where the second does.
pub or_by : (b c : Bool) → b ≡ false → (b || c) ≡ c
or_by b c e = rw e refl

-- Where a row itself doesn't pass, a test of it and those above is that of those above.
step_by : (p : Row → Bool) (rows : List Row) (next i : ℕ) (o : Option Row) → IsOrderly rows next → row_of rows i ≡ o → option_map_or p o false ≡ false → some_above p rows i ≡ at_or_above (length rows) p rows (option_and_then (λ r. r.parent) o)
step_by p rows next i None orderly lives misses = nothing_above (length rows) p rows i lives ∙ sym (above_root (length rows) p rows)
step_by p rows next i (Some r) orderly lives misses =
    some_above-step p rows next i r orderly lives ∙ or_by (p r) (at_or_above (length rows) p rows r.parent) misses

-- where a row doesn't have it, the rows above it decide
pub no_mark_here : (all : Bool) (p : Row → Bool) (rows : List Row) (next i : ℕ) (at above : Option ℕ) → IsOrderly rows next → at ≡ Some i → above ≡ option_and_then (λ r. r.parent) (row_of rows i) → option_map_or p (row_of rows i) false ≡ false → all ≡ at_or_above (length rows) p rows at → all ≡ at_or_above (length rows) p rows above
no_mark_here all p rows next i at above orderly here up misses so_far =
    so_far
    ∙ ap (at_or_above (length rows) p rows) here
    ∙ step_by p rows next i (row_of rows i) orderly refl misses
    ∙ sym (ap (at_or_above (length rows) p rows) up)

-- Where a row itself passes, one at or above it passes.
found_by : (p : Row → Bool) (rows : List Row) (next i : ℕ) (o : Option Row) → IsOrderly rows next → row_of rows i ≡ o → option_map_or p o false ≡ true → some_above p rows i ≡ true
found_by p rows next i None orderly lives hits = absurd (true≢false (sym hits))
found_by p rows next i (Some r) orderly lives hits =
    some_above-step p rows next i r orderly lives ∙ ap (λ b. b || at_or_above (length rows) p rows r.parent) hits

-- where a row has it, that is decided
pub mark_found : (all : Bool) (p : Row → Bool) (rows : List Row) (next i : ℕ) (at : Option ℕ) → all ≡ at_or_above (length rows) p rows at → IsOrderly rows next → at ≡ Some i → option_map_or p (row_of rows i) false ≡ true → true ≡ all
mark_found all p rows next i at so_far orderly here hits =
    sym (so_far ∙ ap (at_or_above (length rows) p rows) here ∙ found_by p rows next i (row_of rows i) orderly refl hits)

-- Above the root no row has the mark, so the search up ends there with none.
pub no_mark : (all : Bool) (p : Row → Bool) (rows : List Row) (at : Option ℕ) → all ≡ at_or_above (length rows) p rows at → at ≡ None → false ≡ all
no_mark all p rows at so_far top = sym (so_far ∙ ap (at_or_above (length rows) p rows) top ∙ above_root (length rows) p rows)

-- ---- the mark of an incarnation

-- whether a row has an incarnation
number_is : (rows : List Row) (i top : ℕ) (f : Facts) → Some f ≡ option_map facts_of (row_of rows i) → (i == top) ≡ option_map_or (λ r. r.inc == top) (row_of rows i) false
number_is rows i top f e =
    let t : Told (row_of rows i) f = told rows i f e in
    ap (λ j. j == top) (sym (row_of-inc rows i t.row t.lives)) ∙ sym (ap (λ o. option_map_or (λ r. r.inc == top) o false) t.lives)

-- A row that facts are told of passes the test for the top, where its incarnation is the top's.
pub number_hit : (rows : List Row) (i top : ℕ) (f : Facts) → Some f ≡ option_map facts_of (row_of rows i) → i ≡ top → option_map_or (λ r. r.inc == top) (row_of rows i) false ≡ true
number_hit rows i top f e same = sym (number_is rows i top f e) ∙ (unsigned_Decides i top).1 same

-- A row that facts are told of doesn't pass the test for the top, where its incarnation isn't that.
pub number_missed : (rows : List Row) (i top : ℕ) (f : Facts) → Some f ≡ option_map facts_of (row_of rows i) → (i ≡ top → ⊥) → option_map_or (λ r. r.inc == top) (row_of rows i) false ≡ false
number_missed rows i top f e differ = sym (number_is rows i top f e) ∙ eq_of_ne (i == top) i top refl differ

-- The parent in the facts that are told of an incarnation is the parent of its row.
pub parent_told : (rows : List Row) (i : ℕ) (f : Facts) → Some f ≡ option_map facts_of (row_of rows i) → f.parent ≡ option_and_then (λ r. r.parent) (row_of rows i)
parent_told rows i f e =
    let t : Told (row_of rows i) f = told rows i f e in
    ap (λ (g : Facts). g.parent) t.facts ∙ sym (ap (option_and_then (λ (r : Row). r.parent)) t.lives)

-- ---- the facts of a row, and what is above it

-- where a row isn't there, nothing is found
pub no_row : (all : Bool) (p : Row → Bool) (rows : List Row) (i : ℕ) (at : Option ℕ) → all ≡ at_or_above (length rows) p rows at → at ≡ Some i → None ≡ option_map facts_of (row_of rows i) → false ≡ all
no_row all p rows i at so_far here none =
    sym (so_far ∙ ap (at_or_above (length rows) p rows) here ∙ nothing_above (length rows) p rows i (option_map_none facts_of (row_of rows i) (sym none)))

-- Whether a row that lives is gone is told by what is at and above it.
pub gone_above : (rows : List Row) (i : ℕ) (f : Facts) → Some f ≡ option_map facts_of (row_of rows i) → some_above (λ r. r.doomed) rows i ≡ is_gone rows i
gone_above rows i f e =
    let t : Told (row_of rows i) f = told rows i f e in
    sym (ap (λ o. not (is_some o) || some_above (λ r. r.doomed) rows i) t.lives)

-- An incarnation that no facts are told of is gone.
pub gone_none : (rows : List Row) (i : ℕ) → None ≡ option_map facts_of (row_of rows i) → true ≡ is_gone rows i
gone_none rows i e = sym (ap (λ o. not (is_some o) || some_above (λ r. r.doomed) rows i) (option_map_none facts_of (row_of rows i) (sym e)))

-- Whether a row is shut is told by its facts.
pub shut_told : (rows : List Row) (i : ℕ) (f : Facts) → Some f ≡ option_map facts_of (row_of rows i) → f.shut ≡ is_shut rows i
shut_told rows i f e =
    let t : Told (row_of rows i) f = told rows i f e in
    ap (λ (g : Facts). g.shut) t.facts ∙ sym (ap (λ o. option_map_or (λ (r : Row). r.shut) o false) t.lives)

-- An incarnation that no facts are told of isn't closed.
pub closed_none : (rows : List Row) (i : ℕ) → None ≡ option_map facts_of (row_of rows i) → false ≡ is_closed rows i
closed_none rows i e =
    let none : row_of rows i ≡ None = option_map_none facts_of (row_of rows i) (sym e) in
    sym (ap₂ (λ a b. a || b) (nothing_above (length rows) (λ r. r.closing) rows i none) (ap (λ o. option_map_or (λ (r : Row). r.shut) o false) none))
