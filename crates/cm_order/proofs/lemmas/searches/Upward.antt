-- The way up from a row whose facts are told.
use Rattle.std.proofs.Common.{◌≡◌, ℕ, List, false, not, cond, Option, Some, None, option_map, option_and_then, refl, sym, ◌∙◌, ap}
use Rattle.std.specs.Option.{option_map_or, option_or}
use Rattle.cm_world.specs.declared.row.Row.{Row}
use Rattle.cm_world.specs.declared.view.Facts.{Facts}
use Rattle.cm_world.specs.Rows.{row_of, is_closing}
use Rattle.cm_world.specs.RowsInside.{facts_of}
use Rattle.cm_world.specs.Sound.{IsOrderly}
use Rattle.cm_world.specs.Stopping.{outermost}
use Rattle.cm_world.proofs.lemmas.trees.Finding.{none_some, some_same}
use Rattle.cm_trees.proofs.trees.Tops.{outermost_from, goes_up, goes_no_further}

-- What is there or else nothing is what is there.
or_none : (o : Option ℕ) → o ≡ option_or o None
or_none None = refl
or_none (Some x) = refl

-- The parent that facts tell is that of the row.
parent_told : (f : Facts) (o : Option Row) → Some f ≡ option_map facts_of o → f.parent ≡ option_and_then (λ r. r.parent) o
parent_told f None told = absurd (none_some f (sym told))
parent_told f (Some r) told = ap (λ g. g.parent) (some_same f (facts_of r) told)

-- Facts tell whether the row is closing itself.
closing_told : (f : Facts) (o : Option Row) → Some f ≡ option_map facts_of o → f.closing ≡ option_map_or (λ r. r.closing) o false
closing_told f None told = absurd (none_some f (sym told))
closing_told f (Some r) told = ap (λ g. g.closing) (some_same f (facts_of r) told)

-- facts tell whether the row isn't shut itself
pub unshut_told : (f : Facts) (o : Option Row) → Some f ≡ option_map facts_of o → option_map_or (λ r. not r.shut) o false ≡ not f.shut
unshut_told f None told = absurd (none_some f (sym told))
unshut_told f (Some r) told = sym (ap (λ g. not g.shut) (some_same f (facts_of r) told))

-- a row at or above which none is closing has no outermost closing one
pub stays_without : (rows : List Row) (i : ℕ) → is_closing rows i ≡ false → None ≡ outermost rows i
stays_without rows i off = goes_no_further rows (outermost rows i) i (Some i) None refl off (or_none (outermost rows i))

-- the way up from a row whose facts are told goes on at its parent
pub first_upward : (rows : List Row) (next : ℕ) → IsOrderly rows next → (i : ℕ) (f : Facts) (at found : Option ℕ) → Some f ≡ option_map facts_of (row_of rows i) → at ≡ f.parent → found ≡ cond f.closing (Some i) None → outermost rows i ≡ option_or (outermost_from rows at) found
first_upward rows next orderly i f at found told up closing =
    goes_up rows next orderly (outermost rows i) i (Some i) at None found refl
    (up ∙ parent_told f (row_of rows i) told)
    (closing ∙ ap (λ b. cond b (Some i) None) (closing_told f (row_of rows i) told))
    (or_none (outermost rows i))
