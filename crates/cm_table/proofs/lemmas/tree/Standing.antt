-- Where rows of an orderly tree stand.
use Rattle.std.proofs.Common.{◌≡◌, ℕ, ◌<◌, List, Option, Some, None, is_some, option_and_then, refl, sym, ap, subst, arith}
use Rattle.cm_world.specs.declared.row.Row.{Row}
use Rattle.cm_world.specs.Rows.{row_of}
use Rattle.cm_world.specs.Sound.{IsOrderly}

-- The root has neither parent nor name.
bare_row : (rows : List Row) (next : ℕ) (r : Row) (p : Option ℕ) → IsOrderly rows next → row_of rows 0 ≡ Some r → r.parent ≡ p → (None ≡ p) × (None ≡ r.name)
bare_row rows next r None orderly lives above = (refl, sym (orderly.root 0 r lives above).1)
bare_row rows next r (Some p) orderly lives above =
    let lower : p < 0 = (orderly.parents 0 p r lives above).0.lower in absurd (omega arith)

-- The row of incarnation 0, if it is there, has neither parent nor name.
bare_by : (rows : List Row) (next : ℕ) (o : Option Row) → IsOrderly rows next → row_of rows 0 ≡ o → (None ≡ option_and_then (λ r. r.parent) o) × (None ≡ option_and_then (λ r. r.name) o)
bare_by rows next None orderly lives = (refl, refl)
bare_by rows next (Some r) orderly lives = bare_row rows next r r.parent orderly lives refl

-- the first incarnation has neither a parent nor a name
pub root_bare : (rows : List Row) (next i : ℕ) → IsOrderly rows next → i ≡ 0 → (None ≡ option_and_then (λ r. r.parent) (row_of rows i)) × (None ≡ option_and_then (λ r. r.name) (row_of rows i))
root_bare rows next i orderly first =
    subst (λ j. (None ≡ option_and_then (λ r. r.parent) (row_of rows j)) × (None ≡ option_and_then (λ r. r.name) (row_of rows j))) (sym first) (bare_by rows next (row_of rows 0) orderly refl)

-- A row has a name exactly where it has a parent.
named_by : (rows : List Row) (next i : ℕ) (r : Row) (p : Option ℕ) → IsOrderly rows next → row_of rows i ≡ Some r → r.parent ≡ p → is_some p ≡ is_some r.name
named_by rows next i r None orderly lives above = sym (ap is_some (orderly.root i r lives above).1)
named_by rows next i r (Some p) orderly lives above = sym ((orderly.parents i p r lives above).1)

-- a row has a parent exactly where it has a name
pub parent_named : (rows : List Row) (next i : ℕ) (r : Row) → IsOrderly rows next → row_of rows i ≡ Some r → is_some r.parent ≡ is_some r.name
parent_named rows next i r orderly lives = named_by rows next i r r.parent orderly lives refl
