-- The row of an incarnation, where it is the first row or a later one.
use Rattle.std.proofs.Common.{◌≡◌, ℕ, ◌==◌, List, ◌∷◌, false, cond, Some, IsTrue, is_some, refl, ap, ne_eqb, ne_of_lt}
use Rattle.cm_facts.proofs.Numbers.{eq_self}
use Rattle.cm_world.specs.declared.row.Row.{Row}
use Rattle.cm_world.specs.Rows.{row_of}
use Rattle.cm_world.specs.Sound.{IncarnationsIncrease}

-- the first row is found
pub first_row : (x : Row) (xs : List Row) → row_of (x ∷ xs) x.inc ≡ Some x
first_row x xs = ap (λ t. cond t (Some x) (row_of xs x.inc)) (eq_self x.inc)

-- The incarnation of the first row is that of some row.
pub first_lives : (x : Row) (xs : List Row) → IsTrue (is_some (row_of (x ∷ xs) x.inc))
first_lives x xs = ap is_some (first_row x xs)

-- a later row is found, since its incarnation is another
pub later_row : (next : ℕ) (x r : Row) (xs : List Row) → IncarnationsIncrease next (x ∷ xs) → row_of xs r.inc ≡ Some r → row_of (x ∷ xs) r.inc ≡ Some r
later_row next x r xs increasing here =
    let miss : (x.inc == r.inc) ≡ false = ne_eqb x.inc r.inc (ne_of_lt (increasing.0.1 r.inc (ap is_some here))) in
    rw miss here
