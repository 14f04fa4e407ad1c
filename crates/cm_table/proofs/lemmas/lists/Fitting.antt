-- What fits.
use Rattle.std.proofs.Common.{◌≡◌, ℕ, ◌+◌, ◌-◌, ◌<◌, ◌≤◌, ◌^◌, true, leb-true, arith}
use Rattle.std.specs.Prelude.{nat_le, length}
use Rattle.std.specs.Cmp.{first_so, second_so}
use Rattle.cm_table.specs.Tree.{Tree, fit}

-- A number that is at most one less than another is below that one.
below_limit : (n m : ℕ) → 0 < m → n ≤ m - 1 → n < m
below_limit n m some h = omega arith

-- rows that fit get incarnations below 2 ^ 64 - 1
pub fit_below : (t : Tree) (n : ℕ) → fit t n ≡ true → t.next_inc + n < 2 ^ 64
fit_below t n h =
    below_limit (t.next_inc + n) (2 ^ 64) (omega arith)
    (leb-true (t.next_inc + n) (2 ^ 64 - 1) (second_so (nat_le (length t.rows + n) t.limit) (nat_le (t.next_inc + n) (2 ^ 64 - 1)) h))

-- Rows that fit stay within the limit.
pub fit_within : (t : Tree) (n : ℕ) → fit t n ≡ true → length t.rows + n ≤ t.limit
fit_within t n h =
    leb-true (length t.rows + n) t.limit (first_so (nat_le (length t.rows + n) t.limit) (nat_le (t.next_inc + n) (2 ^ 64 - 1)) h)
