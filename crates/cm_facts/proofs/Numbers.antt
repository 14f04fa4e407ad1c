-- Numbers: which are equal, and which is less.
use Rattle.std.proofs.Common.{◌≡◌, ℕ, suc, ◌+◌, ◌<◌, ◌≤◌, ◌==◌, Bool, true, false, refl, arith, rules}
use Rattle.std.specs.Cmp.{unsigned_Decides}

-- A number is its own equal.
pub eq_self : (n : ℕ) → (n == n) ≡ true
eq_self n = (unsigned_Decides n n).1 refl

-- A test for equality, of two numbers that differ.
pub eq_of_ne : (t : Bool) (n m : ℕ) → (n == m) ≡ t → (n ≡ m → ⊥) → t ≡ false
eq_of_ne true n m is differ = absurd (differ ((unsigned_Decides n m).0 is))
eq_of_ne false n m is differ = refl

-- A test for equality, of a number and a greater one.
pub eq_of_lt : (t : Bool) (n m : ℕ) → (n == m) ≡ t → n < m → t ≡ false
eq_of_lt true n m is less = let same : n ≡ m = (unsigned_Decides n m).0 is in absurd (omega arith)
eq_of_lt false n m is less = refl

-- A byte behind ASCII is none of ASCII.
pub eq_high : (b c : ℕ) → 128 ≤ b → c < 128 → (b == c) ≡ false
eq_high b c high low = grind (arith, rules)

-- Below what is at most a number.
pub lt_of_lt_suc : (n m k : ℕ) → n < m → m < suc k → n < k
lt_of_lt_suc n m k low high = omega arith

-- Two steps below a number, and so below the one before it.
pub lt_before : (n m k p : ℕ) → n < m → m < k → k ≡ suc p → n < p
lt_before n m k p low high is = omega arith

-- A sum with one in between is that sum, bracketed from the left.
pub add_between : (a b c : ℕ) → a + (b + 1 + c) ≡ a + b + 1 + c
add_between a b c = omega arith
