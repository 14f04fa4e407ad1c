-- Inside.
-- When the keys of two rows are near each other, as they are wherever the rows clash.
use Rattle.std.specs.Prelude.{◌≡◌, ℕ, ◌<◌, ◌≤◌, List, [], ◌∷◌, Bool, true, false, ◌&&◌, ◌||◌, ◌==◌, Some}
use Rattle.std.specs.Prelude.{slice_get, length}
use Rattle.std.specs.Ordering.{nat_cmp, is_lt}
use Rattle.std.specs.Cmp.Lexicographic.{slice_cmp}
use Rattle.cm_valid.specs.declared.key.RowKey.{RowKey}

-- whether the second key is the first one, or goes on after it with a zero: a path within a path
abbrev pub covers : List ℕ → List ℕ → Bool
covers [] [] = true
covers [] (b ∷ inner) = b == 0
covers (a ∷ outer) [] = false
covers (a ∷ outer) (b ∷ inner) = a == b && covers outer inner

-- whether one of two keys covers the other
abbrev pub near : List ℕ → List ℕ → Bool
near a b = covers a b || covers b a

-- key a comes before key b in byte order, or is the same
abbrev pub AtMost : List ℕ → List ℕ → Type 0
AtMost a b = is_lt (slice_cmp nat_cmp b a) ≡ false

-- the keys are sorted by their texts
abbrev pub IsInOrder : List RowKey → Type 0
IsInOrder keys =
    (i j : ℕ) (a b : RowKey) → i ≤ j → slice_get keys i ≡ Some a → slice_get keys j ≡ Some b
    → AtMost a.text b.text

-- no two keys of the first n rows are near each other
abbrev pub ApartKeys : List RowKey → ℕ → Type 0
ApartKeys keys n =
    (i j : ℕ) (a b : RowKey) → slice_get keys i ≡ Some a → slice_get keys j ≡ Some b → a.row < b.row
    → b.row < n → near a.text b.text ≡ false

-- one key for each row, in the order of the rows
pub record AreKeys {A : Type 0} (key : A → List ℕ) (rows : List A) (keys : List RowKey) : Type 0 where
  pub whole : length keys ≡ length rows
  pub each : (i : ℕ) (a : A) → slice_get rows i ≡ Some a
      → slice_get keys i ≡ Some (record { text = key a; row = i })

-- no two of the first n rows have keys that are near each other
abbrev pub KeysAreApart : {A : Type 0} → (A → List ℕ) → List A → ℕ → Type 0
KeysAreApart {A} key rows n =
    (i j : ℕ) (a b : A) → slice_get rows i ≡ Some a → slice_get rows j ≡ Some b → i < j → j < n
    → near (key a) (key b) ≡ false
