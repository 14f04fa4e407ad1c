-- The first item with a higher key, found by binary search.
use Rattle.std.proofs.Common.{◌≡◌, ℕ, List, [], ◌∷◌, Bool, find, refl, arith, get_or, le_refl}
use Rattle.std.specs.Prelude.{nat_lt}
use Rattle.std.proofs.lemmas.Bool.{lt-ltb, le-ltb}
use Rattle.cm_table.specs.Keys.{alone, nth, IsPlace}
use Rattle.cm_table.proofs.lemmas.lists.BinarySearch.{find-nth}

module _ {Y : Type 0} (key : Y → ℕ) where
  -- Whether an item has a higher key than this one.
  abbrev pub is_higher : ℕ → Y → Bool
  is_higher i y = nat_lt i (key y)

  -- among items
  pub behind_item : (ss : List Y) (i k : ℕ) → IsPlace key alone ss i k → find (is_higher i) ss ≡ nth ss k
  behind_item [] i k p = refl
  behind_item (s ∷ ss) i k p =
      find-nth (is_higher i) (s ∷ ss) k s p.bound
      (λ j less. le-ltb i (key (get_or (s ∷ ss) j s)) (p.low j s less))
      (λ lt. lt-ltb i (key (get_or (s ∷ ss) k s)) (p.high k s (le_refl k) lt))
