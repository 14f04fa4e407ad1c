-- Inside.
-- Items that have increasing keys, in a list or in a list of parts.
use Rattle.std.specs.Prelude.{◌≡◌, ℕ, zero, suc, ◌<◌, ◌≤◌, ◌==◌, List, [], ◌∷◌, Option, Some, None}
use Rattle.std.specs.Prelude.{IsSome, find, length, get_or, Bool, false, nat_le}

-- P holds of all items
abbrev pub EachItem : {A : Type 0} → (A → Type 0) → List A → Type 0
EachItem P [] = Unit {0}
EachItem P (x ∷ xs) = P x × EachItem P xs

-- the items of two lists are related one by one, and the lists are as long
abbrev pub EachOf : {A : Type 0} → (A → A → Type 0) → List A → List A → Type 0
EachOf R [] [] = Unit {0}
EachOf R [] (y ∷ ys) = ⊥
EachOf R (x ∷ xs) [] = ⊥
EachOf R (x ∷ xs) (y ∷ ys) = R x y × EachOf R xs ys

-- the item at this place, if there is one
abbrev pub nth : {A : Type 0} → List A → ℕ → Option A
nth [] k = None
nth (x ∷ xs) zero = Some x
nth (x ∷ xs) (suc k) = nth xs k

-- a list of this one item, for lists that are parts of themselves
abbrev pub alone : {A : Type 0} → A → List A
alone x = x ∷ []

-- none of these parts is empty
abbrev pub Filled : {X Y : Type 0} → (X → List Y) → List X → Type 0
Filled f [] = Unit {0}
Filled f (x ∷ xs) = (0 < length (f x)) × Filled f xs

-- none of these parts is empty, but perhaps the one at place k
abbrev pub AreFilledBut : {X Y : Type 0} → (X → List Y) → ℕ → List X → Type 0
AreFilledBut f k [] = Unit {0}
AreFilledBut f zero (x ∷ xs) = Filled f xs
AreFilledBut f (suc k) (x ∷ xs) = (0 < length (f x)) × AreFilledBut f k xs

module _ {Y : Type 0} (key : Y → ℕ) where
  -- the item with this key, if there is one
  abbrev pub item_of : List Y → ℕ → Option Y
  item_of ys i = find (λ y. key y == i) ys

  -- the key of the first item, or 0
  abbrev pub first_key : List Y → ℕ
  first_key [] = 0
  first_key (y ∷ ys) = key y

  -- keys increase along the list
  abbrev pub Increasing : List Y → Type 0
  Increasing [] = Unit {0}
  Increasing (y ∷ ys) = ((j : ℕ) → IsSome (item_of ys j) → key y < j) × Increasing ys

-- whether a part begins at key i or below; false where there is none
abbrev pub reaches : {X Y : Type 0} → (Y → ℕ) → (X → List Y) → ℕ → Option X → Bool
reaches key f i None = false
reaches key f i (Some x) = nat_le (first_key key (f x)) i

-- the parts before place k begin at key i or below, and the others above, as a binary search finds it
pub record IsPlace {X Y : Type 0} (key : Y → ℕ) (f : X → List Y) (xs : List X) (i k : ℕ) : Type 0 where
  pub bound : k ≤ length xs
  pub low : (j : ℕ) (d : X) → j < k → first_key key (f (get_or xs j d)) ≤ i
  pub high : (j : ℕ) (d : X) → k ≤ j → j < length xs → i < first_key key (f (get_or xs j d))

-- the item with key i is at place k
pub record IsItemAt {Y : Type 0} (key : Y → ℕ) (ys : List Y) (i k : ℕ) : Type 0 where
  pub bound : k < length ys
  pub own : (d : Y) → key (get_or ys k d) ≡ i
  pub found : (d : Y) → item_of key ys i ≡ Some (get_or ys k d)
