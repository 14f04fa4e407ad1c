-- Inside.
-- Orders of items by keys, in which they are found by binary search. An order is a list of the items'
-- places.
use Rattle.std.specs.Prelude.{◌≡◌, ℕ, ◌<◌, List, true, false, Option, length, slice_get}
use Rattle.std.specs.List.{Contains}
use Rattle.std.specs.List.Sorted.{IsSorted, IsPartitionPoint}
use Rattle.std.specs.Ordering.{nat_cmp, ordering_then, is_lt}
use Rattle.std.specs.declared.cmp.Ordering.{Ordering}

-- the order of two places by the keys of their items, then by the places themselves
abbrev pub place_cmp_by : {X K : Type 0} → (Option X → K) → (K → K → Ordering) → List X → ℕ → ℕ → Ordering
place_cmp_by key cmp items a b =
    ordering_then (cmp (key (slice_get items a)) (key (slice_get items b))) (nat_cmp a b)

-- the first n places have keys before this one, and the others don't: where a binary search ends
abbrev pub IsSplitBy : {X K : Type 0} → (Option X → K) → (K → K → Ordering) → List X → List ℕ → K → ℕ → Type 0
IsSplitBy key cmp items places w n =
    IsPartitionPoint (λ k. is_lt (cmp (key (slice_get items k)) w) ≡ true)
    (λ k. is_lt (cmp (key (slice_get items k)) w) ≡ false) places n

-- the places of all items, in that order
pub record IsOrderBy {X K : Type 0} (key : Option X → K) (cmp : K → K → Ordering) (items : List X)
    (places : List ℕ) : Type 0 where
  pub all : (k : ℕ) → k < length items → Contains places k
  pub within : (k : ℕ) → Contains places k → k < length items
  pub sorted : IsSorted (place_cmp_by key cmp items) places
