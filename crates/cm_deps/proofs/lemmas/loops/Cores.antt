use Rattle.std.proofs.Common.{◌≡◌, ℕ, zero, suc, ◌<◌, List, [], ◌∷◌, length, take, Bool, true, false, true≢false, Some, refl, sym, ap, IsTrue, arith, nat_eq}
use Rattle.std.specs.Prelude.{slice_get}
use Rattle.cm_decl.specs.Reach.{DependencyPath}
use Rattle.cm_deps.specs.Edges.{holds, IsReverseTopological, On}
use Rattle.cm_deps.proofs.lemmas.listed.Listing.{same_nat}

-- each node of the set depends directly on a node of the set
abbrev pub IsSupported : List (List ℕ) → (ℕ → Bool) → Type 0
IsSupported after member = (x : ℕ) → IsTrue (member x) → (y : ℕ) × IsTrue (member y) × On after x y

-- A node that a list holds stands at some place of it.
pub held_at : (xs : List ℕ) (x : ℕ) → IsTrue (holds xs x) → (k : ℕ) × (k < length xs) × (slice_get xs k ≡ Some x)
held_at [] x held = absurd (true≢false (sym held))
held_at (y ∷ ys) x held = by (nat_eq x y) refl (held_at ys x)
  where
    by : (b : Bool) → nat_eq x y ≡ b → (IsTrue (holds ys x) → (k : ℕ) × (k < length ys) × (slice_get ys k ≡ Some x)) → (k : ℕ) × (k < length (y ∷ ys)) × (slice_get (y ∷ ys) k ≡ Some x)
    by true same later = (0, omega arith, ap Some (sym (same_nat x y same)))
    by false other later =
        let rest : IsTrue (holds ys x) = rw other at held in
        let found : (k : ℕ) × (k < length ys) × (slice_get ys k ≡ Some x) = later rest in (suc found.0, omega arith, found.2)

-- what stands in a prefix stands there in the whole
pub prefix_at : (xs : List ℕ) (n k x : ℕ) → slice_get (take n xs) k ≡ Some x → slice_get xs k ≡ Some x
prefix_at xs zero k x at = absurd (let never : ⊥ = cc in never)
prefix_at [] (suc n) k x at = at
prefix_at (y ∷ ys) (suc n) zero x at = at
prefix_at (y ∷ ys) (suc n) (suc k) x at = prefix_at ys n k x at

-- A place of one of the first items of a list is below the number of these.
pub prefix_short : (xs : List ℕ) (n k x : ℕ) → slice_get (take n xs) k ≡ Some x → k < n
prefix_short xs zero k x at = absurd (let never : ⊥ = cc in never)
prefix_short [] (suc n) k x at = absurd (let never : ⊥ = cc in never)
prefix_short (y ∷ ys) (suc n) zero x at = omega arith
prefix_short (y ∷ ys) (suc n) (suc k) x at = let rest : k < n = prefix_short ys n k x at in omega arith

-- what a listed node depends on stands before it
pub stands_before : (after : List (List ℕ)) (order : List ℕ) → IsReverseTopological after order → (k x y : ℕ) → slice_get order k ≡ Some x → On after x y → (l : ℕ) × (l < k) × (slice_get order l ≡ Some y)
stands_before after order grown k x y at on =
    let held : (l : ℕ) × (l < length (take k order)) × (slice_get (take k order) l ≡ Some y) = held_at (take k order) y ((grown k x at).ready y on) in
    (held.0, prefix_short order k held.0 y held.2, prefix_at order k held.0 y held.2)

-- In an order by dependents no listed node is in a set whose nodes each lead to one of it.
none_below : (after : List (List ℕ)) (order : List ℕ) → IsReverseTopological after order → (member : ℕ → Bool) → IsSupported after member → (n k x : ℕ) → k < n → slice_get order k ≡ Some x → IsTrue (member x) → ⊥
none_below after order grown member supported zero k x low at is = omega arith
none_below after order grown member supported (suc n) k x low at is =
    let next : (y : ℕ) × IsTrue (member y) × On after x y = supported x is in
    let earlier : (l : ℕ) × (l < k) × (slice_get order l ≡ Some next.0) = stands_before after order grown k x next.0 at next.2 in
    none_below after order grown member supported n earlier.0 next.0 (omega arith) earlier.2 next.1

-- No node that is listed is in a set in which each node depends on one of the set.
pub listed_unsupported : (after : List (List ℕ)) (order : List ℕ) → IsReverseTopological after order → (member : ℕ → Bool) → IsSupported after member → (x : ℕ) → IsTrue (holds order x) → IsTrue (member x) → ⊥
listed_unsupported after order grown member supported x held is =
    let at : (k : ℕ) × (k < length order) × (slice_get order k ≡ Some x) = held_at order x held in
    none_below after order grown member supported (suc at.0) at.0 x (omega arith) at.2 is

-- what a listed node reaches stands before it
pub reached_before : (after : List (List ℕ)) (order : List ℕ) → IsReverseTopological after order → (x : ℕ) (between : List ℕ) (y k : ℕ) → slice_get order k ≡ Some x → DependencyPath (On after) x between y → (l : ℕ) × (l < k) × (slice_get order l ≡ Some y)
reached_before after order grown x [] y k at on = stands_before after order grown k x y at on
reached_before after order grown x (z ∷ zs) y k at way =
    let first : (l : ℕ) × (l < k) × (slice_get order l ≡ Some z) = stands_before after order grown k x z at way.0 in
    let rest : (l : ℕ) × (l < first.0) × (slice_get order l ≡ Some y) = reached_before after order grown z zs y first.0 first.2 way.1 in
    (rest.0, omega arith, rest.2)
