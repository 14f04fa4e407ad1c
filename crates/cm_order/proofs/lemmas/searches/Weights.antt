-- How much of a search down the tree is left.
use Rattle.std.proofs.Common.{◌≡◌, ℕ, zero, suc, ◌+◌, ◌-◌, ◌<◌, ◌≤◌, List, [], ◌∷◌, ◌++◌, Option, Some, None, IsTrue, refl, sym, ◌∙◌, ap, subst, arith}
use Rattle.std.proofs.lemmas.Bool.{ltb-true}
use Rattle.cm_world.specs.declared.row.Row.{Row}
use Rattle.cm_world.specs.RowsInside.{is_behind}
use Rattle.cm_world.specs.Sound.{IsOrderly}
use Rattle.cm_order.specs.declared.below.Spot.{Spot}
use Rattle.cm_order.specs.Spots.{further}
use Rattle.cm_trees.specs.Kids.{IsKid}
use Rattle.cm_trees.proofs.trees.Trees.{kid_higher, kid_within}

-- more than twice as much for each incarnation that is left
weight : ℕ → ℕ
weight zero = 1
weight (suc n) = weight n + weight n + 1

-- A weight is never zero.
weight_some : (n : ℕ) → 0 < weight n
unfolding weight
weight_some zero = omega arith
weight_some (suc n) = omega arith

-- The weight of a number is no more than that of a higher one.
weight_le : (n k : ℕ) → weight n ≤ weight (k + n)
unfolding weight
weight_le n zero = subst (λ m. weight n ≤ weight m) (let e : n ≡ 0 + n = omega arith in e) (omega arith)
weight_le n (suc k) =
    let less : weight n ≤ weight (k + n) = weight_le n k in
    subst (λ m. weight n ≤ weight m) (let e : suc (k + n) ≡ suc k + n = omega arith in e) (let step : weight (suc (k + n)) ≡ weight (k + n) + weight (k + n) + 1 = refl in omega arith)

-- two of less weigh less than one
weight_two : (n m : ℕ) → n < m → weight n + weight n < weight m
unfolding weight
weight_two n m low =
    let e : m ≡ suc ((m - n - 1) + n) = omega arith in
    let less : weight n ≤ weight ((m - n - 1) + n) = weight_le n (m - n - 1) in
    subst (λ k. weight n + weight n < weight k) (sym e) (let step : weight (suc ((m - n - 1) + n)) ≡ weight ((m - n - 1) + n) + weight ((m - n - 1) + n) + 1 = refl in omega arith)

-- the incarnation behind which those of a place stand
start_of : ℕ → Option ℕ → ℕ
start_of p None = p
start_of p (Some b) = b

-- What a place of the search weighs, by the incarnations that are left behind it.
spot_weight : ℕ → Spot → ℕ
spot_weight next s = weight (next - start_of s.inc s.behind)

-- How much of a search is left, by the places that are left.
pub weigh : ℕ → List Spot → ℕ
weigh next [] = 0
weigh next (s ∷ ss) = spot_weight next s + weigh next ss

-- Two lists of places together weigh what both weigh.
weigh_append : (next : ℕ) (xs ys : List Spot) → weigh next (xs ++ ys) ≡ weigh next xs + weigh next ys
unfolding weigh
weigh_append next [] ys = omega arith
weigh_append next (x ∷ xs) ys = let more : weigh next (xs ++ ys) ≡ weigh next xs + weigh next ys = weigh_append next xs ys in omega arith

-- a spot is taken from the end, and what is left of it is put there
further_less : (next : ℕ) (s : Spot) (o : Option ℕ) → ((c : ℕ) → o ≡ Some c → (start_of s.inc s.behind < c) × (c < next)) → weigh next (further s.inc o) < spot_weight next s
unfolding weigh spot_weight start_of
further_less next s None behind = weight_some (next - start_of s.inc s.behind)
further_less next s (Some c) behind =
    let b : (start_of s.inc s.behind < c) × (c < next) = behind c refl in
    let low : start_of s.inc s.behind < c = b.0 in
    let high : c < next = b.1 in
    let less : weight (next - c) + weight (next - c) < weight (next - start_of s.inc s.behind) = weight_two (next - c) (next - start_of s.inc s.behind) (omega arith) in
    omega arith

-- A child behind a place is above the number at which that place starts.
behind_start : (p c : ℕ) (after : Option ℕ) → p < c → IsTrue (is_behind after c) → start_of p after < c
unfolding start_of
behind_start p c None low behind = low
behind_start p c (Some b) low behind = ltb-true b c behind

-- a search that goes on at a child has less left
pub falls : (rows : List Row) (next : ℕ) → IsOrderly rows next → (old rest new : List Spot) (s : Spot) (o : Option ℕ) → old ≡ rest ++ s ∷ [] → new ≡ rest ++ further s.inc o → ((c : ℕ) → o ≡ Some c → IsKid rows s.inc c × IsTrue (is_behind s.behind c)) → weigh next new < weigh next old
unfolding weigh
falls rows next orderly old rest new s o was is kid =
    let less : weigh next (further s.inc o) < spot_weight next s = further_less next s o (λ c e. (behind_start s.inc c s.behind (kid_higher rows next orderly s.inc c (kid c e).0) (kid c e).1, kid_within rows next orderly s.inc c (kid c e).0)) in
    let new_weight : weigh next new ≡ weigh next rest + weigh next (further s.inc o) = ap (weigh next) is ∙ weigh_append next rest (further s.inc o) in
    let old_weight : weigh next old ≡ weigh next rest + weigh next (s ∷ []) = ap (weigh next) was ∙ weigh_append next rest (s ∷ []) in
    omega arith
