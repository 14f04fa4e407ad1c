-- Cycles of one relation that are cycles of another.
use Rattle.std.proofs.Common.{◌≡◌, List, [], ◌∷◌, subst}
use Rattle.cm_decl.specs.Reach.{DependencyPath, Reaches, NoCycle}

-- nodes of the one are nodes of the other: each that a step leads to is one, at most one, and each step is one of the other
pub record IsMapped {M N : Type 0} (On : M → M → Type 0) (Along : N → N → Type 0) (Is : M → N → Type 0) : Type 0 where
  pub node : (x y : M) → On x y → (n : N) × Is y n
  pub once : (x : M) (m n : N) → Is x m → Is x n → m ≡ n
  pub step : (x y : M) (n : N) → Is x n → On x y → (m : N) × Is y m × Along n m

module _ {M N : Type 0} (On : M → M → Type 0) (Along : N → N → Type 0) (Is : M → N → Type 0) (maps : IsMapped On Along Is) where
  -- What a path of one relation leads to is a node of the other.
  last_node : (x : M) (xs : List M) (y : M) → DependencyPath On x xs y → (n : N) × Is y n
  last_node x [] y on = maps.node x y on
  last_node x (z ∷ zs) y way = last_node z zs y way.1

  -- a way is one of the other
  along : (x : M) (n : N) → Is x n → (xs : List M) (y : M) → DependencyPath On x xs y → (m : N) × Is y m × Reaches Along n m
  along x n is [] y on =
      let last : (m : N) × Is y m × Along n m = maps.step x y n is on in (last.0, last.1, ([], last.2))
  along x n is (z ∷ zs) y way =
      let first : (m : N) × Is z m × Along n m = maps.step x z n is way.0 in
      let rest : (m : N) × Is y m × Reaches Along first.0 m = along z first.0 first.1 zs y way.1 in
      (rest.0, rest.1, (first.0 ∷ rest.2.0, (first.2, rest.2.1)))

  -- where the other has no cycle, this one has none
  pub mapped_acyclic : NoCycle Along → NoCycle On
  mapped_acyclic none (x, way) =
      let first : (n : N) × Is x n = last_node x way.0 x way.1 in
      let round : (m : N) × Is x m × Reaches Along first.0 m = along x first.0 first.1 way.0 x way.1 in
      none (first.0, subst (Reaches Along first.0) (maps.once x round.0 first.0 round.1 first.1) round.2)
