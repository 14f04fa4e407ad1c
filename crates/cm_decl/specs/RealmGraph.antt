-- Promised.
-- Graphs with a node that stands for the component itself, and which node depends on which.
use Rattle.std.specs.Prelude.{◌≡◌, ◌≢◌, Bool, IsTrue, ◌⊎◌}
use Rattle.cm_decl.specs.Reach.{Reaches, NoCycle}

-- a graph: the node of the component itself, which nodes it has, and its strong edges
pub record RealmGraph (N : Type 0) : Type 0 where
  pub own : N
  pub has : N → Bool
  pub edge : N → N → Bool

-- a strong edge: x strongly depends on y
abbrev pub Strong : {N : Type 0} → RealmGraph N → N → N → Type 0
Strong r x y = IsTrue (r.edge x y)

-- an implied edge: in a graph without a cycle, each child on which the component doesn't depend
-- depends on the component
pub record IsImplied {N : Type 0} (r : RealmGraph N) (x y : N) : Type 0 where
  pub acyclic : NoCycle (Strong r)
  pub node : IsTrue (r.has x)
  pub child : x ≢ r.own
  pub apart : Reaches (Strong r) r.own x → ⊥
  pub own : y ≡ r.own

-- x depends on y directly, by a strong or an implied edge
abbrev pub Directly : {N : Type 0} → RealmGraph N → N → N → Type 0
Directly r x y = Strong r x y ⊎ IsImplied r x y

-- x depends on y, directly or through others
abbrev pub Depends : {N : Type 0} → RealmGraph N → N → N → Type 0
Depends r x y = Reaches (Directly r) x y
