use Rattle.std.proofs.Common.{◌≡◌, ℕ, List, [], ◌∷◌, Bool, false, ◌&&◌, ◌||◌, true≢false, Option, Some, None, refl, sym, ◌∙◌, ap, subst, IsTrue, inl, inr, ◌⊎◌, bytes_eq}
use Rattle.std.specs.Option.{option_eq}
use Rattle.std.specs.Cmp.Lexicographic.{bytes_decides}
use Rattle.std.proofs.lemmas.Bool.{or_cases}
use Rattle.cm_names.specs.declared.dependency.Dependency.{Dependency}
use Rattle.cm_names.specs.declared.dependency.Dependency.TheVariants.{Strong, Weak}
use Rattle.cm_decl.specs.declared.node.Node.{Node}
use Rattle.cm_decl.specs.declared.node.Node.TheVariants.{Own, Child}
use Rattle.cm_decl.specs.Same.{same_node}
use Rattle.cm_decl.specs.NodeOrder.{node_at_most}
use Rattle.cm_decl.specs.Graph.{is_strong_edge, StrongOn, static_name, is_node}
use Rattle.cm_decl.specs.Cycle.{IsSupported, InCore, IsLeast, NextInCore, IsPickedCycle}
use Rattle.cm_decl.specs.Reach.{NoCycle}
use Rattle.cm_decl.specs.Examples.{two_ways, child_node, a, b}
use Rattle.cm_decl.proofs.lemmas.orders.Orders.{edge_nodes}
use Rattle.cm_decl.proofs.lemmas.cycles.Reaching.{acyclic_by_ends}
use Rattle.cm_decl.proofs.lemmas.Sameness.{never}

-- Where a name without collection is the same as a child's, that child has no collection and is it.
static_same : (text : List ℕ) (coll : Option (List ℕ)) (name : List ℕ) → IsTrue (option_eq bytes_eq None coll && bytes_eq text name) → record { coll = coll; name = name } ≡ static_name text
static_same text (Some k) name h = absurd (true≢false (sym h))
static_same text None name h = ap static_name (sym ((bytes_decides text name).0 h))

-- the node of a static child is told by its name
pub static_node_same : (text : List ℕ) (x : Node) → IsTrue (same_node (child_node text) x) → x ≡ child_node text
static_node_same text Own h = absurd (true≢false (sym h))
static_node_same text (Child n) h = ap Child (static_same text n.coll n.name h)

-- The node of the first of the two children.
abbrev at_a : Node
at_a = child_node a

-- The node of the second of the two children.
abbrev at_b : Node
at_b = child_node b

-- a node of this graph is the component or one of the two children
three : (k : Dependency) (x : Node) → IsTrue (is_node (two_ways k) [] x) → (x ≡ Own) ⊎ ((x ≡ at_a) ⊎ (x ≡ at_b))
three k Own h = inl refl
three k (Child n) h =
    elim (or_cases (same_node at_a (Child n)) (same_node at_b (Child n) || false) h) as (λ _. (Child n ≡ Own) ⊎ ((Child n ≡ at_a) ⊎ (Child n ≡ at_b))) [
      | inl here ↦ inr (inl (static_node_same a (Child n) here))
      | inr there ↦ elim (or_cases (same_node at_b (Child n)) false there) as (λ _. (Child n ≡ Own) ⊎ ((Child n ≡ at_a) ⊎ (Child n ≡ at_b))) [
        | inl here ↦ inr (inr (static_node_same b (Child n) here))
        | inr never ↦ absurd (true≢false (sym never))
      ]
    ]

-- The nodes of the two children differ.
apart : at_a ≡ at_b → ⊥
apart e = true≢false (ap (same_node at_a) e)

-- Two nodes are the two children, in one order or the other.
Ends : Node → Node → Type 0
Ends x y = ((x ≡ at_a) × (y ≡ at_b)) ⊎ ((x ≡ at_b) × (y ≡ at_a))

-- A strong edge between nodes is one between nodes that are the same.
move : (k : Dependency) (x y u v : Node) → x ≡ u → y ≡ v → StrongOn (two_ways k) [] x y → StrongOn (two_ways k) [] u v
move k x y u v e f h = subst (λ z. StrongOn (two_ways k) [] u z) f (subst (λ z. StrongOn (two_ways k) [] z y) e h)

-- Where both ways are strong, each strong edge is between the two children.
two_ends : (x y : Node) → StrongOn (two_ways Strong) [] x y → Ends x y
unfolding Ends
two_ends x y h =
    elim (three Strong x (edge_nodes (two_ways Strong) [] x y h).0) as (λ _. Ends x y) [
      | inl own ↦ elim (three Strong y (edge_nodes (two_ways Strong) [] x y h).1) as (λ _. Ends x y) [
        | inl o ↦ never (move Strong x y Own Own own o h)
        | inr (inl o) ↦ never (move Strong x y Own at_a own o h)
        | inr (inr o) ↦ never (move Strong x y Own at_b own o h)
      ]
      | inr (inl e) ↦ elim (three Strong y (edge_nodes (two_ways Strong) [] x y h).1) as (λ _. Ends x y) [
        | inl o ↦ never (move Strong x y at_a Own e o h)
        | inr (inl o) ↦ never (move Strong x y at_a at_a e o h)
        | inr (inr o) ↦ inl (e, o)
      ]
      | inr (inr e) ↦ elim (three Strong y (edge_nodes (two_ways Strong) [] x y h).1) as (λ _. Ends x y) [
        | inl o ↦ never (move Strong x y at_b Own e o h)
        | inr (inl o) ↦ inr (e, o)
        | inr (inr o) ↦ never (move Strong x y at_b at_b e o h)
      ]
    ]

-- Where one way is weak, the only strong edge is from the second child to the first.
weak_ends : (x y : Node) → StrongOn (two_ways Weak) [] x y → (x ≡ at_b) × (y ≡ at_a)
weak_ends x y h =
    elim (three Weak x (edge_nodes (two_ways Weak) [] x y h).0) as (λ _. (x ≡ at_b) × (y ≡ at_a)) [
      | inl own ↦ elim (three Weak y (edge_nodes (two_ways Weak) [] x y h).1) as (λ _. (x ≡ at_b) × (y ≡ at_a)) [
        | inl o ↦ never (move Weak x y Own Own own o h)
        | inr (inl o) ↦ never (move Weak x y Own at_a own o h)
        | inr (inr o) ↦ never (move Weak x y Own at_b own o h)
      ]
      | inr (inl e) ↦ elim (three Weak y (edge_nodes (two_ways Weak) [] x y h).1) as (λ _. (x ≡ at_b) × (y ≡ at_a)) [
        | inl o ↦ never (move Weak x y at_a Own e o h)
        | inr (inl o) ↦ never (move Weak x y at_a at_a e o h)
        | inr (inr o) ↦ never (move Weak x y at_a at_b e o h)
      ]
      | inr (inr e) ↦ elim (three Weak y (edge_nodes (two_ways Weak) [] x y h).1) as (λ _. (x ≡ at_b) × (y ≡ at_a)) [
        | inl o ↦ never (move Weak x y at_b Own e o h)
        | inr (inl o) ↦ (e, o)
        | inr (inr o) ↦ never (move Weak x y at_b at_b e o h)
      ]
    ]

-- with a weak offer back there is no cycle
pub weak_acyclic : NoCycle (StrongOn (two_ways Weak) [])
weak_acyclic = acyclic_by_ends (StrongOn (two_ways Weak) []) (λ x y z first second. apart (sym (weak_ends x y first).1 ∙ (weak_ends y z second).0))

-- Whether a node is one of the two children.
abbrev ring : Node → Bool
ring z = is_strong_edge (two_ways Strong) [] z at_a || is_strong_edge (two_ways Strong) [] z at_b

-- Each of the two children depends directly on one of them, where both ways are strong.
ring_supported : IsSupported (is_strong_edge (two_ways Strong) []) ring
ring_supported x h =
    elim (or_cases (is_strong_edge (two_ways Strong) [] x at_a) (is_strong_edge (two_ways Strong) [] x at_b) h) as (λ _. (y : Node) × IsTrue (ring y) × IsTrue (is_strong_edge (two_ways Strong) [] x y)) [
      | inl e ↦ (at_a, refl, e)
      | inr e ↦ (at_b, refl, e)
    ]

-- Where both ways are strong, the first child is in the core.
core_a : InCore (is_strong_edge (two_ways Strong) []) at_a
core_a = (ring, refl, ring_supported)

-- Where both ways are strong, the second child is in the core.
core_b : InCore (is_strong_edge (two_ways Strong) []) at_b
core_b = (ring, refl, ring_supported)

-- a node of the core is one of the two children
core_ends : (y : Node) → InCore (is_strong_edge (two_ways Strong) []) y → (y ≡ at_a) ⊎ (y ≡ at_b)
unfolding Ends
core_ends y core =
    let next : (z : Node) × IsTrue (core.0 z) × IsTrue (is_strong_edge (two_ways Strong) [] y z) = core.2 y core.1 in
    elim (two_ends y next.0 next.2) as (λ _. (y ≡ at_a) ⊎ (y ≡ at_b)) [ inl e ↦ inl e.0 | inr e ↦ inr e.0 ]

-- Where both ways are strong, the first child is the least node of the core.
least_a : IsLeast (InCore (is_strong_edge (two_ways Strong) [])) at_a
least_a = (
  core_a,
  λ y core. elim (core_ends y core) as (λ _. IsTrue (node_at_most at_a y)) [
    | inl e ↦ subst (λ z. IsTrue (node_at_most at_a z)) (sym e) refl
    | inr e ↦ subst (λ z. IsTrue (node_at_most at_a z)) (sym e) refl
  ],
)

-- The second child is the least of the core on which the first depends, where both ways are strong.
a_to_b : NextInCore (is_strong_edge (two_ways Strong) []) at_a at_b
unfolding Ends
a_to_b = (
  (core_b, refl),
  λ y on. elim (two_ends at_a y on.1) as (λ _. IsTrue (node_at_most at_b y)) [
    | inl e ↦ subst (λ z. IsTrue (node_at_most at_b z)) (sym e.1) refl
    | inr e ↦ absurd (apart e.0)
  ],
)

-- The first child is the least of the core on which the second depends, where both ways are strong.
b_to_a : NextInCore (is_strong_edge (two_ways Strong) []) at_b at_a
unfolding Ends
b_to_a = (
  (core_a, refl),
  λ y on. elim (two_ends at_b y on.1) as (λ _. IsTrue (node_at_most at_a y)) [
    | inl e ↦ absurd (apart (sym e.0))
    | inr e ↦ subst (λ z. IsTrue (node_at_most at_a z)) (sym e.1) refl
  ],
)

-- with strong offers both ways the picked cycle is a, b, a
pub ring_is_picked : IsPickedCycle (is_strong_edge (two_ways Strong) []) (at_a ∷ at_b ∷ at_a ∷ [])
ring_is_picked = record {
  start = at_a;
  least_of_core = least_a;
  head = at_a;
  others = at_b ∷ [];
  reached = inl refl;
  loop = (a_to_b, b_to_a);
  once = refl;
  least = refl;
  whole = refl;
}
