use Rattle.std.proofs.Common.{◌≡◌, ℕ, ◌<◌, List, [], ◌∷◌, ◌++◌, length, Bool, take, ◌+◌, ap, sym, ◌∙◌, subst, IsTrue, inl, inr, arith, get_or, nat_eq}
use Rattle.std.specs.Prelude.{map}
use Rattle.std.proofs.lemmas.List.{take_more, map-append}
use Rattle.std.proofs.lemmas.Bool.{or_cases}
use Rattle.cm_decl.specs.declared.decl.Decl.{Decl}
use Rattle.cm_decl.specs.declared.node.DynChild.{DynChild}
use Rattle.cm_decl.specs.declared.node.Node.{Node}
use Rattle.cm_decl.specs.Graph.{is_node, is_strong_edge, StrongOn}
use Rattle.cm_decl.specs.GraphInside.{realm, IsTopologicalOrder}
use Rattle.cm_decl.specs.RealmGraph.{Directly}
use Rattle.cm_decl.specs.Reach.{NoCycle}
use Rattle.cm_decl.specs.Cycle.{IsPickedCycle}
use Rattle.cm_decl.proofs.lemmas.orders.Orders as orders
use Rattle.cm_deps.specs.Edges.{holds, IsBelow}
use Rattle.cm_deps.specs.Ring.{LeadsToLeast, IsRing}
use Rattle.cm_deps.specs.Implied.{IsOrderedGraph}
use Rattle.cm_deps.specs.Shapes.{IsLeftRing}
use Rattle.cm_deps.specs.Closure.{IsClosure}
use Rattle.cm_deps.specs.Nodes.{at, IsNodes}
use Rattle.cm_deps.specs.Sources.{IsEdges}
use Rattle.cm_deps.specs.Graph.{IsReachability}
use Rattle.cm_deps.proofs.lemmas.listed.Listing.{same_nat}
use Rattle.cm_deps.proofs.lemmas.loops.Ways.{DependencyPath-inside, Reaches-along}
use Rattle.cm_deps.proofs.lemmas.numbers.Numbering.{number_once, way_inside, ring_picked}
use Rattle.cm_deps.proofs.lemmas.numbers.Increasing.{increasing_keys}
use Rattle.cm_deps.proofs.lemmas.listed.Topological.{IsRealmOf, falling_order}
use Rattle.cm_deps.proofs.lemmas.numbers.Depending.{IsDirect, direct_full, direct_strong, ring_cycle, reach_depends, depends_reach}
use Rattle.cm_deps.proofs.lemmas.numbers.Realms.{realm_of}

-- what arranging a numbered realm asks for
pub realm_below : (d : Decl) (dynamic : List DynChild) (nodes : List Node) (after : List (List ℕ)) → IsNodes (is_node d dynamic) nodes → IsEdges d dynamic nodes after → IsBelow after (length after)
realm_below d dynamic nodes after is edges = (realm_of d dynamic nodes after is edges).numbered.below

-- The numbered graph of a realm has some node.
pub realm_some : (d : Decl) (dynamic : List DynChild) (nodes : List Node) (after : List (List ℕ)) → IsNodes (is_node d dynamic) nodes → IsEdges d dynamic nodes after → 0 < length after
realm_some d dynamic nodes after is edges = let some : 0 < length nodes = (realm_of d dynamic nodes after is edges).some in omega (arith, edges.size)

-- ---- an order

-- Each number in the order of a realm graph is that of a node.
pub order_inside : (d : Decl) (dynamic : List DynChild) (nodes : List Node) (after full : List (List ℕ)) (order : List ℕ) → IsEdges d dynamic nodes after → IsOrderedGraph after full order → (i : ℕ) → IsTrue (holds order i) → i < length nodes
order_inside d dynamic nodes after full order edges is i held = let low : i < length after = is.inside i held in omega (arith, edges.size)

-- The nodes with the numbers of an order are a topological order of the realm graph.
pub order_made : (d : Decl) (dynamic : List DynChild) (nodes : List Node) (after full : List (List ℕ)) (order : List ℕ) (list : List Node) → IsNodes (is_node d dynamic) nodes → IsEdges d dynamic nodes after → IsOrderedGraph after full order → list ≡ map (at nodes) order → IsTopologicalOrder (realm d dynamic) list
order_made d dynamic nodes after full order list sorted edges is same =
    subst (IsTopologicalOrder (realm d dynamic)) (sym same)
    (falling_order nodes after (realm d dynamic) is.reached full order (realm_of d dynamic nodes after sorted edges) is.reach is.edges is.falling
    (λ i low. is.whole i (omega (arith, edges.size))) (order_inside d dynamic nodes after full order edges is))

-- ---- what each node reaches

-- The closure of the direct edges tells for each node what it depends on, direct or not.
reached_of : (d : Decl) (dynamic : List DynChild) (nodes : List Node) (direct all : List (List ℕ)) → IsNodes (is_node d dynamic) nodes → length direct ≡ length nodes → IsDirect nodes direct (realm d dynamic) → IsClosure direct (length direct) all → IsReachability d dynamic nodes all
reached_of d dynamic nodes direct all sorted size is whole = λ i j low high. (
  (λ held. reach_depends nodes direct (realm d dynamic) is i j ((whole.reach i (omega (arith, size))).only j held)),
  (λ way. (whole.reach i (omega (arith, size))).all j (depends_reach nodes direct (realm d dynamic) is (number_once nodes (increasing_keys nodes sorted.increasing)) i j low high way)),
)

-- Where there is an order, all that the full graph reaches is what the nodes depend on.
pub order_reached : (d : Decl) (dynamic : List DynChild) (nodes : List Node) (after full all : List (List ℕ)) (order : List ℕ) → IsNodes (is_node d dynamic) nodes → IsEdges d dynamic nodes after → IsOrderedGraph after full order → IsClosure full (length full) all → IsReachability d dynamic nodes all
order_reached d dynamic nodes after full all order sorted edges is whole =
    reached_of d dynamic nodes full all sorted (is.edges.size ∙ edges.size)
    (direct_full nodes after (realm d dynamic) is.listed is.reached full (realm_of d dynamic nodes after sorted edges) is.toposorted.grown is.all is.reach is.edges) whole

-- Where there is a cycle, all that the strong edges reach is what the nodes depend on.
pub ring_reached : (d : Decl) (dynamic : List DynChild) (nodes : List Node) (after all : List (List ℕ)) (ring : List ℕ) → IsNodes (is_node d dynamic) nodes → IsEdges d dynamic nodes after → IsLeftRing after ring → IsClosure after (length after) all → IsReachability d dynamic nodes all
ring_reached d dynamic nodes after all ring sorted edges is whole =
    let r : IsRealmOf nodes after (realm d dynamic) = realm_of d dynamic nodes after sorted edges in
    reached_of d dynamic nodes after all sorted edges.size (direct_strong nodes after (realm d dynamic) r (ring_cycle nodes after (realm d dynamic) (holds is.listed) ring r is.picked)) whole

-- ---- a cycle

-- All numbers of a ring are below the number of nodes.
ring_low : (after : List (List ℕ)) (listed : ℕ → Bool) (ring : List ℕ) → IsBelow after (length after) → IsRing after listed ring → (z : ℕ) → IsTrue (holds ring z) → z < length after
ring_low after listed ring below is z held = elim (or_cases (nat_eq z is.head) (holds is.others z) (subst (λ l. IsTrue (holds l z)) is.whole held)) as (λ _. z < length after) [
  | inl first ↦ subst (λ k. k < length after) (sym (same_nat z is.head first)) top
  | inr behind ↦ way_inside after listed (length after) below is.head is.others is.head is.loop z behind
]
  where
    top : is.head < length after
    top = elim is.reached as (λ _. is.head < length after) [
      | inl same ↦ subst (λ k. k < length after) same is.first.inside
      | inr way ↦ DependencyPath-inside (LeadsToLeast after listed) (λ k. k < length after) (λ i j low leads. below i j leads.on) is.start is.first.inside way.0 is.head way.1
    ]

-- Each number in the cycle that is told of a realm graph is that of a node.
pub ring_inside : (d : Decl) (dynamic : List DynChild) (nodes : List Node) (after : List (List ℕ)) (ring : List ℕ) → IsNodes (is_node d dynamic) nodes → IsEdges d dynamic nodes after → IsLeftRing after ring → (z : ℕ) → IsTrue (holds ring z) → z < length nodes
ring_inside d dynamic nodes after ring sorted edges is z held =
    let low : z < length after = ring_low after (holds is.listed) ring (realm_below d dynamic nodes after sorted edges) is.picked z held in omega (arith, edges.size)

-- The cycle that is told has some node.
pub ring_some : (after : List (List ℕ)) (ring : List ℕ) → IsLeftRing after ring → 0 < length ring
ring_some after ring is = subst (λ l. 0 < length l) (sym is.picked.whole) (omega arith)

-- The nodes of the cycle's numbers, with the first once more at the end, are the picked cycle.
pub cycle_made : (d : Decl) (dynamic : List DynChild) (nodes : List Node) (after : List (List ℕ)) (ring : List ℕ) (list : List Node) → IsNodes (is_node d dynamic) nodes → IsEdges d dynamic nodes after → IsLeftRing after ring → list ≡ map (at nodes) ring ++ at nodes (get_or ring 0 0) ∷ [] → IsPickedCycle (is_strong_edge d dynamic) list
cycle_made d dynamic nodes after ring list sorted edges is same =
    subst (IsPickedCycle (is_strong_edge d dynamic)) (sym same)
    (ring_picked nodes (is_strong_edge d dynamic) after is.listed ring (realm_of d dynamic nodes after sorted edges).numbered is.toposorted is.picked)

-- ---- a realm that has an order has no cycle of strong edges

-- A realm graph that has a topological order has no cycle of strong edges.
pub ordered_acyclic : (d : Decl) (dynamic : List DynChild) (order : List Node) → IsTopologicalOrder (realm d dynamic) order → NoCycle (StrongOn d dynamic)
ordered_acyclic d dynamic order is (x, way) =
    orders.ordered_acyclic d dynamic order is (x, Reaches-along (StrongOn d dynamic) (Directly (realm d dynamic)) (λ a b on. inl on) x x way)

-- The nodes of numbers, one more of them taken, are those before and the node of that number.
pub nodes_more : (nodes : List Node) (numbers : List ℕ) (i : ℕ) → i < length numbers → map (at nodes) (take (i + 1) numbers) ≡ map (at nodes) (take i numbers) ++ at nodes (get_or numbers i 0) ∷ []
nodes_more nodes numbers i low = ap (map (at nodes)) (take_more numbers i 0 low) ∙ map-append (at nodes) (take i numbers) (get_or numbers i 0 ∷ [])
