use Rattle.std.proofs.Common.{◌≡◌, ℕ, zero, suc, ◌<◌, List, [], ◌∷◌, ◌++◌, length, Bool, true, false, ◌&&◌, ◌||◌, true≢false, refl, sym, ◌∙◌, ap, subst, IsTrue, inl, inr, ◌⊎◌, arith, get_or, nat_eq, Ordering, Less, Equal, Greater}
use Rattle.std.specs.Prelude.{map, filter, nat_lt}
use Rattle.std.specs.List.{list_any, AllByRecursion}
use Rattle.std.specs.List.Sorted.{IsStrictlySortedBy}
use Rattle.std.specs.Ordering.{ordering_reverse}
use Rattle.std.specs.Cmp.{both_ways}
use Rattle.std.proofs.Math.Bool.{and-false, or_self_left}
use Rattle.std.proofs.lemmas.Bool.{cases_lt, or_cases}
use Rattle.std.proofs.lemmas.List.{length-map, get_or-map}
use Rattle.std.proofs.lemmas.Map.Keys.{sorted_tail}
use borrow.Author.Tests.{ltb-true, lt-ltb}
use Rattle.cm_facts.proofs.Booleans.{or_swap}
use Rattle.cm_facts.proofs.Lists.{list_any_agree}
use Rattle.cm_decl.specs.declared.decl.Decl.{Decl}
use Rattle.cm_decl.specs.declared.node.DynChild.{DynChild}
use Rattle.cm_decl.specs.declared.node.Node.{Node}
use Rattle.cm_decl.specs.declared.node.Node.TheVariants.{Own}
use Rattle.cm_decl.specs.Same.{same_node}
use Rattle.cm_decl.specs.NodeOrder.{node_cmp}
use Rattle.cm_decl.specs.NodeOrderInside.{node_cmp_total}
use Rattle.cm_decl.specs.Reach.{NoCycle}
use Rattle.cm_decl.specs.Cycle.{IsPickedCycle}
use Rattle.cm_decl.specs.Graph.{nodes, is_node, is_from_node, sources_of, is_strong_edge, StrongOn}
use Rattle.cm_decl.specs.GraphInside.{realm}
use Rattle.cm_decl.proofs.lemmas.orders.Comparing.{node_cmp_exact}
use Rattle.cm_decl.proofs.lemmas.Sameness.{same_node-refl, same_node_exact}
use Rattle.cm_deps.specs.Edges.{holds, IsToposorted}
use Rattle.cm_deps.specs.Nodes.{at, IsIncreasing, IsNodes}
use Rattle.cm_deps.specs.Sources.{IsEdges}
use Rattle.cm_deps.proofs.lemmas.listed.Listing.{same_nat, nat_eq-refl, or_left, or_right, holds_push}
use Rattle.cm_deps.proofs.lemmas.numbers.Numbering.{ring_picked}
use Rattle.cm_deps.proofs.lemmas.listed.Topological.{IsRealmOf}
use Rattle.cm_deps.proofs.lemmas.numbers.Depending.{listed_acyclic}
use Rattle.cm_deps.proofs.lemmas.numbers.Realms.{realm_of}
use Rattle.cm_deps.proofs.lemmas.numbers.Existing.{below, can_be_toposorted, has_ring}

-- ---- nodes in increasing order

-- all that is greater than a node is greater than one that is less
all_above : (y k : Node) (xs : List Node) → node_cmp y k ≡ Less → AllByRecursion (λ z. node_cmp k z ≡ Less) xs → AllByRecursion (λ z. node_cmp y z ≡ Less) xs
all_above y k [] less all = tt
all_above y k (x ∷ xs) less all = (node_cmp_total.trans y k x less all.0, all_above y k xs less all.1)

-- nodes in increasing order, with one more
record Put (ks : List Node) (k : Node) : Type 0 where
  keys : List Node
  increasing : IsIncreasing keys
  all : (x : Node) → list_any (same_node x) keys ≡ (same_node x k || list_any (same_node x) ks)
  above : (y : Node) → node_cmp y k ≡ Less → AllByRecursion (λ z. node_cmp y z ≡ Less) ks → AllByRecursion (λ z. node_cmp y z ≡ Less) keys

-- A node is put among nodes in increasing order.
put : (ks : List Node) → IsIncreasing ks → (k : Node) → Put ks k
unfolding IsStrictlySortedBy
put [] increasing k = record { keys = k ∷ []; increasing = (tt, tt); all = λ x. refl; above = λ y less all. (less, tt) }
put (x ∷ xs) increasing k = by (node_cmp k x) refl (put xs (sorted_tail node_cmp x xs increasing) k)
  where
    by : (o : Ordering) → node_cmp k x ≡ o → Put xs k → Put (x ∷ xs) k
    by Less e rest = record {
      keys = k ∷ x ∷ xs;
      increasing = ((e, all_above k x xs e increasing.0), increasing);
      all = λ y. refl;
      above = λ y less all. (less, all);
    }
    by Equal e rest = record {
      keys = x ∷ xs;
      increasing = increasing;
      all = λ y. sym (or_self_left (same_node y x) (list_any (same_node y) xs)) ∙ ap (λ v. same_node y v || (same_node y x || list_any (same_node y) xs)) (sym (node_cmp_exact k x e));
      above = λ y less all. all;
    }
    by Greater e rest =
        let behind : node_cmp x k ≡ Less = node_cmp_total.antisymm x k ∙ ap ordering_reverse e in
        record {
          keys = x ∷ rest.keys;
          increasing = (rest.above x behind increasing.0, rest.increasing);
          all = λ y. ap (λ v. same_node y x || v) (rest.all y) ∙ or_swap (same_node y x) (same_node y k) (list_any (same_node y) xs);
          above = λ y less all. (all.0, rest.above y less all.1);
        }

-- each list of nodes can be sorted
sorted : (xs : List Node) → (ks : List Node) × IsIncreasing ks × ((x : Node) → list_any (same_node x) ks ≡ list_any (same_node x) xs)
unfolding IsStrictlySortedBy
sorted [] = ([], tt, λ x. refl)
sorted (y ∷ ys) =
    let rest : (ks : List Node) × IsIncreasing ks × ((x : Node) → list_any (same_node x) ks ≡ list_any (same_node x) ys) = sorted ys in
    let more : Put rest.0 y = put rest.0 rest.1 y in
    (more.keys, more.increasing, λ x. more.all x ∙ ap (λ v. same_node x y || v) (rest.2 x))

-- One node is the same as another exactly where the other is the same as it.
same_turned : (x y : Node) → same_node x y ≡ same_node y x
same_turned x y = both_ways (same_node x y) (same_node y x)
    (λ h. subst (λ v. IsTrue (same_node v x)) (same_node_exact x y h) (same_node-refl x))
    (λ h. subst (λ v. IsTrue (same_node v y)) (same_node_exact y x h) (same_node-refl y))

-- The nodes of a declaration with its dynamic children, in increasing order.
nodes_of : (d : Decl) (dynamic : List DynChild) → (ks : List Node) × IsNodes (is_node d dynamic) ks
nodes_of d dynamic =
    let all : (ks : List Node) × IsIncreasing ks × ((x : Node) → list_any (same_node x) ks ≡ list_any (same_node x) (nodes d dynamic)) = sorted (nodes d dynamic) in
    (all.0, record { increasing = all.1; all = λ x. all.2 x ∙ list_any_agree (same_node x) (λ y. same_node y x) (same_turned x) (nodes d dynamic) })

-- ---- their edges

-- A number is among those below a bound exactly where it is below it.
holds_below : (n j : ℕ) → holds (below n) j ≡ nat_lt j n
holds_below zero j = both_ways false (nat_lt j 0) (λ h. absurd (true≢false (sym h))) (λ h. absurd (let low : j < 0 = ltb-true j 0 h in omega arith))
holds_below (suc n) j = holds_push (below n) n j ∙ ap (λ b. b || nat_eq j n) (holds_below n j) ∙ both_ways (nat_lt j n || nat_eq j n) (nat_lt j (suc n))
    (λ h. elim (or_cases (nat_lt j n) (nat_eq j n) h) as (λ _. IsTrue (nat_lt j (suc n))) [
      | inl low ↦ lt-ltb j (suc n) (let before : j < n = ltb-true j n low in omega arith)
      | inr same ↦ lt-ltb j (suc n) (let here : j ≡ n = same_nat j n same in omega arith)
    ])
    (λ h. (let low : j < suc n = ltb-true j (suc n) h in
    elim (cases_lt j n) as (λ _. IsTrue (nat_lt j n || nat_eq j n)) [
      | inl before ↦ or_left (nat_lt j n) (nat_eq j n) (lt-ltb j n before)
      | inr from ↦ (let here : j ≡ n = omega arith in or_right (nat_lt j n) (nat_eq j n) (subst (λ v. IsTrue (nat_eq j v)) here (nat_eq-refl j)))
    ]))

-- A number is among those of a list that pass exactly where it is in the list and passes.
holds_filter : (p : ℕ → Bool) (xs : List ℕ) (j : ℕ) → holds (filter p xs) j ≡ (holds xs j && p j)
holds_filter p [] j = refl
holds_filter p (x ∷ xs) j = by (p x) refl (nat_eq j x) refl (holds_filter p xs j)
  where
    by : (b : Bool) → p x ≡ b → (e : Bool) → nat_eq j x ≡ e → holds (filter p xs) j ≡ (holds xs j && p j) → holds (filter p (x ∷ xs)) j ≡ (holds (x ∷ xs) j && p j)
    by true f true e later = rw (f, e) (sym (ap p (same_nat j x e) ∙ f))
    by true f false e later = rw (f, e) later
    by false f true e later = let fails : p j ≡ false = ap p (same_nat j x e) ∙ f in rw (f, e, fails) (later ∙ ap (λ v. holds xs j && v) fails ∙ and-false (holds xs j))
    by false f false e later = rw (f, e) later

-- The strong edges of a declaration's nodes, as rows of numbers.
edges_of : (d : Decl) (dynamic : List DynChild) (ks : List Node) → (rows : List (List ℕ)) × IsEdges d dynamic ks rows
edges_of d dynamic ks = (
  map of ks,
  record {
    size = length-map ks of;
    sources = λ i low j. ap (λ l. holds l j) (get_or-map of ks i Own [] low) ∙
        holds_filter (λ v. list_any (is_from_node (at ks v)) (sources_of d dynamic (at ks i))) (below (length ks)) j ∙
        ap (λ v. v && list_any (is_from_node (at ks j)) (sources_of d dynamic (at ks i))) (holds_below (length ks) j);
  },
)
  where
    of : Node → List ℕ
    of x = filter (λ v. list_any (is_from_node (at ks v)) (sources_of d dynamic x)) (below (length ks))

-- a realm graph has no cycle, or it has a picked one
pub acyclic_or_picked : (d : Decl) (dynamic : List DynChild) → NoCycle (StrongOn d dynamic) ⊎ ((cycle : List Node) × IsPickedCycle (is_strong_edge d dynamic) cycle)
acyclic_or_picked d dynamic =
    let ks : (ks : List Node) × IsNodes (is_node d dynamic) ks = nodes_of d dynamic in
    let rows : (rows : List (List ℕ)) × IsEdges d dynamic ks.0 rows = edges_of d dynamic ks.0 in
    let r : IsRealmOf ks.0 rows.0 (realm d dynamic) = realm_of d dynamic ks.0 rows.0 ks.1 rows.1 in
    let toposorted : (order : List ℕ) × IsToposorted rows.0 order = can_be_toposorted rows.0 in
    elim (has_ring rows.0 toposorted.0 r.numbered.below toposorted.1) as (λ _. NoCycle (StrongOn d dynamic) ⊎ ((cycle : List Node) × IsPickedCycle (is_strong_edge d dynamic) cycle)) [
      | inl all ↦ inl (listed_acyclic ks.0 rows.0 (realm d dynamic) toposorted.0 r toposorted.1.grown all)
      | inr ring ↦ inr (map (at ks.0) ring.0 ++ at ks.0 (get_or ring.0 0 0) ∷ [], ring_picked ks.0 (is_strong_edge d dynamic) rows.0 toposorted.0 ring.0 r.numbered toposorted.1 ring.1)
    ]
