use Rattle.std.proofs.Common.{◌≡◌, ℕ, zero, suc, ◌+◌, ◌<◌, ◌≤◌, List, [], ◌∷◌, length, take, Bool, true, false, ◌||◌, cond, true≢false, refl, sym, ◌∙◌, ap, subst, IsTrue, inl, inr, arith, get_or, Ordering, Less, Equal, Greater, Result, Ok, Err}
use Rattle.std.specs.Prelude.{map, IfOk, IfSome, IfNone}
use Rattle.std.specs.List.{list_any, HoldsAt}
use Rattle.std.specs.List.Sorted.{IsSearchInRange, IsBinarySearchResult, IsNonDecreasingBy}
use Rattle.std.specs.Ordering.{is_eq, ordering_index, ordering_reverse}
use Rattle.std.specs.Result.{result_ok}
use Rattle.std.specs.BTreeMap.{is_at}
use Rattle.std.specs.Cmp.{both_ways}
use Rattle.std.proofs.Math.Bool.{or-false, or_assoc}
use Rattle.std.proofs.lemmas.Bool.{cases_lt, or_cases}
use Rattle.std.proofs.lemmas.List.{take_all}
use Rattle.std.proofs.lemmas.List.Folds.{list_any_more, list_any-append}
use Rattle.std.proofs.lemmas.Map.Keys.{Less-from_sorted}
use Rattle.cm_facts.proofs.Lists.{list_any_agree, list_any_map}
use Rattle.cm_decl.specs.declared.decl.Decl.{Decl}
use Rattle.cm_decl.specs.declared.node.DynChild.{DynChild}
use Rattle.cm_decl.specs.declared.node.Node.{Node}
use Rattle.cm_decl.specs.declared.node.Node.TheVariants.{Own}
use Rattle.cm_decl.specs.Same.{same_node}
use Rattle.cm_decl.specs.NodeOrder.{node_cmp}
use Rattle.cm_decl.specs.NodeOrderInside.{node_cmp_total}
use Rattle.cm_decl.specs.Graph.{is_node, static_node, dynamic_node}
use Rattle.cm_decl.proofs.lemmas.orders.Comparing.{node_cmp_exact}
use Rattle.cm_decl.proofs.lemmas.Sameness.{same_node-refl, same_node_exact}
use Rattle.cm_deps.specs.Nodes.{at, IsIncreasing, IsNodeNumber}
use Rattle.cm_deps.proofs.lemmas.listed.Listing.{or_right}

-- Each node compares as equal with itself.
equal_self : (x : Node) → node_cmp x x ≡ Equal
equal_self x = by (node_cmp x x) refl
  where
    by : (o : Ordering) → node_cmp x x ≡ o → node_cmp x x ≡ Equal
    by Less e = absurd (let never : ⊥ = cc (node_cmp_total.antisymm x x ∙ ap ordering_reverse e) in never)
    by Equal e = e
    by Greater e = absurd (let never : ⊥ = cc (node_cmp_total.antisymm x x ∙ ap ordering_reverse e) in never)

-- nodes are the same where they compare as equal
pub same_by_cmp : (x y : Node) → is_eq (node_cmp x y) ≡ same_node x y
same_by_cmp x y = both_ways (is_eq (node_cmp x y)) (same_node x y)
    (λ h. subst (λ z. IsTrue (same_node x z)) (node_cmp_exact x y (equal_of (node_cmp x y) h)) (same_node-refl x))
    (λ h. subst (λ z. IsTrue (is_eq (node_cmp x z))) (same_node_exact x y h) (ap is_eq (equal_self x)))
  where
    equal_of : (o : Ordering) → IsTrue (is_eq o) → o ≡ Equal
    equal_of Less h = absurd (true≢false (sym h))
    equal_of Equal h = refl
    equal_of Greater h = absurd (true≢false (sym h))

-- what a set of nodes contains, in other words
pub contains_same : (x : Node) (ks : List Node) → list_any (is_at (node_cmp x)) ks ≡ list_any (same_node x) ks
contains_same x ks = list_any_agree (is_at (node_cmp x)) (same_node x) (λ y. same_by_cmp x y) ks

-- One of two tests, the first asked first, is either of them.
true_or : (p q : Bool) → cond p true q ≡ (q || p)
true_or true true = refl
true_or true false = refl
true_or false true = refl
true_or false false = refl

-- With one more row whose node is put into a set, the set has the nodes of the rows so far.
pub placed_more : {A : Type 0} (node : A → Node) (rows : List A) (i : ℕ) (row : A) (key : Node) (before old new : Node → Bool) → i < length rows → row ≡ get_or rows i row → key ≡ node row → ((x : Node) → old x ≡ (before x || list_any (λ r. same_node (node r) x) (take i rows))) → ((x : Node) → new x ≡ cond (is_at (node_cmp key) x) true (old x)) → (x : Node) → new x ≡ (before x || list_any (λ r. same_node (node r) x) (take (i + 1) rows))
placed_more node rows i row key before old new low here is so_far step = λ x.
    step x ∙ ap (λ v. cond v true (old x)) (same_by_cmp key x) ∙ true_or (same_node key x) (old x) ∙ ap (λ k. old x || same_node k x) is ∙
    ap (λ v. v || same_node (node row) x) (so_far x) ∙ or_assoc (before x) (list_any (λ r. same_node (node r) x) (take i rows)) (same_node (node row) x) ∙
    ap (λ v. before x || v) (ap (λ r. list_any (λ r. same_node (node r) x) (take i rows) || same_node (node r) x) here ∙ sym (list_any_more (λ r. same_node (node r) x) rows i row low))

-- With no rows placed yet, the nodes are those from before.
pub placed_none : {A : Type 0} (node : A → Node) (rows : List A) (before : Node → Bool) → (x : Node) → before x ≡ (before x || list_any (λ r. same_node (node r) x) (take 0 rows))
placed_none node rows before x = sym (or-false (before x))

-- What is before the rows or one of them is so by the nodes of the rows.
pub placed_all : {A : Type 0} (node : A → Node) (rows : List A) (before new : Node → Bool) → ((x : Node) → new x ≡ (before x || list_any (λ r. same_node (node r) x) rows)) → (x : Node) → new x ≡ (before x || list_any (λ y. same_node y x) (map node rows))
placed_all node rows before new all x = all x ∙ ap (λ v. before x || v) (sym (list_any_map (λ y. same_node y x) node rows))

-- Once all rows are placed, the nodes are those from before and those of the rows.
pub placed_end : {A : Type 0} (node : A → Node) (rows : List A) (i : ℕ) (before new : Node → Bool) → i ≤ length rows → length rows ≤ i → ((x : Node) → new x ≡ (before x || list_any (λ r. same_node (node r) x) (take i rows))) → (x : Node) → new x ≡ (before x || list_any (λ y. same_node y x) (map node rows))
placed_end node rows i before new high low so_far = placed_all node rows before new (λ x. so_far x ∙ ap (λ l. before x || list_any (λ r. same_node (node r) x) l) (take_all i rows low))

-- the nodes of a set that was filled so
pub nodes_all : (d : Decl) (dynamic : List DynChild) (keys : List Node) (none first second : Node → Bool) → ((x : Node) → none x ≡ false) → ((x : Node) → first x ≡ cond (is_at (node_cmp Own) x) true (none x)) → ((x : Node) → second x ≡ (first x || list_any (λ y. same_node y x) (map static_node d.children))) → ((x : Node) → list_any (is_at (node_cmp x)) keys ≡ (second x || list_any (λ y. same_node y x) (map dynamic_node dynamic))) → (x : Node) → list_any (same_node x) keys ≡ is_node d dynamic x
nodes_all d dynamic keys none first second empty own declared all x =
    sym (contains_same x keys) ∙ all x ∙
    ap (λ v. v || list_any (λ y. same_node y x) (map dynamic_node dynamic)) (
    declared x ∙
    ap (λ v. v || list_any (λ y. same_node y x) (map static_node d.children)) (
    own x ∙ ap (λ v. cond v true (none x)) (same_by_cmp Own x) ∙ ap (λ v. cond (same_node Own x) true v) (empty x) ∙ true_or (same_node Own x) false
    )
    ) ∙
    sym (list_any-append (λ y. same_node y x) (Own ∷ map static_node d.children) (map dynamic_node dynamic))

-- ---- numbers

-- a node that is among others stands at a place
pub found_at : (x : Node) (nodes : List Node) → IsTrue (list_any (same_node x) nodes) → (i : ℕ) × (i < length nodes) × (at nodes i ≡ x)
found_at x [] h = absurd (true≢false (sym h))
found_at x (y ∷ ys) h = elim (or_cases (same_node x y) (list_any (same_node x) ys) h) as (λ _. (i : ℕ) × (i < length (y ∷ ys)) × (at (y ∷ ys) i ≡ x)) [
  | inl here ↦ (0, omega arith, sym (same_node_exact x y here))
  | inr there ↦ (let rest : (i : ℕ) × (i < length ys) × (at ys i ≡ x) = found_at x ys there in (suc rest.0, omega arith, rest.2))
]

-- what stands at a place is among them
pub at_found : (x : Node) (nodes : List Node) (i : ℕ) → i < length nodes → at nodes i ≡ x → IsTrue (list_any (same_node x) nodes)
at_found x [] i low here = absurd (omega arith)
at_found x (y ∷ ys) zero low here = subst (λ v. IsTrue (same_node x v || list_any (same_node x) ys)) (sym here) (ap (λ v. v || list_any (same_node x) ys) (same_node-refl x))
at_found x (y ∷ ys) (suc i) low here = or_right (same_node x y) (list_any (same_node x) ys) (at_found x ys i (omega arith) here)

-- The number that a search finds for a node is its number.
pub number_some : (nodes : List Node) (x : Node) (r : Result ℕ ℕ) → IsSearchInRange r (length nodes) → IfOk r (HoldsAt (λ y. node_cmp y x ≡ Equal) nodes) → IfSome (result_ok r) (IsNodeNumber nodes x)
number_some nodes x (Ok i) inside equal = record { inside = inside; there = node_cmp_exact (at nodes i) x (equal Own) }
number_some nodes x (Err i) inside equal = tt

-- nodes that rise compare to a node as less, then as equal, then as greater
rises : (nodes : List Node) (x : Node) → IsIncreasing nodes → IsNonDecreasingBy (λ y. ordering_index (node_cmp y x)) nodes
rises nodes x increasing i j d low high = elim (cases_lt i j) as (λ _. ordering_index (node_cmp (get_or nodes i d) x) ≤ ordering_index (node_cmp (get_or nodes j d) x)) [
  | inl before ↦ step (node_cmp (get_or nodes j d) x) refl (Less-from_sorted node_cmp nodes i j d increasing before high)
  | inr from ↦ (let same : i ≡ j = omega arith in subst (λ k. ordering_index (node_cmp (get_or nodes i d) x) ≤ ordering_index (node_cmp (get_or nodes k d) x)) same (omega arith))
]
  where
    small : (o : Ordering) → ordering_index o ≤ 2
    small Less = omega arith
    small Equal = omega arith
    small Greater = omega arith

    step : (o : Ordering) → node_cmp (get_or nodes j d) x ≡ o → node_cmp (get_or nodes i d) (get_or nodes j d) ≡ Less → ordering_index (node_cmp (get_or nodes i d) x) ≤ ordering_index (node_cmp (get_or nodes j d) x)
    step Less e less = let first : node_cmp (get_or nodes i d) x ≡ Less = node_cmp_total.trans (get_or nodes i d) (get_or nodes j d) x less e in rw (first, e) (omega arith)
    step Equal e less = let first : node_cmp (get_or nodes i d) x ≡ Less = subst (λ v. node_cmp (get_or nodes i d) v ≡ Less) (node_cmp_exact (get_or nodes j d) x e) less in rw (first, e) (omega arith)
    step Greater e less = rw e (small (node_cmp (get_or nodes i d) x))

-- Where a search finds no number for a node, it is none of the nodes.
pub number_none : (nodes : List Node) (x : Node) (r : Result ℕ ℕ) → IsIncreasing nodes → IsBinarySearchResult (λ y. node_cmp y x) nodes r → IfNone (result_ok r) (list_any (same_node x) nodes ≡ false)
number_none nodes x (Ok i) increasing found = tt
number_none nodes x (Err i) increasing parts = by (list_any (same_node x) nodes) refl
  where
    apart : (k : ℕ) → k < length nodes → at nodes k ≡ x → ⊥
    apart k low here =
        let equal : node_cmp (at nodes k) x ≡ Equal = subst (λ v. node_cmp v x ≡ Equal) (sym here) (equal_self x) in
        elim (cases_lt k i) as (λ _. ⊥) [
          | inl before ↦ (let less : node_cmp (at nodes k) x ≡ Less = (parts (rises nodes x increasing)).0 k Own (omega arith) before in cc)
          | inr behind ↦ (let greater : node_cmp (at nodes k) x ≡ Greater = (parts (rises nodes x increasing)).1 k Own behind low in cc)
        ]

    by : (b : Bool) → list_any (same_node x) nodes ≡ b → list_any (same_node x) nodes ≡ false
    by true h = let place : (k : ℕ) × (k < length nodes) × (at nodes k ≡ x) = found_at x nodes h in absurd (apart place.0 place.1 place.2)
    by false h = h
