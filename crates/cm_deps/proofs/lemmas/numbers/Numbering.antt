use Rattle.std.proofs.Common.{◌≡◌, ℕ, zero, suc, ◌<◌, ◌≤◌, List, [], ◌∷◌, ◌++◌, length, Bool, true, false, not, ◌&&◌, ◌||◌, true≢false, refl, sym, ◌∙◌, ap, subst, IsTrue, inl, inr, ◌⊎◌, arith, get_or, nat_eq, Ordering, Less, Equal, Greater, is_lt}
use Rattle.std.specs.Prelude.{map}
use Rattle.std.specs.List.{list_any, list_all}
use Rattle.std.specs.Ordering.{is_le, ordering_reverse}
use Rattle.std.proofs.lemmas.Bool.{cases_lt, not-true, or_cases}
use Rattle.std.specs.Cmp.{first_so, second_so}
use Rattle.cm_decl.specs.declared.node.Node.{Node}
use Rattle.cm_decl.specs.Same.{same_node}
use Rattle.cm_decl.specs.NodeOrder.{node_cmp, node_at_most}
use Rattle.cm_decl.specs.NodeOrderInside.{node_cmp_total}
use Rattle.cm_decl.specs.Reach.{DependencyPath, Reaches}
use Rattle.cm_decl.specs.Cycle.{InCore, IsLeast, NextInCore, IsPickedCycle}
use Rattle.cm_decl.proofs.lemmas.Sameness.{same_node-refl, same_node_exact}
use Rattle.cm_deps.specs.Edges.{holds, On, IsBelow, IsToposorted, Waits}
use Rattle.cm_deps.specs.Ring.{LeadsToLeast, IsFirstLeft, IsRing}
pub use Rattle.cm_deps.specs.Nodes.{at}
use Rattle.cm_deps.proofs.lemmas.listed.Listing.{same_nat, nat_eq-refl, or_left, or_right}
use Rattle.cm_deps.proofs.lemmas.loops.Cores.{listed_unsupported}
use Rattle.cm_deps.proofs.lemmas.loops.Ways.{DependencyPath-map, DependencyPath-inside}

-- the nodes stand in increasing order, and the numbered graph is the graph of them
pub record IsNumbered (nodes : List Node) (edge : Node → Node → Bool) (after : List (List ℕ)) : Type 0 where
  pub size : length after ≡ length nodes
  pub below : IsBelow after (length after)
  pub increasing : (i j : ℕ) → i < j → j < length nodes → node_cmp (at nodes i) (at nodes j) ≡ Less
  pub on : (i j : ℕ) → On after i j → IsTrue (edge (at nodes i) (at nodes j))
  pub from : (x y : Node) → IsTrue (edge x y) → (i : ℕ) × (j : ℕ) × (at nodes i ≡ x) × (at nodes j ≡ y) × On after i j

-- a node that depends on another has a number
pub on_inside : (rows : List (List ℕ)) (i j : ℕ) → On rows i j → i < length rows
on_inside [] i j on = absurd (true≢false (sym on))
on_inside (r ∷ rs) zero j on = omega arith
on_inside (r ∷ rs) (suc i) j on = let rest : i < length rs = on_inside rs i j on in omega arith

-- No node comes before one that is the same.
never_less : (x y : Node) → x ≡ y → node_cmp x y ≡ Less → ⊥
never_less x y same less =
    let self : node_cmp x x ≡ Less = subst (λ z. node_cmp x z ≡ Less) (sym same) less in
    let turned : Less ≡ Greater = sym self ∙ node_cmp_total.antisymm x x ∙ ap ordering_reverse self in
    true≢false (ap is_lt turned)

-- Each node comes at most at its own place in the order of nodes.
at_self : (x : Node) → IsTrue (node_at_most x x)
at_self x = by (node_cmp x x) refl
  where
    by : (o : Ordering) → node_cmp x x ≡ o → IsTrue (node_at_most x x)
    by Less e = ap is_le e
    by Equal e = ap is_le e
    by Greater e =
        let turned : Greater ≡ Less = sym e ∙ node_cmp_total.antisymm x x ∙ ap ordering_reverse e in
        absurd (true≢false (sym (ap is_lt turned)))

-- a node has one number
pub number_once : (nodes : List Node) → ((i j : ℕ) → i < j → j < length nodes → node_cmp (at nodes i) (at nodes j) ≡ Less) → (i j : ℕ) → i < length nodes → j < length nodes → at nodes i ≡ at nodes j → i ≡ j
number_once nodes increasing i j low high same = elim (cases_lt i j) as (λ _. i ≡ j) [
  | inl before ↦ absurd (never_less (at nodes i) (at nodes j) same (increasing i j before high))
  | inr from ↦ (elim (cases_lt j i) as (λ _. i ≡ j) [
    | inl behind ↦ absurd (never_less (at nodes j) (at nodes i) (sym same) (increasing j i behind low))
    | inr to ↦ omega arith
  ])
]

-- numbers rise with their nodes
pub number_at_most : (nodes : List Node) → ((i j : ℕ) → i < j → j < length nodes → node_cmp (at nodes i) (at nodes j) ≡ Less) → (i j : ℕ) → i ≤ j → j < length nodes → IsTrue (node_at_most (at nodes i) (at nodes j))
number_at_most nodes increasing i j low high = elim (cases_lt i j) as (λ _. IsTrue (node_at_most (at nodes i) (at nodes j))) [
  | inl before ↦ ap is_le (increasing i j before high)
  | inr from ↦ (let same : i ≡ j = omega arith in subst (λ k. IsTrue (node_at_most (at nodes i) (at nodes k))) same (at_self (at nodes i)))
]

-- the nodes whose numbers aren't listed
pub left_of : List Node → (ℕ → Bool) → Node → Bool
left_of [] listed x = false
left_of (y ∷ ys) listed x = (same_node y x && not (listed 0)) || left_of ys (λ i. listed (suc i)) x

-- A node that is left has a number which isn't listed.
pub left_number : (nodes : List Node) (listed : ℕ → Bool) (x : Node) → IsTrue (left_of nodes listed x) → (i : ℕ) × (i < length nodes) × (at nodes i ≡ x) × (listed i ≡ false)
unfolding left_of
left_number [] listed x h = absurd (true≢false (sym h))
left_number (y ∷ ys) listed x h = elim (or_cases (same_node y x && not (listed 0)) (left_of ys (λ i. listed (suc i)) x) h) as (λ _. (i : ℕ) × (i < length (y ∷ ys)) × (at (y ∷ ys) i ≡ x) × (listed i ≡ false)) [
  | inl here ↦ (0, omega arith, same_node_exact y x (first_so (same_node y x) (not (listed 0)) here), not-true (listed 0) (second_so (same_node y x) (not (listed 0)) here))
  | inr there ↦ (let rest : (i : ℕ) × (i < length ys) × (at ys i ≡ x) × (listed (suc i) ≡ false) = left_number ys (λ i. listed (suc i)) x there in (suc rest.0, omega arith, rest.2, rest.3))
]

-- The node of a number that isn't listed is left.
pub left_node : (nodes : List Node) (listed : ℕ → Bool) (i : ℕ) → i < length nodes → listed i ≡ false → IsTrue (left_of nodes listed (at nodes i))
unfolding left_of
left_node [] listed i low left = absurd (omega arith)
left_node (y ∷ ys) listed zero low left = or_left (same_node y y && not (listed 0)) (left_of ys (λ i. listed (suc i)) y) (rw (same_node-refl y) (ap not left))
left_node (y ∷ ys) listed (suc i) low left = or_right (same_node y (at ys i) && not (listed 0)) (left_of ys (λ k. listed (suc k)) (at ys i)) (left_node ys (λ k. listed (suc k)) i (omega arith) left)

-- whether a number's node is in a set
pub member : (Node → Bool) → List Node → ℕ → Bool
member set [] i = false
member set (x ∷ xs) zero = set x
member set (x ∷ xs) (suc i) = member set xs i

-- A number that is a member is that of a node in the set.
pub member_node : (set : Node → Bool) (nodes : List Node) (i : ℕ) → IsTrue (member set nodes i) → (i < length nodes) × IsTrue (set (at nodes i))
unfolding member
member_node set [] i h = absurd (true≢false (sym h))
member_node set (x ∷ xs) zero h = (omega arith, h)
member_node set (x ∷ xs) (suc i) h = let rest : (i < length xs) × IsTrue (set (at xs i)) = member_node set xs i h in (omega arith, rest.1)

-- The number of a node in the set is a member.
pub node_member : (set : Node → Bool) (nodes : List Node) (i : ℕ) → i < length nodes → IsTrue (set (at nodes i)) → IsTrue (member set nodes i)
unfolding member
node_member set [] i low h = absurd (omega arith)
node_member set (x ∷ xs) zero low h = h
node_member set (x ∷ xs) (suc i) low h = node_member set xs i (omega arith) h

-- where a node directly depends on another, their numbers do
pub edge_at : (nodes : List Node) (edge : Node → Node → Bool) (after : List (List ℕ)) → IsNumbered nodes edge after → (i : ℕ) → i < length nodes → (y : Node) → IsTrue (edge (at nodes i) y) → (j : ℕ) × (j < length nodes) × (at nodes j ≡ y) × On after i j
edge_at nodes edge after numbered i low y h =
    let ends : (k : ℕ) × (j : ℕ) × (at nodes k ≡ at nodes i) × (at nodes j ≡ y) × On after k j = numbered.from (at nodes i) y h in
    let first : ends.0 < length after = on_inside after ends.0 ends.1 ends.4 in
    let second : ends.1 < length after = numbered.below ends.0 ends.1 ends.4 in
    let same : ends.0 ≡ i = number_once nodes numbered.increasing ends.0 i (omega (arith, numbered.size)) low ends.2 in
    (ends.1, omega (arith, numbered.size), ends.3, subst (λ k. On after k ends.1) same ends.4)

-- what isn't listed is in the core
pub left_in_core : (nodes : List Node) (edge : Node → Node → Bool) (after : List (List ℕ)) (order : List ℕ) → IsNumbered nodes edge after → IsToposorted after order → (i : ℕ) → i < length nodes → holds order i ≡ false → InCore edge (at nodes i)
left_in_core nodes edge after order numbered toposorted i low left =
    (left_of nodes (holds order), left_node nodes (holds order) i low left, λ x is. onward x is)
  where
    onward : (x : Node) → IsTrue (left_of nodes (holds order) x) → (y : Node) × IsTrue (left_of nodes (holds order) y) × IsTrue (edge x y)
    onward x is =
        let number : (k : ℕ) × (k < length nodes) × (at nodes k ≡ x) × (holds order k ≡ false) = left_number nodes (holds order) x is in
        let waits : Waits after order number.0 = toposorted.rest number.0 (omega (arith, numbered.size)) number.3 in
        let inside : waits.0 < length after = numbered.below number.0 waits.0 waits.1 in (
          at nodes waits.0,
          left_node nodes (holds order) waits.0 (omega (arith, numbered.size)) waits.2,
          subst (λ z. IsTrue (edge z (at nodes waits.0))) number.2 (numbered.on number.0 waits.0 waits.1),
        )

-- what is in the core isn't listed
pub core_left : (nodes : List Node) (edge : Node → Node → Bool) (after : List (List ℕ)) (order : List ℕ) → IsNumbered nodes edge after → IsToposorted after order → (x : Node) → InCore edge x → (i : ℕ) × (i < length nodes) × (at nodes i ≡ x) × (holds order i ≡ false)
core_left nodes edge after order numbered toposorted x core =
    let next : (y : Node) × IsTrue (core.0 y) × IsTrue (edge x y) = core.2 x core.1 in
    let ends : (i : ℕ) × (j : ℕ) × (at nodes i ≡ x) × (at nodes j ≡ next.0) × On after i j = numbered.from x next.0 next.2 in
    let inside : ends.0 < length after = on_inside after ends.0 ends.1 ends.4 in
    let low : ends.0 < length nodes = omega (arith, numbered.size) in
    (ends.0, low, ends.2, by ends.0 (node_member core.0 nodes ends.0 low (subst (λ z. IsTrue (core.0 z)) (sym ends.2) core.1)) (holds order ends.0) refl)
  where
    supported : (k : ℕ) → IsTrue (member core.0 nodes k) → (j : ℕ) × IsTrue (member core.0 nodes j) × On after k j
    supported k is =
        let here : (k < length nodes) × IsTrue (core.0 (at nodes k)) = member_node core.0 nodes k is in
        let next : (y : Node) × IsTrue (core.0 y) × IsTrue (edge (at nodes k) y) = core.2 (at nodes k) here.1 in
        let there : (j : ℕ) × (j < length nodes) × (at nodes j ≡ next.0) × On after k j = edge_at nodes edge after numbered k here.0 next.0 next.2 in
        (there.0, node_member core.0 nodes there.0 there.1 (subst (λ z. IsTrue (core.0 z)) (sym there.2) next.1), there.3)

    by : (i : ℕ) → IsTrue (member core.0 nodes i) → (b : Bool) → holds order i ≡ b → holds order i ≡ false
    by i is true listed = absurd (listed_unsupported after order toposorted.grown (member core.0 nodes) supported i listed is)
    by i is false left = left

-- A number whose node is in the core isn't listed.
pub core_number : (nodes : List Node) (edge : Node → Node → Bool) (after : List (List ℕ)) (order : List ℕ) → IsNumbered nodes edge after → IsToposorted after order → (i : ℕ) → i < length nodes → InCore edge (at nodes i) → holds order i ≡ false
core_number nodes edge after order numbered toposorted i low core =
    let found : (k : ℕ) × (k < length nodes) × (at nodes k ≡ at nodes i) × (holds order k ≡ false) = core_left nodes edge after order numbered toposorted (at nodes i) core in
    let same : found.0 ≡ i = number_once nodes numbered.increasing found.0 i found.1 low found.2 in
    subst (λ k. holds order k ≡ false) same found.3

-- the least of what isn't listed is the least of the core
pub first_least : (nodes : List Node) (edge : Node → Node → Bool) (after : List (List ℕ)) (order : List ℕ) → IsNumbered nodes edge after → IsToposorted after order → (start : ℕ) → IsFirstLeft (length after) (holds order) start → IsLeast (InCore edge) (at nodes start)
first_least nodes edge after order numbered toposorted start first =
    (left_in_core nodes edge after order numbered toposorted start (omega (arith, numbered.size, first.inside)) first.left, λ y core. least y core)
  where
    least : (y : Node) → InCore edge y → IsTrue (node_at_most (at nodes start) y)
    least y core =
        let found : (k : ℕ) × (k < length nodes) × (at nodes k ≡ y) × (holds order k ≡ false) = core_left nodes edge after order numbered toposorted y core in
        let low : start ≤ found.0 = elim (cases_lt found.0 start) as (λ _. start ≤ found.0) [
          | inl before ↦ absurd (true≢false (sym (first.first found.0 before) ∙ found.3))
          | inr from ↦ from
        ] in
        subst (λ z. IsTrue (node_at_most (at nodes start) z)) found.2 (number_at_most nodes numbered.increasing start found.0 low found.1)

-- where a number leads to another, its node is followed by the other's
pub leads_follows : (nodes : List Node) (edge : Node → Node → Bool) (after : List (List ℕ)) (order : List ℕ) → IsNumbered nodes edge after → IsToposorted after order → (i j : ℕ) → i < length nodes → LeadsToLeast after (holds order) i j → (j < length nodes) × NextInCore edge (at nodes i) (at nodes j)
leads_follows nodes edge after order numbered toposorted i j low leads =
    (inside, ((left_in_core nodes edge after order numbered toposorted j inside leads.left, numbered.on i j leads.on), λ z both. least z both))
  where
    inside : j < length nodes
    inside = let there : j < length after = numbered.below i j leads.on in omega (arith, numbered.size)

    least : (z : Node) → InCore edge z × IsTrue (edge (at nodes i) z) → IsTrue (node_at_most (at nodes j) z)
    least z both =
        let there : (k : ℕ) × (k < length nodes) × (at nodes k ≡ z) × On after i k = edge_at nodes edge after numbered i low z both.1 in
        let left : holds order there.0 ≡ false = core_number nodes edge after order numbered toposorted there.0 there.1 (subst (InCore edge) (sym there.2) both.0) in
        subst (λ v. IsTrue (node_at_most (at nodes j) v)) there.2 (number_at_most nodes numbered.increasing j there.0 (leads.least there.0 there.3 left) there.1)

-- the nodes of a way are inside
pub way_inside : (after : List (List ℕ)) (listed : ℕ → Bool) (n : ℕ) → IsBelow after n → (x : ℕ) (xs : List ℕ) (y : ℕ) → DependencyPath (LeadsToLeast after listed) x xs y → (z : ℕ) → IsTrue (holds xs z) → z < n
way_inside after listed n below x [] y way z held = absurd (true≢false (sym held))
way_inside after listed n below x (v ∷ vs) y way z held = elim (or_cases (nat_eq z v) (holds vs z) held) as (λ _. z < n) [
  | inl here ↦ subst (λ k. k < n) (sym (same_nat z v here)) (below x v way.0.on)
  | inr there ↦ way_inside after listed n below v vs y way.1 z there
]

-- A number that isn't among some has a node that isn't among theirs, where nodes increase.
once_at : (nodes : List Node) → ((i j : ℕ) → i < j → j < length nodes → node_cmp (at nodes i) (at nodes j) ≡ Less) → (h : ℕ) → h < length nodes → (xs : List ℕ) → ((z : ℕ) → IsTrue (holds xs z) → z < length nodes) → holds xs h ≡ false → list_any (same_node (at nodes h)) (map (at nodes) xs) ≡ false
once_at nodes increasing h low [] inside out = refl
once_at nodes increasing h low (x ∷ xs) inside out = by (once_at nodes increasing h low xs) (same_node (at nodes h) (at nodes x)) refl (nat_eq h x) refl
  where
    by : (((z : ℕ) → IsTrue (holds xs z) → z < length nodes) → holds xs h ≡ false → list_any (same_node (at nodes h)) (map (at nodes) xs) ≡ false) → (b : Bool) → same_node (at nodes h) (at nodes x) ≡ b → (e : Bool) → nat_eq h x ≡ e → (same_node (at nodes h) (at nodes x) || list_any (same_node (at nodes h)) (map (at nodes) xs)) ≡ false
    by later b same true here = let never : true ≡ false = rw here at out in absurd (true≢false never)
    by later true same false apart =
        let one : h ≡ x = number_once nodes increasing h x low (inside x (or_left (nat_eq x x) (holds xs x) (nat_eq-refl x))) (same_node_exact (at nodes h) (at nodes x) same) in
        absurd (true≢false (sym (subst (λ z. IsTrue (nat_eq h z)) one (nat_eq-refl h)) ∙ apart))
    by later false other false apart =
        let fewer : holds xs h ≡ false = rw apart at out in
        rw other (later (λ z held. inside z (or_right (nat_eq z x) (holds xs z) held)) fewer)

-- The node of the least of some numbers is at most each of theirs, where nodes increase.
least_at : (nodes : List Node) → ((i j : ℕ) → i < j → j < length nodes → node_cmp (at nodes i) (at nodes j) ≡ Less) → (h : ℕ) → (xs : List ℕ) → ((z : ℕ) → IsTrue (holds xs z) → z < length nodes) → ((z : ℕ) → IsTrue (holds xs z) → h ≤ z) → IsTrue (list_all (node_at_most (at nodes h)) (map (at nodes) xs))
least_at nodes increasing h [] inside least = refl
least_at nodes increasing h (x ∷ xs) inside least =
    let here : IsTrue (holds (x ∷ xs) x) = or_left (nat_eq x x) (holds xs x) (nat_eq-refl x) in
    let first : IsTrue (node_at_most (at nodes h) (at nodes x)) = number_at_most nodes increasing h x (least x here) (inside x here) in
    rw first (least_at nodes increasing h xs (λ z held. inside z (or_right (nat_eq z x) (holds xs z) held)) (λ z held. least z (or_right (nat_eq z x) (holds xs z) held)))

-- the nodes of the ring, and its first once more, are the picked cycle
pub ring_picked : (nodes : List Node) (edge : Node → Node → Bool) (after : List (List ℕ)) (order ring : List ℕ) → IsNumbered nodes edge after → IsToposorted after order → IsRing after (holds order) ring → IsPickedCycle edge (map (at nodes) ring ++ at nodes (get_or ring 0 0) ∷ [])
ring_picked nodes edge after order ring numbered toposorted is = record {
  start = at nodes is.start;
  least_of_core = first_least nodes edge after order numbered toposorted is.start is.first;
  head = at nodes is.head;
  others = map (at nodes) is.others;
  reached = elim is.reached as (λ _. (at nodes is.start ≡ at nodes is.head) ⊎ Reaches (NextInCore edge) (at nodes is.start) (at nodes is.head)) [
    | inl same ↦ inl (ap (at nodes) same)
    | inr way ↦ inr (map (at nodes) way.0, follow is.start begins way.0 is.head way.1)
  ];
  loop = follow is.head top is.others is.head is.loop;
  once = once_at nodes numbered.increasing is.head top is.others inside is.once;
  least = least_at nodes numbered.increasing is.head is.others inside is.least;
  whole = ap (λ l. map (at nodes) l ++ at nodes (get_or l 0 0) ∷ []) is.whole;
}
  where
    follow : (x : ℕ) → x < length nodes → (xs : List ℕ) (y : ℕ) → DependencyPath (LeadsToLeast after (holds order)) x xs y → DependencyPath (NextInCore edge) (at nodes x) (map (at nodes) xs) (at nodes y)
    follow = DependencyPath-map (LeadsToLeast after (holds order)) (NextInCore edge) (at nodes) (λ k. k < length nodes) (λ i j low leads. leads_follows nodes edge after order numbered toposorted i j low leads)

    begins : is.start < length nodes
    begins = omega (arith, numbered.size, is.first.inside)

    below : IsBelow after (length nodes)
    below x y on = let low : y < length after = numbered.below x y on in omega (arith, numbered.size)

    top : is.head < length nodes
    top = elim is.reached as (λ _. is.head < length nodes) [
      | inl same ↦ subst (λ k. k < length nodes) same begins
      | inr way ↦ DependencyPath-inside (LeadsToLeast after (holds order)) (λ k. k < length nodes) (λ i j low leads. below i j leads.on) is.start begins way.0 is.head way.1
    ]

    inside : (z : ℕ) → IsTrue (holds is.others z) → z < length nodes
    inside = way_inside after (holds order) (length nodes) below is.head is.others is.head is.loop
