use Rattle.std.proofs.Common.{◌≡◌, ℕ, zero, suc, ◌<◌, List, [], ◌∷◌, length, Bool, false, true≢false, Some, sym, ◌∙◌, ap, subst, IsTrue, inl, inr, arith}
use Rattle.std.specs.Prelude.{map, slice_get}
use Rattle.cm_decl.specs.declared.node.Node.{Node}
use Rattle.cm_decl.specs.Reach.{DependencyPath, Reaches, HasCycle, NoCycle}
use Rattle.cm_decl.specs.RealmGraph.{RealmGraph, Strong, IsImplied, Directly, Depends}
use Rattle.cm_deps.specs.Edges.{holds, On, IsReverseTopological, IsReach}
use Rattle.cm_deps.specs.Ring.{LeadsToLeast, IsRing}
use Rattle.cm_deps.specs.Implied.{IsFull}
use Rattle.cm_deps.proofs.lemmas.listed.Gathering.{held_inside}
use Rattle.cm_deps.proofs.lemmas.loops.Cores.{held_at, reached_before}
use Rattle.cm_deps.proofs.lemmas.loops.Ways.{DependencyPath-map}
use Rattle.cm_deps.proofs.lemmas.numbers.Numbering.{at, number_once, edge_at}
use Rattle.cm_deps.proofs.lemmas.listed.Topological.{IsRealmOf, directly_full}

-- the numbered graph of the edges of a realm, the implied ones included
pub record IsDirect (nodes : List Node) (direct : List (List ℕ)) (r : RealmGraph Node) : Type 0 where
  pub inside : (i j : ℕ) → On direct i j → (i < length nodes) × (j < length nodes)
  pub on : (i j : ℕ) → On direct i j → Directly r (at nodes i) (at nodes j)
  pub from : (i : ℕ) → i < length nodes → (y : Node) → Directly r (at nodes i) y → (j : ℕ) × (j < length nodes) × (at nodes j ≡ y) × On direct i j

-- a way of nodes is a way of their numbers
way_number : (nodes : List Node) (After : ℕ → ℕ → Type 0) (Along : Node → Node → Type 0) → ((i : ℕ) → i < length nodes → (y : Node) → Along (at nodes i) y → (j : ℕ) × (j < length nodes) × (at nodes j ≡ y) × After i j) → (i : ℕ) → i < length nodes → (ys : List Node) (y : Node) → DependencyPath Along (at nodes i) ys y → (j : ℕ) × (j < length nodes) × (at nodes j ≡ y) × Reaches After i j
way_number nodes After Along step i low [] y on =
    let next : (j : ℕ) × (j < length nodes) × (at nodes j ≡ y) × After i j = step i low y on in
    (next.0, next.1, next.2, ([], next.3))
way_number nodes After Along step i low (z ∷ zs) y way =
    let next : (j : ℕ) × (j < length nodes) × (at nodes j ≡ z) × After i j = step i low z way.0 in
    let rest : (j : ℕ) × (j < length nodes) × (at nodes j ≡ y) × Reaches After next.0 j = way_number nodes After Along step next.0 next.1 zs y (subst (λ v. DependencyPath Along v zs y) (sym next.2) way.1) in
    (rest.0, rest.1, rest.2, (next.0 ∷ rest.3.0, (next.3, rest.3.1)))

-- What a node depends on strongly is a node, and the numbered graph has that edge.
pub strong_step : (nodes : List Node) (after : List (List ℕ)) (r : RealmGraph Node) → IsRealmOf nodes after r → (i : ℕ) → i < length nodes → (y : Node) → Strong r (at nodes i) y → (j : ℕ) × (j < length nodes) × (at nodes j ≡ y) × On after i j
strong_step nodes after r is i low y on = edge_at nodes r.edge after is.numbered i low y on

-- A strong edge of the numbered graph has both its ends among the nodes.
strong_inside : (nodes : List Node) (after : List (List ℕ)) (r : RealmGraph Node) → IsRealmOf nodes after r → (i j : ℕ) → On after i j → (i < length nodes) × (j < length nodes)
strong_inside nodes after r is i j on =
    let low : i < length after = held_inside after i j on in
    let high : j < length after = is.numbered.below i j on in
    (omega (arith, is.numbered.size), omega (arith, is.numbered.size))

-- a listed node doesn't reach itself
descend : (rows : List (List ℕ)) (order : List ℕ) → IsReverseTopological rows order → (i : ℕ) (between : List ℕ) → DependencyPath (On rows) i between i → (bound k : ℕ) → k < bound → slice_get order k ≡ Some i → ⊥
descend rows order grown i between way zero k low here = omega arith
descend rows order grown i between way (suc bound) k low here =
    let earlier : (l : ℕ) × (l < k) × (slice_get order l ≡ Some i) = reached_before rows order grown i between i k here way in
    descend rows order grown i between way bound earlier.0 (omega arith) earlier.2

-- The first node of a way of strong edges has a number.
first_number : (nodes : List Node) (after : List (List ℕ)) (r : RealmGraph Node) → IsRealmOf nodes after r → (x : Node) (ys : List Node) (y : Node) → DependencyPath (Strong r) x ys y → (i : ℕ) × (i < length nodes) × (at nodes i ≡ x)
first_number nodes after r is x [] y on =
    let ends : (i : ℕ) × (j : ℕ) × (at nodes i ≡ x) × (at nodes j ≡ y) × On after i j = is.numbered.from x y on in
    let inside : (ends.0 < length nodes) × (ends.1 < length nodes) = strong_inside nodes after r is ends.0 ends.1 ends.4 in
    (ends.0, inside.0, ends.2)
first_number nodes after r is x (z ∷ zs) y way =
    let ends : (i : ℕ) × (j : ℕ) × (at nodes i ≡ x) × (at nodes j ≡ z) × On after i j = is.numbered.from x z way.0 in
    let inside : (ends.0 < length nodes) × (ends.1 < length nodes) = strong_inside nodes after r is ends.0 ends.1 ends.4 in
    (ends.0, inside.0, ends.2)

-- where all numbers are listed, the realm has no cycle of strong edges
pub listed_acyclic : (nodes : List Node) (after : List (List ℕ)) (r : RealmGraph Node) (listed : List ℕ) → IsRealmOf nodes after r → IsReverseTopological after listed → ((x : ℕ) → x < length after → IsTrue (holds listed x)) → NoCycle (Strong r)
listed_acyclic nodes after r listed is grown all (x, (between, way)) =
    let first : (i : ℕ) × (i < length nodes) × (at nodes i ≡ x) = first_number nodes after r is x between x way in
    let round : (j : ℕ) × (j < length nodes) × (at nodes j ≡ x) × Reaches (On after) first.0 j =
    way_number nodes (On after) (Strong r) (strong_step nodes after r is) first.0 first.1 between x (subst (λ v. DependencyPath (Strong r) v between x) (sym first.2) way) in
    let same : round.0 ≡ first.0 = number_once nodes is.numbered.increasing round.0 first.0 round.1 first.1 (round.2 ∙ sym first.2) in
    let back : Reaches (On after) first.0 first.0 = subst (λ k. Reaches (On after) first.0 k) same round.3 in
    let place : (k : ℕ) × (k < length listed) × (slice_get listed k ≡ Some first.0) = held_at listed first.0 (all first.0 (omega (arith, is.numbered.size, first.1))) in
    descend after listed grown first.0 back.0 back.1 (suc place.0) place.0 (omega arith) place.2

-- Where all nodes are listed, the full lists have the direct edges of the realm, the implied ones among them.
pub direct_full : (nodes : List Node) (after : List (List ℕ)) (r : RealmGraph Node) (listed reached : List ℕ) (full : List (List ℕ)) → IsRealmOf nodes after r → IsReverseTopological after listed → ((x : ℕ) → x < length after → IsTrue (holds listed x)) → IsReach after 0 reached → IsFull after reached full → IsDirect nodes full r
direct_full nodes after r listed reached full is grown all reach edges = record {
  inside = λ i j on. inside i j on;
  on = λ i j on. elim (edges.only i j on) as (λ _. Directly r (at nodes i) (at nodes j)) [
    | inl strong ↦ inl (is.numbered.on i j strong)
    | inr far ↦ inr (record {
      acyclic = listed_acyclic nodes after r listed is grown all;
      node = is.node i (omega (arith, is.numbered.size, far.inside));
      child = λ same. far.child (number_once nodes is.numbered.increasing i 0 (omega (arith, is.numbered.size, far.inside)) is.some (same ∙ sym is.own));
      apart = λ way. apart i (omega (arith, is.numbered.size, far.inside)) far.apart way;
      own = ap (at nodes) far.own ∙ is.own;
    })
  ];
  from = λ i low y direct. step i low y direct;
}
  where
    inside : (i j : ℕ) → On full i j → (i < length nodes) × (j < length nodes)
    inside i j on =
        let low : i < length full = held_inside full i j on in
        let high : j < length full = edges.below i j on in
        (omega (arith, edges.size, is.numbered.size), omega (arith, edges.size, is.numbered.size))

    apart : (i : ℕ) → i < length nodes → holds reached i ≡ false → Reaches (Strong r) r.own (at nodes i) → ⊥
    apart i low out way =
        let there : (j : ℕ) × (j < length nodes) × (at nodes j ≡ at nodes i) × Reaches (On after) 0 j =
        way_number nodes (On after) (Strong r) (strong_step nodes after r is) 0 is.some way.0 (at nodes i) (subst (λ v. DependencyPath (Strong r) v way.0 (at nodes i)) (sym is.own) way.1) in
        let same : there.0 ≡ i = number_once nodes is.numbered.increasing there.0 i there.1 low there.2 in
        true≢false (sym (reach.all i (subst (λ k. Reaches (On after) 0 k) same there.3)) ∙ out)

    step : (i : ℕ) → i < length nodes → (y : Node) → Directly r (at nodes i) y → (j : ℕ) × (j < length nodes) × (at nodes j ≡ y) × On full i j
    step i low y (inl strong) =
        let there : (j : ℕ) × (j < length nodes) × (at nodes j ≡ y) × On after i j = strong_step nodes after r is i low y strong in
        (there.0, there.1, there.2, edges.strong i there.0 there.3)
    step i low y (inr implied) =
        let own : at nodes 0 ≡ y = is.own ∙ sym implied.own in
        (0, is.some, own, directly_full nodes after r reached full is reach edges i 0 low is.some (inr (subst (λ v. IsImplied r (at nodes i) v) (sym own) implied)))

-- where there is a cycle, no edge is implied
pub direct_strong : (nodes : List Node) (after : List (List ℕ)) (r : RealmGraph Node) → IsRealmOf nodes after r → HasCycle (Strong r) → IsDirect nodes after r
direct_strong nodes after r is cycle = record {
  inside = strong_inside nodes after r is;
  on = λ i j on. inl (is.numbered.on i j on);
  from = λ i low y direct. step i low y direct;
}
  where
    step : (i : ℕ) → i < length nodes → (y : Node) → Directly r (at nodes i) y → (j : ℕ) × (j < length nodes) × (at nodes j ≡ y) × On after i j
    step i low y (inl strong) = strong_step nodes after r is i low y strong
    step i low y (inr implied) = absurd (implied.acyclic cycle)

-- a picked ring is a cycle of strong edges
pub ring_cycle : (nodes : List Node) (after : List (List ℕ)) (r : RealmGraph Node) (listed : ℕ → Bool) (ring : List ℕ) → IsRealmOf nodes after r → IsRing after listed ring → HasCycle (Strong r)
ring_cycle nodes after r listed ring is picked =
    (at nodes picked.head, (map (at nodes) picked.others, DependencyPath-map (LeadsToLeast after listed) (Strong r) (at nodes) (λ k. Unit {0}) (λ x y in_x leads. (tt, is.numbered.on x y leads.on)) picked.head tt picked.others picked.head picked.loop))

-- one number reaches another exactly where its node depends on the other's
pub reach_depends : (nodes : List Node) (direct : List (List ℕ)) (r : RealmGraph Node) → IsDirect nodes direct r → (i j : ℕ) → Reaches (On direct) i j → Depends r (at nodes i) (at nodes j)
reach_depends nodes direct r is i j way =
    (map (at nodes) way.0, DependencyPath-map (On direct) (Directly r) (at nodes) (λ k. Unit {0}) (λ x y in_x on. (tt, is.on x y on)) i tt way.0 j way.1)

-- Where a node depends on another in the realm graph, its number reaches the other's.
pub depends_reach : (nodes : List Node) (direct : List (List ℕ)) (r : RealmGraph Node) → IsDirect nodes direct r → ((i j : ℕ) → i < length nodes → j < length nodes → at nodes i ≡ at nodes j → i ≡ j) → (i j : ℕ) → i < length nodes → j < length nodes → Depends r (at nodes i) (at nodes j) → Reaches (On direct) i j
depends_reach nodes direct r is once i j low high way =
    let there : (k : ℕ) × (k < length nodes) × (at nodes k ≡ at nodes j) × Reaches (On direct) i k = way_number nodes (On direct) (Directly r) is.from i low way.0 (at nodes j) way.1 in
    subst (λ k. Reaches (On direct) i k) (once there.0 j there.1 high there.2) there.3
