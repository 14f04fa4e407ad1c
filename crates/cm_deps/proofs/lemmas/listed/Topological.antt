use Rattle.std.proofs.Common.{◌≡◌, ℕ, zero, suc, ◌<◌, List, [], ◌∷◌, length, Bool, true, false, not, ◌&&◌, ◌||◌, true≢false, Some, refl, sym, ◌∙◌, ap, subst, IsTrue, inl, inr, arith, nat_eq}
use Rattle.std.specs.Prelude.{map, filter, slice_get, if◌then◌else◌}
use Rattle.std.proofs.lemmas.List.Sums.{length-filter}
use Rattle.std.proofs.lemmas.Bool.{and_from, not-true, not_from_false, or_cases}
use Rattle.std.specs.Cmp.{first_so, second_so}
use Rattle.cm_decl.specs.declared.node.Node.{Node}
use Rattle.cm_decl.specs.Same.{same_node}
use Rattle.cm_decl.specs.Reach.{DependencyPath, Reaches}
use Rattle.cm_decl.specs.RealmGraph.{RealmGraph, Strong, Directly}
use Rattle.cm_decl.specs.GraphInside.{IsTopologicalOrder}
use Rattle.cm_decl.proofs.lemmas.Sameness.{same_node-refl, same_node_exact}
use Rattle.cm_decl.proofs.lemmas.cycles.Reaching.{Reaches-trans}
use Rattle.cm_deps.specs.Edges.{holds, On, IsBelow, IsReverseTopological, IsToposorted, IsReach, Waits}
use Rattle.cm_deps.specs.Ring.{Once}
use Rattle.cm_deps.specs.Implied.{IsFull, IsTopological}
use Rattle.cm_deps.proofs.lemmas.listed.Listing.{same_nat, nat_eq-refl, or_left, or_right}
use Rattle.cm_deps.proofs.lemmas.loops.Cores.{listed_unsupported, held_at}
use Rattle.cm_deps.proofs.lemmas.loops.Ways.{DependencyPath-map}
use Rattle.cm_deps.proofs.lemmas.numbers.Numbering.{at, IsNumbered, number_once, edge_at}

-- where all are listed by the strong edges, they are by all edges
pub full_listed : (after : List (List ℕ)) (reached : List ℕ) (full : List (List ℕ)) (first order : List ℕ) → 0 < length after → IsBelow after (length after) → IsReach after 0 reached → IsFull after reached full → IsReverseTopological after first → ((x : ℕ) → x < length after → IsTrue (holds first x)) → IsToposorted full order → (x : ℕ) → x < length after → IsTrue (holds order x)
full_listed after reached full first order some below reach is grown all toposorted x inside = by (holds order x) refl
  where
    listed_low : (i : ℕ) → IsTrue (holds first i) → i < length after
    listed_low i held =
        let found : (k : ℕ) × (k < length first) × (slice_get first k ≡ Some i) = held_at first i held in
        (grown found.0 i found.2).inside

    onward : (i : ℕ) → IsTrue (holds first i && not (holds order i)) → (y : ℕ) × On full i y × (holds order y ≡ false)
    onward i is_left =
        let low : i < length after = listed_low i (first_so (holds first i) (not (holds order i)) is_left) in
        let waits : Waits full order i = toposorted.rest i (omega (arith, is.size)) (not-true (holds order i) (second_so (holds first i) (not (holds order i)) is_left)) in
        (waits.0, waits.1, waits.2)

    stays : (i y : ℕ) → On after i y → holds order y ≡ false → IsTrue (holds first y && not (holds order y))
    stays i y on open_y = and_from (holds first y) (not (holds order y)) (all y (below i y on)) (not_from_false (holds order y) open_y)

    near_on : (i y : ℕ) → IsTrue (nat_eq i 0 || holds reached i) → On after i y → IsTrue (nat_eq y 0 || holds reached y)
    near_on i y here on = or_right (nat_eq y 0) (holds reached y) (reach.all y (elim (or_cases (nat_eq i 0) (holds reached i) here) as (λ _. Reaches (On after) 0 y) [
      | inl own ↦ ([], subst (λ z. On after z y) (same_nat i 0 own) on)
      | inr far ↦ Reaches-trans (On after) 0 i y (reach.only i far) ([], on)
    ]))

    near_supported : (i : ℕ) → IsTrue ((nat_eq i 0 || holds reached i) && (holds first i && not (holds order i))) → (y : ℕ) × IsTrue ((nat_eq y 0 || holds reached y) && (holds first y && not (holds order y))) × On after i y
    near_supported i here =
        let close : IsTrue (nat_eq i 0 || holds reached i) = first_so (nat_eq i 0 || holds reached i) (holds first i && not (holds order i)) here in
        let next : (y : ℕ) × On full i y × (holds order y ≡ false) = onward i (second_so (nat_eq i 0 || holds reached i) (holds first i && not (holds order i)) here) in
        elim (is.only i next.0 next.1) as (λ _. (y : ℕ) × IsTrue ((nat_eq y 0 || holds reached y) && (holds first y && not (holds order y))) × On after i y) [
          | inl on ↦ (next.0, and_from (nat_eq next.0 0 || holds reached next.0) (holds first next.0 && not (holds order next.0)) (near_on i next.0 close on) (stays i next.0 on next.2), on)
          | inr far ↦ absurd (elim (or_cases (nat_eq i 0) (holds reached i) close) as (λ _. ⊥) [
            | inl own ↦ far.child (same_nat i 0 own)
            | inr held ↦ true≢false (sym held ∙ far.apart)
          ])
        ]

    none_near : (i : ℕ) → IsTrue (holds first i) → IsTrue ((nat_eq i 0 || holds reached i) && (holds first i && not (holds order i))) → ⊥
    none_near i held here = listed_unsupported after first grown (λ k. (nat_eq k 0 || holds reached k) && (holds first k && not (holds order k))) near_supported i held here

    left_supported : (i : ℕ) → IsTrue (holds first i && not (holds order i)) → (y : ℕ) × IsTrue (holds first y && not (holds order y)) × On after i y
    left_supported i here =
        let next : (y : ℕ) × On full i y × (holds order y ≡ false) = onward i here in
        elim (is.only i next.0 next.1) as (λ _. (y : ℕ) × IsTrue (holds first y && not (holds order y)) × On after i y) [
          | inl on ↦ (next.0, stays i next.0 on next.2, on)
          | inr far ↦ absurd (let zero_left : holds order 0 ≡ false = subst (λ z. holds order z ≡ false) far.own next.2 in
              none_near 0 (all 0 some) (and_from (nat_eq 0 0 || holds reached 0) (holds first 0 && not (holds order 0)) (or_left (nat_eq 0 0) (holds reached 0) (nat_eq-refl 0)) (and_from (holds first 0) (not (holds order 0)) (all 0 some) (not_from_false (holds order 0) zero_left))))
        ]

    by : (b : Bool) → holds order x ≡ b → IsTrue (holds order x)
    by true held = held
    by false out = absurd (listed_unsupported after first grown (λ k. holds first k && not (holds order k)) left_supported x (all x inside) (and_from (holds first x) (not (holds order x)) (all x inside) (not_from_false (holds order x) out)))

-- what stands in a falling list depends on nodes that stand behind it
pub falls_behind : (rows : List (List ℕ)) (xs : List ℕ) → IsTopological rows xs → (k l x y : ℕ) → slice_get xs k ≡ Some x → slice_get xs l ≡ Some y → On rows x y → k < l
falls_behind rows [] falling k l x y here there on = absurd (let never : ⊥ = cc in never)
falls_behind rows (z ∷ zs) falling zero zero x y here there on =
    let one : z ≡ x = cc in
    let two : z ≡ y = cc in
    let self : On rows z z = subst (λ v. On rows z v) (sym two) (subst (λ v. On rows v y) (sym one) on) in
    absurd (true≢false (sym (falling.1 z self) ∙ falling.0))
falls_behind rows (z ∷ zs) falling zero (suc l) x y here there on = omega arith
falls_behind rows (z ∷ zs) falling (suc k) zero x y here there on =
    let two : z ≡ y = cc in
    absurd (true≢false (sym (behind zs falling.2 k x z here (subst (λ v. On rows x v) (sym two) on)) ∙ falling.0))
  where
    behind : (vs : List ℕ) → IsTopological rows vs → (j u w : ℕ) → slice_get vs j ≡ Some u → On rows u w → IsTrue (holds vs w)
    behind [] fall j u w at_j on_u = absurd (let never : ⊥ = cc in never)
    behind (v ∷ vs) fall zero u w at_j on_u = let same : v ≡ u = cc in or_right (nat_eq w v) (holds vs w) (fall.1 w (subst (λ t. On rows t w) (sym same) on_u))
    behind (v ∷ vs) fall (suc j) u w at_j on_u = or_right (nat_eq w v) (holds vs w) (behind vs fall.2 j u w at_j on_u)
falls_behind rows (z ∷ zs) falling (suc k) (suc l) x y here there on = let rest : k < l = falls_behind rows zs falling.2 k l x y here there on in omega arith

-- No node is twice in a list in which each stands before all that it depends on.
pub falling_once : (rows : List (List ℕ)) (xs : List ℕ) → IsTopological rows xs → Once xs
falling_once rows [] falling = tt
falling_once rows (x ∷ xs) falling = (falling.0, falling_once rows xs falling.2)

-- a node that isn't in the list of nodes isn't counted
none_in : (nodes : List Node) (x : Node) (xs : List ℕ) → ((z : ℕ) → IsTrue (holds xs z) → at nodes z ≡ x → ⊥) → length (filter (same_node x) (map (at nodes) xs)) ≡ 0
none_in nodes x [] out = refl
none_in nodes x (z ∷ zs) out = by (none_in nodes x zs) (same_node x (at nodes z)) refl
  where
    by : (((v : ℕ) → IsTrue (holds zs v) → at nodes v ≡ x → ⊥) → length (filter (same_node x) (map (at nodes) zs)) ≡ 0) → (b : Bool) → same_node x (at nodes z) ≡ b → length (filter (same_node x) (map (at nodes) (z ∷ zs))) ≡ 0
    by later true same = absurd (out z (or_left (nat_eq z z) (holds zs z) (nat_eq-refl z)) (sym (same_node_exact x (at nodes z) same)))
    by later false other = rw other (later (λ v held. out v (or_right (nat_eq v z) (holds zs v) held)))

-- a node that is there once is counted once
one_in : (nodes : List Node) (edge : Node → Node → Bool) (after : List (List ℕ)) → IsNumbered nodes edge after → (i : ℕ) → i < length nodes → (xs : List ℕ) → Once xs → ((z : ℕ) → IsTrue (holds xs z) → z < length nodes) → IsTrue (holds xs i) → length (filter (same_node (at nodes i)) (map (at nodes) xs)) ≡ 1
one_in nodes edge after numbered i low [] once inside held = absurd (true≢false (sym held))
one_in nodes edge after numbered i low (z ∷ zs) once inside held = by (one_in nodes edge after numbered i low zs once.1) (nat_eq i z) refl (same_node (at nodes i) (at nodes z)) refl
  where
    first : z < length nodes
    first = inside z (or_left (nat_eq z z) (holds zs z) (nat_eq-refl z))

    others : (v : ℕ) → IsTrue (holds zs v) → v < length nodes
    others v there = inside v (or_right (nat_eq v z) (holds zs v) there)

    by : (((v : ℕ) → IsTrue (holds zs v) → v < length nodes) → IsTrue (holds zs i) → length (filter (same_node (at nodes i)) (map (at nodes) zs)) ≡ 1) → (b : Bool) → nat_eq i z ≡ b → (s : Bool) → same_node (at nodes i) (at nodes z) ≡ s → length (filter (same_node (at nodes i)) (map (at nodes) (z ∷ zs))) ≡ 1
    by later true here true same =
        let none : length (filter (same_node (at nodes i)) (map (at nodes) zs)) ≡ 0 = none_in nodes (at nodes i) zs (λ v there one.
        true≢false (sym (subst (λ t. IsTrue (holds zs t)) (number_once nodes numbered.increasing v i (others v there) low one ∙ same_nat i z here) there) ∙ once.0)) in
        rw same (ap suc none)
    by later true here false other =
        let one : at nodes i ≡ at nodes z = ap (at nodes) (same_nat i z here) in
        absurd (true≢false (sym (subst (λ v. IsTrue (same_node (at nodes i) v)) one (same_node-refl (at nodes i))) ∙ other))
    by later false apart true same =
        let one : i ≡ z = number_once nodes numbered.increasing i z low first (same_node_exact (at nodes i) (at nodes z) same) in
        absurd (true≢false (sym (subst (λ v. IsTrue (nat_eq i v)) one (nat_eq-refl i)) ∙ apart))
    by later false apart false other = let there : IsTrue (holds zs i) = rw apart at held in rw other (later others there)

-- the numbered graph of a realm: its first node is the component itself
pub record IsRealmOf (nodes : List Node) (after : List (List ℕ)) (r : RealmGraph Node) : Type 0 where
  pub some : 0 < length nodes
  pub own : at nodes 0 ≡ r.own
  pub number : (x : Node) → IsTrue (r.has x) → (i : ℕ) × (i < length nodes) × (at nodes i ≡ x)
  pub node : (i : ℕ) → i < length nodes → IsTrue (r.has (at nodes i))
  pub numbered : IsNumbered nodes r.edge after

-- where a node directly depends on another, so does its number in the graph with the implied edges
pub directly_full : (nodes : List Node) (after : List (List ℕ)) (r : RealmGraph Node) (reached : List ℕ) (full : List (List ℕ)) → IsRealmOf nodes after r → IsReach after 0 reached → IsFull after reached full → (i j : ℕ) → i < length nodes → j < length nodes → Directly r (at nodes i) (at nodes j) → On full i j
directly_full nodes after r reached full is reach whole i j low high (inl strong) =
    let there : (k : ℕ) × (k < length nodes) × (at nodes k ≡ at nodes j) × On after i k = edge_at nodes r.edge after is.numbered i low (at nodes j) strong in
    let same : there.0 ≡ j = number_once nodes is.numbered.increasing there.0 j there.1 high there.2 in
    whole.strong i j (subst (λ k. On after i k) same there.3)
directly_full nodes after r reached full is reach whole i j low high (inr implied) =
    let own : j ≡ 0 = number_once nodes is.numbered.increasing j 0 high is.some (implied.own ∙ sym is.own) in
    whole.implied i j (record {
      inside = omega (arith, is.numbered.size);
      child = λ first. implied.child (ap (at nodes) first ∙ is.own);
      apart = by (holds reached i) refl;
      own = own;
    })
  where
    by : (b : Bool) → holds reached i ≡ b → holds reached i ≡ false
    by false out = out
    by true held =
        let way : Reaches (On after) 0 i = reach.only i held in
        let moved : DependencyPath (Strong r) (at nodes 0) (map (at nodes) way.0) (at nodes i) = DependencyPath-map (On after) (Strong r) (at nodes) (λ k. Unit {0}) (λ x y in_x on. (tt, is.numbered.on x y on)) 0 tt way.0 i way.1 in
        absurd (implied.apart (map (at nodes) way.0, subst (λ v. DependencyPath (Strong r) v (map (at nodes) way.0) (at nodes i)) is.own moved))

-- A node at a place of a list of numbered nodes is that of the number at that place.
at_number : (nodes : List Node) (xs : List ℕ) (k : ℕ) (x : Node) → slice_get (map (at nodes) xs) k ≡ Some x → (i : ℕ) × (slice_get xs k ≡ Some i) × (at nodes i ≡ x)
at_number nodes [] k x here = absurd (let never : ⊥ = cc in never)
at_number nodes (z ∷ zs) zero x here = let same : at nodes z ≡ x = cc in (z, refl, same)
at_number nodes (z ∷ zs) (suc k) x here = at_number nodes zs k x here

-- What stands at a place of a list is held by the list.
pub held_of : (xs : List ℕ) (k x : ℕ) → slice_get xs k ≡ Some x → IsTrue (holds xs x)
held_of [] k x here = absurd (let never : ⊥ = cc in never)
held_of (z ∷ zs) zero x here = let same : z ≡ x = cc in or_left (nat_eq x z) (holds zs x) (subst (λ v. IsTrue (nat_eq x v)) (sym same) (nat_eq-refl x))
held_of (z ∷ zs) (suc k) x here = or_right (nat_eq x z) (holds zs x) (held_of zs k x here)

-- the nodes of a falling list of all numbers are an order of the realm
pub falling_order : (nodes : List Node) (after : List (List ℕ)) (r : RealmGraph Node) (reached : List ℕ) (full : List (List ℕ)) (xs : List ℕ) → IsRealmOf nodes after r → IsReach after 0 reached → IsFull after reached full → IsTopological full xs → ((i : ℕ) → i < length nodes → IsTrue (holds xs i)) → ((i : ℕ) → IsTrue (holds xs i) → i < length nodes) → IsTopologicalOrder r (map (at nodes) xs)
falling_order nodes after r reached full xs is reach whole falling all inside = record {
  once = λ x. sym (length-filter (same_node x) (map (at nodes) xs)) ∙ counted x (r.has x) refl;
  before = λ x y i j here there direct. behind x y i j (at_number nodes xs i x here) (at_number nodes xs j y there) direct;
}
  where
    counted : (x : Node) (b : Bool) → r.has x ≡ b → length (filter (same_node x) (map (at nodes) xs)) ≡ (if r.has x then 1 else 0)
    counted x true there =
        let number : (i : ℕ) × (i < length nodes) × (at nodes i ≡ x) = is.number x there in
        let one : length (filter (same_node x) (map (at nodes) xs)) ≡ 1 = subst (λ v. length (filter (same_node v) (map (at nodes) xs)) ≡ 1) number.2 (one_in nodes r.edge after is.numbered number.0 number.1 xs (falling_once full xs falling) inside (all number.0 number.1)) in
        one ∙ ap (λ b. if b then 1 else 0) (sym there)
    counted x false out =
        none_in nodes x xs (λ z held same. true≢false (sym (subst (λ v. IsTrue (r.has v)) same (is.node z (inside z held))) ∙ out)) ∙ ap (λ b. if b then 1 else 0) (sym out)

    behind : (x y : Node) (i j : ℕ) → (k : ℕ) × (slice_get xs i ≡ Some k) × (at nodes k ≡ x) → (l : ℕ) × (slice_get xs j ≡ Some l) × (at nodes l ≡ y) → Directly r x y → i < j
    behind x y i j first second direct =
        let moved : Directly r (at nodes first.0) (at nodes second.0) = subst (λ v. Directly r (at nodes first.0) v) (sym second.2) (subst (λ v. Directly r v y) (sym first.2) direct) in
        falls_behind full xs falling i j first.0 second.0 first.1 second.1
        (directly_full nodes after r reached full is reach whole first.0 second.0 (inside first.0 (held_of xs i first.0 first.1)) (inside second.0 (held_of xs j second.0 second.1)) moved)
