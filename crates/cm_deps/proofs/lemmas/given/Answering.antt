use Rattle.std.proofs.Common.{◌≡◌, ℕ, ◌<◌, List, [], ◌∷◌, ◌++◌, length, Bool, true, false, ◌&&◌, ◌||◌, true≢false, refl, sym, ◌∙◌, ap, subst, IsTrue, inl, inr, ◌⊎◌, arith, nat_eq, Some, None, cond}
use Rattle.std.specs.Prelude.{nat_lt, position, Option, ◌↔◌}
use Rattle.std.specs.List.{list_any, position_or_len}
use Rattle.std.specs.Option.{option_map_or}
use Rattle.std.proofs.lemmas.List.Folds.{list_any-append}
use Rattle.std.proofs.lemmas.List.Quantifiers.{position-Some}
use Rattle.std.proofs.lemmas.List.Sums.{fails_before_first}
use Rattle.std.proofs.lemmas.Bool.{cases_lt, or_cases}
use borrow.Author.Tests.{ltb-true, lt-ltb}
use Rattle.std.proofs.lemmas.Bool.{and_from as and_pair}
use Rattle.std.specs.Cmp.{first_so, second_so}
use Rattle.cm_decl.specs.declared.decl.Decl.{Decl}
use Rattle.cm_decl.specs.declared.rows.Give.{Give}
use Rattle.cm_decl.specs.declared.node.DynChild.{DynChild}
use Rattle.cm_decl.specs.declared.node.Node.{Node}
use Rattle.cm_decl.specs.declared.node.Node.TheVariants.{Own, Child}
use Rattle.cm_decl.specs.declared.origin.Origin.{Origin}
use Rattle.cm_decl.specs.declared.origin.Origin.TheVariants as origin
use Rattle.cm_decl.specs.Same.{same_node}
use Rattle.cm_decl.specs.RealmGraph.{Directly}
use Rattle.cm_decl.specs.Graph.{is_node, is_from_node}
use Rattle.cm_decl.specs.GraphInside.{realm, DependsOn, WouldDirectly, WouldDepend}
use Rattle.cm_decl.proofs.lemmas.orders.Orders.{direct_nodes}
use Rattle.cm_decl.proofs.lemmas.Sameness.{same_node-refl, same_node_exact}
use Rattle.cm_deps.specs.Edges.{holds, row}
use Rattle.cm_deps.specs.Nodes.{at, IsNodes, IsNodeNumber}
use Rattle.cm_deps.specs.Sources.{is_source, strong_sources, offers_of}
use Rattle.cm_deps.specs.LeadsToLeast.{number_of, leads_to, source_leads}
use Rattle.cm_deps.specs.Graph.{IsReachability}
use Rattle.cm_deps.proofs.lemmas.listed.Listing.{same_nat, nat_eq-refl, or_left, or_right}
use Rattle.cm_deps.proofs.lemmas.loops.Ways.{last_step}
use Rattle.cm_deps.proofs.lemmas.numbers.Numbering.{number_once}
use Rattle.cm_deps.proofs.lemmas.numbers.Increasing.{increasing_keys}
use Rattle.cm_deps.proofs.lemmas.numbers.Placing.{found_at, at_found}
use Rattle.cm_deps.proofs.lemmas.given.Sourcing.{sources_append}
use Rattle.cm_deps.proofs.lemmas.numbers.Realms.{own_first}

-- ---- the ends of what depends

-- What depends on something is a node of the realm graph.
pub first_is_node : (d : Decl) (dynamic : List DynChild) (x y : Node) → DependsOn d dynamic x y → IsTrue (is_node d dynamic x)
first_is_node d dynamic x y ([], on) = (direct_nodes d dynamic x y on).0
first_is_node d dynamic x y (z ∷ zs, way) = (direct_nodes d dynamic x z way.0).0

-- What something depends on is a node of the realm graph.
pub last_is_node : (d : Decl) (dynamic : List DynChild) (x y : Node) → DependsOn d dynamic x y → IsTrue (is_node d dynamic y)
last_is_node d dynamic x y way =
    let last : (z : Node) × Directly (realm d dynamic) z y = last_step (Directly (realm d dynamic)) x way.0 y way.1 in
    (direct_nodes d dynamic last.0 y last.1).1

-- what is none of the nodes is no node
pub no_node : (d : Decl) (dynamic : List DynChild) (nodes : List Node) (x : Node) → IsNodes (is_node d dynamic) nodes → list_any (same_node x) nodes ≡ false → IsTrue (is_node d dynamic x) → ⊥
no_node d dynamic nodes x is absent has = true≢false (sym (is.all x ∙ has) ∙ absent)

-- A node reaches another by the numbers of both exactly where the one depends on the other.
pub depends_by_number : (d : Decl) (dynamic : List DynChild) (nodes : List Node) (reached : List (List ℕ)) (x y : Node) (from to : ℕ) → IsReachability d dynamic nodes reached → IsNodeNumber nodes x from → IsNodeNumber nodes y to → IsTrue (holds (row reached from) to) ↔ DependsOn d dynamic x y
depends_by_number d dynamic nodes reached x y from to is first second =
    let both : IsTrue (holds (row reached from) to) ↔ DependsOn d dynamic (at nodes from) (at nodes to) = is from to first.inside second.inside in (
      (λ held. subst (λ v. DependsOn d dynamic v y) first.there (subst (λ v. DependsOn d dynamic (at nodes from) v) second.there (both.0 held))),
      (λ way. both.1 (subst (λ v. DependsOn d dynamic (at nodes from) v) (sym second.there) (subst (λ v. DependsOn d dynamic v y) (sym first.there) way))),
    )

-- ---- what leads to a node

-- an element that passes, and each other test that it passes finds one as well
any_some : {A : Type 0} (p : A → Bool) (xs : List A) → IsTrue (list_any p xs) → (x : A) × ((q : A → Bool) → IsTrue (q x) → IsTrue (list_any q xs)) × IsTrue (p x)
any_some p [] h = absurd (true≢false (sym h))
any_some p (x ∷ xs) h = elim (or_cases (p x) (list_any p xs) h) as (λ _. (y : _) × ((q : _ → Bool) → IsTrue (q y) → IsTrue (list_any q (x ∷ xs))) × IsTrue (p y)) [
  | inl here ↦ (x, (λ q passes. or_left (q x) (list_any q xs) passes), here)
  | inr there ↦ (let rest : (y : _) × ((q : _ → Bool) → IsTrue (q y) → IsTrue (list_any q xs)) × IsTrue (p y) = any_some p xs there in
      (rest.0, (λ q passes. or_right (q x) (list_any q xs) (rest.1 q passes)), rest.2))
]

-- Where a list holds a number that passes a test, some item of it passes.
any_held : (p : ℕ → Bool) (xs : List ℕ) (i : ℕ) → IsTrue (holds xs i) → IsTrue (p i) → IsTrue (list_any p xs)
any_held p xs i held passes =
    let found : (x : ℕ) × ((q : ℕ → Bool) → IsTrue (q x) → IsTrue (list_any q xs)) × IsTrue (nat_eq i x) = any_some (nat_eq i) xs held in
    found.1 p (subst (λ k. IsTrue (p k)) (same_nat i found.0 found.2) passes)

-- a node is another or depends on it
abbrev pub Onward : Decl → List DynChild → Node → Node → Type 0
Onward d dynamic first y = (first ≡ y) ⊎ DependsOn d dynamic first y

-- Where the numbers tell that a node leads to another, it is that one or depends on it.
pub leads_onward : (d : Decl) (dynamic : List DynChild) (nodes : List Node) (reached : List (List ℕ)) (y : Node) (from to : ℕ) → IsReachability d dynamic nodes reached → from < length nodes → IsNodeNumber nodes y to → IsTrue (leads_to reached to from) → Onward d dynamic (at nodes from) y
leads_onward d dynamic nodes reached y from to is low there h = elim (or_cases (nat_eq from to) (holds (row reached from) to) h) as (λ _. Onward d dynamic (at nodes from) y) [
  | inl same ↦ inl (ap (at nodes) (same_nat from to same) ∙ there.there)
  | inr held ↦ inr ((depends_by_number d dynamic nodes reached (at nodes from) y from to is (record { inside = low; there = refl }) there).0 held)
]

-- Where a node is another or depends on it, their numbers tell that it leads there.
pub onward_leads : (d : Decl) (dynamic : List DynChild) (nodes : List Node) (reached : List (List ℕ)) (x y : Node) (from to : ℕ) → IsNodes (is_node d dynamic) nodes → IsReachability d dynamic nodes reached → IsNodeNumber nodes x from → IsNodeNumber nodes y to → Onward d dynamic x y → IsTrue (leads_to reached to from)
onward_leads d dynamic nodes reached x y from to sorted is here there (inl same) =
    or_left (nat_eq from to) (holds (row reached from) to) (subst (λ k. IsTrue (nat_eq from k)) (number_once nodes (increasing_keys nodes sorted.increasing) from to here.inside there.inside (here.there ∙ same ∙ sym there.there)) (nat_eq-refl from))
onward_leads d dynamic nodes reached x y from to sorted is here there (inr way) =
    or_right (nat_eq from to) (holds (row reached from) to) ((depends_by_number d dynamic nodes reached x y from to is here there).1 way)

-- ---- the number of a source

-- The place that is found for a test is within the nodes, and the node there passes.
position_at : (p : Node → Bool) (nodes : List Node) (i : ℕ) → position p nodes ≡ Some i → (i < length nodes) × IsTrue (p (at nodes i))
position_at p nodes i found = let all : (i < length nodes) × (p (at nodes i) ≡ true) × ((k : ℕ) → k < i → p (at nodes k) ≡ false) = position-Some p nodes i Own found in (all.0, all.1)

-- A place is found for a test that some node passes.
position_none : (p : Node → Bool) (nodes : List Node) (i : ℕ) → i < length nodes → IsTrue (p (at nodes i)) → position p nodes ≡ None → ⊥
position_none p nodes i low passes none = elim (cases_lt (position_or_len p nodes) (length nodes)) as (λ _. ⊥) [
  | inl before ↦ (let some : position p nodes ≡ Some (position_or_len p nodes) = ap (λ b. cond b (Some (position_or_len p nodes)) None) (lt-ltb (position_or_len p nodes) (length nodes) before) in
      let never : ⊥ = cc in
      never)
  | inr from ↦ true≢false (sym passes ∙ fails_before_first p nodes i Own (omega arith))
]

-- the node of a source's number is the source
pub source_place : (d : Decl) (dynamic : List DynChild) (nodes : List Node) → IsNodes (is_node d dynamic) nodes → (s : Origin) (i : ℕ) → number_of nodes s ≡ Some i → (i < length nodes) × IsTrue (is_from_node (at nodes i) s)
source_place d dynamic nodes is origin.Own i some =
    let own : (0 < length nodes) × (at nodes 0 ≡ Own) = own_first d dynamic nodes is in
    let zero_is : 0 ≡ i = cc in
    subst (λ k. (k < length nodes) × IsTrue (is_from_node (at nodes k) origin.Own)) zero_is (own.0, subst (λ v. IsTrue (same_node Own v)) (sym own.1) refl)
source_place d dynamic nodes is (origin.Child c) i some =
    let place : (i < length nodes) × IsTrue (same_node (at nodes i) (Child c)) = position_at (λ y. same_node y (Child c)) nodes i some in
    (place.0, subst (λ v. IsTrue (same_node (Child c) v)) (sym (same_node_exact (at nodes i) (Child c) place.1)) (same_node-refl (Child c)))
source_place d dynamic nodes is origin.Parent i some = absurd (let never : ⊥ = cc in never)
source_place d dynamic nodes is origin.Framework i some = absurd (let never : ⊥ = cc in never)
source_place d dynamic nodes is origin.Void i some = absurd (let never : ⊥ = cc in never)

-- a source that is a node has its number
pub source_found : (d : Decl) (dynamic : List DynChild) (nodes : List Node) → IsNodes (is_node d dynamic) nodes → (s : Origin) (x : Node) (i : ℕ) → IsTrue (is_from_node x s) → IsNodeNumber nodes x i → number_of nodes s ≡ Some i
source_found d dynamic nodes is origin.Own x i from there =
    let own : (0 < length nodes) × (at nodes 0 ≡ Own) = own_first d dynamic nodes is in
    let same : Own ≡ x = same_node_exact Own x from in
    ap Some (number_once nodes (increasing_keys nodes is.increasing) 0 i own.0 there.inside (own.1 ∙ same ∙ sym there.there))
source_found d dynamic nodes is (origin.Child c) x i from there = by (position (λ y. same_node y (Child c)) nodes) refl
  where
    same : Child c ≡ x
    same = same_node_exact (Child c) x from

    by : (o : Option ℕ) → position (λ y. same_node y (Child c)) nodes ≡ o → position (λ y. same_node y (Child c)) nodes ≡ Some i
    by None e = absurd (position_none (λ y. same_node y (Child c)) nodes i there.inside (subst (λ v. IsTrue (same_node v (Child c))) (same ∙ sym there.there) (same_node-refl (Child c))) e)
    by (Some k) e =
        let place : (k < length nodes) × IsTrue (same_node (at nodes k) (Child c)) = position_at (λ y. same_node y (Child c)) nodes k e in
        e ∙ ap Some (number_once nodes (increasing_keys nodes is.increasing) k i place.0 there.inside (same_node_exact (at nodes k) (Child c) place.1 ∙ same ∙ sym there.there))
source_found d dynamic nodes is origin.Parent x i from there = absurd (true≢false (sym from))
source_found d dynamic nodes is origin.Framework x i from there = absurd (true≢false (sym from))
source_found d dynamic nodes is origin.Void x i from there = absurd (true≢false (sym from))

-- ---- one more child of a collection

-- A node is among the strong sources of offers and more where it is among those of one of both.
sources_of_both : (d : Decl) (coll : List ℕ) (gives : List Give) (x : Node) → list_any (is_from_node x) (strong_sources (offers_of d.offers coll ++ gives)) ≡ (list_any (is_from_node x) (strong_sources (offers_of d.offers coll)) || list_any (is_from_node x) (strong_sources gives))
sources_of_both d coll gives x = ap (list_any (is_from_node x)) (sources_append (offers_of d.offers coll) gives) ∙ list_any-append (is_from_node x) (strong_sources (offers_of d.offers coll)) (strong_sources gives)

-- The node of a number is a node of the realm.
node_of_number : (d : Decl) (dynamic : List DynChild) (nodes : List Node) → IsNodes (is_node d dynamic) nodes → (i : ℕ) → i < length nodes → IsTrue (is_node d dynamic (at nodes i))
node_of_number d dynamic nodes is i low = sym (is.all (at nodes i)) ∙ at_found (at nodes i) nodes i low refl

-- A further child would depend on each node that the component itself leads to.
pub would_own : (d : Decl) (dynamic : List DynChild) (coll : List ℕ) (gives : List Give) (nodes : List Node) (reached : List (List ℕ)) (y : Node) (to : ℕ) → IsNodes (is_node d dynamic) nodes → IsReachability d dynamic nodes reached → IsNodeNumber nodes y to → IsTrue (leads_to reached to 0) → WouldDepend d dynamic coll gives y
would_own d dynamic coll gives nodes reached y to sorted is there h =
    let own : (0 < length nodes) × (at nodes 0 ≡ Own) = own_first d dynamic nodes sorted in
    record { first = at nodes 0; direct = inr own.1; onward = leads_onward d dynamic nodes reached y 0 to is own.0 there h }

-- A further child would depend on each node that a strong source of its collection's offers leads to.
pub would_offer : (d : Decl) (dynamic : List DynChild) (coll : List ℕ) (gives : List Give) (nodes : List Node) (reached : List (List ℕ)) (numbers : List ℕ) (y : Node) (to : ℕ) → IsNodes (is_node d dynamic) nodes → IsReachability d dynamic nodes reached → ((j : ℕ) → holds numbers j ≡ is_source nodes (strong_sources (offers_of d.offers coll)) j) → IsNodeNumber nodes y to → IsTrue (list_any (leads_to reached to) numbers) → WouldDepend d dynamic coll gives y
would_offer d dynamic coll gives nodes reached numbers y to sorted is lists there h =
    let found : (i : ℕ) × ((q : ℕ → Bool) → IsTrue (q i) → IsTrue (list_any q numbers)) × IsTrue (leads_to reached to i) = any_some (leads_to reached to) numbers h in
    let both : IsTrue (nat_lt found.0 (length nodes) && list_any (is_from_node (at nodes found.0)) (strong_sources (offers_of d.offers coll))) = sym (lists found.0) ∙ found.1 (nat_eq found.0) (nat_eq-refl found.0) in
    let low : found.0 < length nodes = ltb-true found.0 (length nodes) (first_so (nat_lt found.0 (length nodes)) (list_any (is_from_node (at nodes found.0)) (strong_sources (offers_of d.offers coll))) both) in
    record {
      first = at nodes found.0;
      direct = inl (and_pair (list_any (is_from_node (at nodes found.0)) (strong_sources (offers_of d.offers coll ++ gives))) (is_node d dynamic (at nodes found.0))
          (sources_of_both d coll gives (at nodes found.0) ∙ or_left (list_any (is_from_node (at nodes found.0)) (strong_sources (offers_of d.offers coll))) (list_any (is_from_node (at nodes found.0)) (strong_sources gives)) (second_so (nat_lt found.0 (length nodes)) (list_any (is_from_node (at nodes found.0)) (strong_sources (offers_of d.offers coll))) both))
          (node_of_number d dynamic nodes sorted found.0 low));
      onward = leads_onward d dynamic nodes reached y found.0 to is low there found.2;
    }

-- A further child would depend on each node that a strong source of its own gives leads to.
pub would_give : (d : Decl) (dynamic : List DynChild) (coll : List ℕ) (gives : List Give) (nodes : List Node) (reached : List (List ℕ)) (y : Node) (to : ℕ) → IsNodes (is_node d dynamic) nodes → IsReachability d dynamic nodes reached → IsNodeNumber nodes y to → IsTrue (list_any (source_leads nodes reached to) (strong_sources gives)) → WouldDepend d dynamic coll gives y
would_give d dynamic coll gives nodes reached y to sorted is there h =
    let found : (s : Origin) × ((q : Origin → Bool) → IsTrue (q s) → IsTrue (list_any q (strong_sources gives))) × IsTrue (source_leads nodes reached to s) = any_some (source_leads nodes reached to) (strong_sources gives) h in
    by found.0 found.1 (number_of nodes found.0) refl found.2
  where
    by : (s : Origin) → ((q : Origin → Bool) → IsTrue (q s) → IsTrue (list_any q (strong_sources gives))) → (o : Option ℕ) → number_of nodes s ≡ o → IsTrue (option_map_or (leads_to reached to) o false) → WouldDepend d dynamic coll gives y
    by s finds None e leads = absurd (true≢false (sym leads))
    by s finds (Some i) e leads =
        let place : (i < length nodes) × IsTrue (is_from_node (at nodes i) s) = source_place d dynamic nodes sorted s i e in
        record {
          first = at nodes i;
          direct = inl (and_pair (list_any (is_from_node (at nodes i)) (strong_sources (offers_of d.offers coll ++ gives))) (is_node d dynamic (at nodes i))
              (sources_of_both d coll gives (at nodes i) ∙ or_right (list_any (is_from_node (at nodes i)) (strong_sources (offers_of d.offers coll))) (list_any (is_from_node (at nodes i)) (strong_sources gives)) (finds (is_from_node (at nodes i)) place.1))
              (node_of_number d dynamic nodes sorted i place.0));
          onward = leads_onward d dynamic nodes reached y i to is place.0 there leads;
        }

-- What a child to come would depend on is led to by the component itself, by a source of the offers to its
-- collection, or by one of its strong gives.
pub would_split : (d : Decl) (dynamic : List DynChild) (coll : List ℕ) (gives : List Give) (nodes : List Node) (reached : List (List ℕ)) (numbers : List ℕ) (y : Node) (to : ℕ) → IsNodes (is_node d dynamic) nodes → IsReachability d dynamic nodes reached → ((j : ℕ) → holds numbers j ≡ is_source nodes (strong_sources (offers_of d.offers coll)) j) → IsNodeNumber nodes y to → WouldDepend d dynamic coll gives y → IsTrue (leads_to reached to 0) ⊎ (IsTrue (list_any (leads_to reached to) numbers) ⊎ IsTrue (list_any (source_leads nodes reached to) (strong_sources gives)))
would_split d dynamic coll gives nodes reached numbers y to sorted is lists there would = by would.first would.direct would.onward
  where
    given : (x : Node) → (i : ℕ) × (i < length nodes) × (at nodes i ≡ x) → Onward d dynamic x y → IsTrue (list_any (is_from_node x) (strong_sources gives)) → IsTrue (list_any (source_leads nodes reached to) (strong_sources gives))
    given x place onward h =
        let found : (s : Origin) × ((q : Origin → Bool) → IsTrue (q s) → IsTrue (list_any q (strong_sources gives))) × IsTrue (is_from_node x s) = any_some (is_from_node x) (strong_sources gives) h in
        let here : IsNodeNumber nodes x place.0 = record { inside = place.1; there = place.2 } in
        found.1 (source_leads nodes reached to) (ap (λ o. option_map_or (leads_to reached to) o false) (source_found d dynamic nodes sorted found.0 x place.0 found.2 here) ∙ onward_leads d dynamic nodes reached x y place.0 to sorted is here there onward)

    offered : (x : Node) → (i : ℕ) × (i < length nodes) × (at nodes i ≡ x) → Onward d dynamic x y → IsTrue (list_any (is_from_node x) (strong_sources (offers_of d.offers coll))) → IsTrue (list_any (leads_to reached to) numbers)
    offered x place onward h =
        let here : IsNodeNumber nodes x place.0 = record { inside = place.1; there = place.2 } in
        any_held (leads_to reached to) numbers place.0
        (lists place.0 ∙ and_pair (nat_lt place.0 (length nodes)) (list_any (is_from_node (at nodes place.0)) (strong_sources (offers_of d.offers coll))) (lt-ltb place.0 (length nodes) place.1) (subst (λ v. IsTrue (list_any (is_from_node v) (strong_sources (offers_of d.offers coll)))) (sym place.2) h))
        (onward_leads d dynamic nodes reached x y place.0 to sorted is here there onward)

    by : (x : Node) → WouldDirectly d dynamic coll gives x → Onward d dynamic x y → IsTrue (leads_to reached to 0) ⊎ (IsTrue (list_any (leads_to reached to) numbers) ⊎ IsTrue (list_any (source_leads nodes reached to) (strong_sources gives)))
    by x (inl both) onward =
        let has : IsTrue (is_node d dynamic x) = second_so (list_any (is_from_node x) (strong_sources (offers_of d.offers coll ++ gives))) (is_node d dynamic x) both in
        let place : (i : ℕ) × (i < length nodes) × (at nodes i ≡ x) = found_at x nodes (sorted.all x ∙ has) in
        let either : IsTrue (list_any (is_from_node x) (strong_sources (offers_of d.offers coll)) || list_any (is_from_node x) (strong_sources gives)) = sym (sources_of_both d coll gives x) ∙ first_so (list_any (is_from_node x) (strong_sources (offers_of d.offers coll ++ gives))) (is_node d dynamic x) both in
        elim (or_cases (list_any (is_from_node x) (strong_sources (offers_of d.offers coll))) (list_any (is_from_node x) (strong_sources gives)) either) as (λ _. IsTrue (leads_to reached to 0) ⊎ (IsTrue (list_any (leads_to reached to) numbers) ⊎ IsTrue (list_any (source_leads nodes reached to) (strong_sources gives)))) [
          | inl h ↦ inr (inl (offered x place onward h))
          | inr h ↦ inr (inr (given x place onward h))
        ]
    by x (inr same) onward =
        let own : (0 < length nodes) × (at nodes 0 ≡ Own) = own_first d dynamic nodes sorted in
        inl (onward_leads d dynamic nodes reached x y 0 to sorted is (record { inside = own.0; there = own.1 ∙ sym same }) there onward)

-- no child would depend on what is no node
pub would_none : (d : Decl) (dynamic : List DynChild) (coll : List ℕ) (gives : List Give) (y : Node) → WouldDepend d dynamic coll gives y → IsTrue (is_node d dynamic y)
would_none d dynamic coll gives y would = by would.first would.direct would.onward
  where
    has : (x : Node) → WouldDirectly d dynamic coll gives x → IsTrue (is_node d dynamic x)
    has x (inl both) = second_so (list_any (is_from_node x) (strong_sources (offers_of d.offers coll ++ gives))) (is_node d dynamic x) both
    has x (inr own) = subst (λ v. IsTrue (is_node d dynamic v)) (sym own) refl

    by : (x : Node) → WouldDirectly d dynamic coll gives x → Onward d dynamic x y → IsTrue (is_node d dynamic y)
    by x direct (inl same) = subst (λ v. IsTrue (is_node d dynamic v)) same (has x direct)
    by x direct (inr way) = last_is_node d dynamic x y way
