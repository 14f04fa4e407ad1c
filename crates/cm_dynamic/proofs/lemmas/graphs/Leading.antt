-- A new child closes no ring, where no way leads from it back to it.
use Rattle.std.proofs.Common.{◌≡◌, ℕ, List, [], ◌∷◌, ◌++◌, Bool, true, false, not, ◌&&◌, ◌||◌, true≢false, Option, Some, None, IsTrue, is_some, is_none, filter, map, refl, sym, ◌∙◌, subst, inl, inr, ◌⊎◌}
use Rattle.std.specs.List.{list_any, list_all}
use Rattle.std.specs.Option.{option_map_or}
use Rattle.std.specs.BTreeSet.{BTreeSet}
use Rattle.std.proofs.lemmas.List.Folds.{list_any-append}
use Rattle.std.proofs.lemmas.Bool.{and_from as and_pair, or_cases}
use Rattle.std.specs.Cmp.{first_so, second_so}
use Rattle.cm_names.specs.declared.child.ChildName.{ChildName}
use Rattle.cm_decl.specs.declared.decl.Decl.{Decl}
use Rattle.cm_decl.specs.declared.rows.Child.{Child as DeclaredChild}
use Rattle.cm_decl.specs.declared.rows.Give.{Give}
use Rattle.cm_decl.specs.declared.node.DynChild.{DynChild}
use Rattle.cm_decl.specs.declared.node.Node.{Node}
use Rattle.cm_decl.specs.declared.node.Node.TheVariants.{Own, Child}
use Rattle.cm_decl.specs.declared.origin.Origin.{Origin}
use Rattle.cm_decl.specs.declared.origin.Origin.TheVariants as origin
use Rattle.cm_decl.specs.Same.{same_child, same_node}
use Rattle.cm_decl.specs.Reach.{DependencyPath, Reaches, NoCycle}
use Rattle.cm_decl.specs.Graph.{is_node, static_name, is_strong, is_from_node, static_node, dynamic_node, offers_to, gives_of, child_sources, sources_of, StrongOn}
use Rattle.cm_decl.proofs.lemmas.Sameness.{never, same_child_exact, same_node-refl, same_node_exact}
use Rattle.cm_decl.proofs.lemmas.orders.Orders.{edge_nodes}
use Rattle.cm_decl.proofs.lemmas.cycles.Reaching.{Reaches-trans}
use Rattle.cm_deps.proofs.lemmas.given.Sourcing.{given_other, given_same, passing_any}
use Rattle.cm_world.specs.declared.row.Row.{Row}
use Rattle.cm_world.specs.Rows.{row_of, child_of}
use Rattle.cm_world.specs.Sound.{IsOrderly}
use Rattle.cm_world.specs.Create.{dynamic_children, dynamic_with}
use Rattle.cm_world.proofs.lemmas.trees.Finding.{some_same, none_some}
use Rattle.cm_walk.specs.Ahead.{is_in_set}
use Rattle.cm_dynamic.specs.Apart.{is_from_created, binds_created, is_plain_give, is_plain_offer, is_plain_use, NoneOfKind}
use Rattle.cm_dynamic.specs.Onward.{is_past, is_past_from, leads_past, ComesFrom}
use Rattle.cm_dynamic.proofs.lemmas.graphs.Rings.{IsKept, one_kept, is_static, some_not_none, unbound, static_source, own_static, plain_offers}
use Rattle.cm_dynamic.proofs.lemmas.graphs.Further.{any_kept, any_sibling, created_names}
use Rattle.cm_dynamic.proofs.lemmas.graphs.Named.{has_one, node_named, given_named, IsNamed, named}
use Rattle.cm_deps.proofs.lemmas.given.OneMore.{new_node}
use Rattle.cm_world.proofs.lemmas.examples.Declarations.{edge_source}

-- ---- one child more

-- an edge between others was there before
edge_before : (d : Decl) (old : List DynChild) (k : DynChild) (x y : Node) → (x ≡ Child k.name → ⊥) → (y ≡ Child k.name → ⊥) → StrongOn d (old ++ k ∷ []) x y → StrongOn d old x y
edge_before d old k x y first second edge =
    let ends : IsTrue (is_node d (old ++ k ∷ []) x) × IsTrue (is_node d (old ++ k ∷ []) y) = edge_nodes d (old ++ k ∷ []) x y edge in
    let from : IsTrue (list_any (is_from_node y) (sources_of d old x)) = subst (λ l. IsTrue (list_any (is_from_node y) l)) (given_other d old k x first) (edge_source d (old ++ k ∷ []) x y edge) in
    and_pair (list_any (is_from_node y) (sources_of d old x) && is_node d old x) (is_node d old y)
    (and_pair (list_any (is_from_node y) (sources_of d old x)) (is_node d old x) from (new_node d old k x first ends.0))
    (new_node d old k y second ends.1)

-- A way that doesn't pass the new child was one before it.
way_before : (d : Decl) (old : List DynChild) (k : DynChild) (x : Node) (zs : List Node) (y : Node) → (x ≡ Child k.name → ⊥) → (y ≡ Child k.name → ⊥) → (Reaches (StrongOn d (old ++ k ∷ [])) x (Child k.name) → Reaches (StrongOn d (old ++ k ∷ [])) (Child k.name) y → ⊥) → DependencyPath (StrongOn d (old ++ k ∷ [])) x zs y → DependencyPath (StrongOn d old) x zs y
way_before d old k x [] y first last past way = edge_before d old k x y first last way
way_before d old k x (z ∷ zs) y first last past way =
    let On : Node → Node → Type 0 = StrongOn d (old ++ k ∷ []) in
    let next : z ≡ Child k.name → ⊥ = λ e. past ([], subst (λ v. On x v) e way.0) (zs, subst (λ v. DependencyPath On v zs y) e way.1) in (
      edge_before d old k x z first next way.0,
      way_before d old k z zs y next last (λ to from. past (z ∷ to.0, (way.0, to.1)) from) way.1,
    )

-- where the new one doesn't come back to itself, a ring was there before
unless_back : (d : Decl) (old : List DynChild) (k : DynChild) → (Reaches (StrongOn d (old ++ k ∷ [])) (Child k.name) (Child k.name) → ⊥) → NoCycle (StrongOn d old) → NoCycle (StrongOn d (old ++ k ∷ []))
unless_back d old k none acyclic (x, way) = by (same_node x (Child k.name)) refl where
  by : (b : Bool) → same_node x (Child k.name) ≡ b → ⊥
  by true e = none (subst (λ v. Reaches (StrongOn d (old ++ k ∷ [])) v v) (same_node_exact x (Child k.name) e) way)
  by false e =
      let apart : x ≡ Child k.name → ⊥ = λ same. true≢false (sym (subst (λ v. IsTrue (same_node v (Child k.name))) (sym same) (same_node-refl (Child k.name))) ∙ e) in
      acyclic (x, (way.0, way_before d old k x way.0 x apart apart (λ to from. none (Reaches-trans (StrongOn d (old ++ k ∷ [])) (Child k.name) x (Child k.name) from to)) way.1))

-- ---- what the new child comes from

-- a child of a collection that the set has, of another name than the new one
pub record IsSeen (rows : List Row) (p : ℕ) (new : ChildName) (seen : BTreeSet ℕ) (y : Node) : Type 0 where
  pub name : ChildName
  pub is : y ≡ Child name
  pub inc : ℕ
  pub found : child_of rows p name ≡ Some inc
  pub there : IsTrue (is_in_set seen inc)
  pub other : IsTrue (not (same_child name new))

-- no child of a collection, or one that the set has
abbrev pub IsInside : List Row → ℕ → ChildName → BTreeSet ℕ → Node → Type 0
IsInside rows p new seen y = IsTrue (is_static y) ⊎ IsSeen rows p new seen y

-- the node of a declared child, or of the component itself, is none of a child of a collection
static_named : (c : ChildName) (ks : List DeclaredChild) → IsTrue (list_any (λ n. same_node n (Child c)) (map static_node ks)) → IsTrue (is_static (Child c))
static_named c [] any = never any
static_named c (k ∷ ks) any = elim (or_cases (same_child (static_name k.name) c) (list_any (λ n. same_node n (Child c)) (map static_node ks)) any) [
  | inl here ↦ subst (λ n. IsTrue (is_none n.coll)) (same_child_exact (static_name k.name) c here) refl
  | inr later ↦ static_named c ks later
]

module _ (rows : List Row) (next p : ℕ) (d : Decl) (new : ChildName) (gives : List Give) (seen : BTreeSet ℕ)
    (orderly : IsOrderly rows next) (offers : IsTrue (list_all is_plain_offer d.offers)) (usages : IsTrue (list_all is_plain_use d.uses))
    (created : IsTrue (is_some new.coll)) (unused : child_of rows p new ≡ None) (from : ComesFrom rows p new gives seen) where
  -- The new child, with its name and what it is given.
  abbrev pub It : DynChild
  It = record { name = new; gives = gives }

  -- The children of the row in collections before the new one is created.
  abbrev pub old : List DynChild
  old = dynamic_children rows p

  -- The children of the row in collections, with the new one at their end.
  abbrev pub all : List DynChild
  all = old ++ It ∷ []

  -- Nothing in the declaration itself comes strongly from a child of a collection.
  declared : NoneOfKind d []
  declared = record { offers = offers; usages = usages; children = refl }

  -- Whether some of these gives comes strongly from a node.
  abbrev pub strong_from : Node → List Give → Bool
  strong_from y gs = list_any (is_from_node y) (map (λ g. g.from) (filter (λ g. is_strong g.dependency) gs))

  -- what is declared comes from no child of a collection
  offered_static : (c : ChildName) (y : Node) → IsTrue (strong_from y (offers_to d c)) → IsTrue (is_static y)
  offered_static c y any =
      let one : IsKept (is_from_node y) (λ (g : Give). g.from) (λ g. is_strong g.dependency) is_plain_give =
      one_kept (is_from_node y) (λ g. g.from) (λ g. is_strong g.dependency) is_plain_give (offers_to d c) any (plain_offers d [] declared c) in
      static_source y one.item.from one.here (unbound (is_strong one.item.dependency) (is_from_created one.item.from) one.passes one.all)

  -- What is so where a condition holds is so, as it holds.
  past_if : (b c : Bool) → IsTrue b → IsTrue (not b || c) → IsTrue c
  past_if true c h it = it
  past_if false c h it = never h

  -- A child that was found is in the set, where it is so if found.
  same_there : (o : Option ℕ) (i : ℕ) → o ≡ Some i → IsTrue (option_map_or (is_in_set seen) o true) → IsTrue (is_in_set seen i)
  same_there o i e it = subst (λ o. IsTrue (option_map_or (is_in_set seen) o true)) e it

  -- A node that doesn't compare as the new child isn't it.
  static_of : (y : Node) → IsTrue (not (same_node y (Child new))) → y ≡ Child new → ⊥
  static_of y other same = never (subst (λ b. IsTrue (not b)) (subst (λ v. same_node v (Child new) ≡ true) (sym same) (same_node-refl (Child new))) other)

  -- a child of a collection that is named, and has a node, is in the set
  past_inside : (c : ChildName) → IsTrue (is_some c.coll) → IsTrue (is_past rows p new seen c) → IsTrue (is_node d all (Child c)) → IsInside rows p new seen (Child c)
  past_inside c coll past node =
      let other : IsTrue (not (same_child c new)) = first_so (not (same_child c new)) (option_map_or (is_in_set seen) (child_of rows p c) true) past in
      let before : IsTrue (is_node d (dynamic_children rows p) (Child c)) = new_node d (dynamic_children rows p) It (Child c) (static_of (Child c) other) node in
      let parts : IsTrue (list_any (λ n. same_node n (Child c)) (Own ∷ map static_node d.children)) ⊎ IsTrue (list_any (λ n. same_node n (Child c)) (map dynamic_node (dynamic_children rows p))) = or_cases (list_any (λ n. same_node n (Child c)) (Own ∷ map static_node d.children)) (list_any (λ n. same_node n (Child c)) (map dynamic_node (dynamic_children rows p)))
      (sym (list_any-append (λ n. same_node n (Child c)) (Own ∷ map static_node d.children) (map dynamic_node (dynamic_children rows p))) ∙ before) in
      elim parts [
        | inl static ↦ inl (static_named c d.children static)
        | inr dynamic ↦
            let one : IsNamed rows p c (λ gs. true) = named rows next p c (λ gs. true) orderly (sym (node_named c (dynamic_children rows p)) ∙ dynamic) in
            inr (record {
              name = c;
              is = refl;
              inc = one.row.inc;
              found = one.found;
              there = same_there (child_of rows p c) one.row.inc one.found (second_so (not (same_child c new)) (option_map_or (is_in_set seen) (child_of rows p c) true) past);
              other = other;
            })
      ]

  -- a source of what leads past the new child is inside
  source_inside : (b : Bool) (y : Node) (g : Give) → is_from_created g.from ≡ b → IsTrue (is_strong g.dependency) → IsTrue (is_from_node y g.from) → IsTrue (leads_past rows p new seen g) → IsTrue (is_node d all y) → IsInside rows p new seen y
  source_inside false y g e strong is past node = inl (static_source y g.from is e)
  source_inside true y g e strong is past node =
      child_inside g.from e is (past_if (binds_created g.dependency g.from) (is_past_from rows p new seen g.from) (and_pair (is_strong g.dependency) (is_from_created g.from) strong e) past)
    where
      child_inside : (o : Origin) → IsTrue (is_from_created o) → IsTrue (is_from_node y o) → IsTrue (is_past_from rows p new seen o) → IsInside rows p new seen y
      child_inside (origin.Child c) coll is past =
          let same : Child c ≡ y = same_node_exact (Child c) y is in
          subst (λ v. IsInside rows p new seen v) same (past_inside c coll past (subst (λ v. IsTrue (is_node d all v)) (sym same) node))
      child_inside origin.Own coll is past = never coll
      child_inside origin.Parent coll is past = never coll
      child_inside origin.Framework coll is past = never coll
      child_inside origin.Void coll is past = never coll

  -- A node that gives come from strongly is static or seen, where they lead to what was seen.
  gives_inside : (y : Node) (gs : List Give) → IsTrue (list_all (leads_past rows p new seen) gs) → IsTrue (strong_from y gs) → IsTrue (is_node d all y) → IsInside rows p new seen y
  gives_inside y gs past any node =
      let one : IsKept (is_from_node y) (λ (g : Give). g.from) (λ g. is_strong g.dependency) (leads_past rows p new seen) =
      one_kept (is_from_node y) (λ g. g.from) (λ g. is_strong g.dependency) (leads_past rows p new seen) gs any past in
      source_inside (is_from_created one.item.from) y one.item refl one.passes one.here one.all node

  -- what a child of that name was given comes from what its row was given
  given_row : (c : ChildName) (y : Node) → IsTrue (strong_from y (gives_of old c)) → IsNamed rows p c (λ gs. strong_from y gs)
  given_row c y any =
      let test : Give → Bool = λ g. is_strong g.dependency && is_from_node y g.from in
      let one : IsNamed rows p c (λ gs. list_any test gs) =
      named rows next p c (λ gs. list_any test gs) orderly
      (given_named test c (dynamic_children rows p) (sym (passing_any (λ g. is_strong g.dependency) (λ g. g.from) (is_from_node y) (gives_of (dynamic_children rows p) c)) ∙ any)) in
      record {
        row = one.row;
        lives = one.lives;
        found = one.found;
        passes = passing_any (λ g. is_strong g.dependency) (λ g. g.from) (is_from_node y) one.row.gives ∙ one.passes;
      }

  -- the sources of a child by what was there before
  before_parts : (c : ChildName) (y : Node) → IsTrue (list_any (is_from_node y) (sources_of d old (Child c))) → IsTrue (is_static y) ⊎ IsTrue (strong_from y (gives_of old c))
  before_parts c y any =
      elim (or_cases (strong_from y (offers_to d c)) (strong_from y (gives_of old c)) (sym (any_kept (is_from_node y) (λ (g : Give). g.from) (λ g. is_strong g.dependency) (offers_to d c) (gives_of old c)) ∙ any)) [
        | inl offered ↦ inl (offered_static c y offered)
        | inr given ↦ inr given
      ]

  -- from the new child
  from_new : (y : Node) → StrongOn d all (Child new) y → IsInside rows p new seen y
  from_new y edge =
      let any : IsTrue (list_any (is_from_node y) (sources_of d old (Child new) ++ map (λ g. g.from) (filter (λ g. is_strong g.dependency) gives))) =
      subst (λ l. IsTrue (list_any (is_from_node y) l)) (given_same d old It) (edge_source d (old ++ It ∷ []) (Child new) y edge) in
      elim (or_cases (list_any (is_from_node y) (sources_of d old (Child new))) (list_any (is_from_node y) (map (λ g. g.from) (filter (λ g. is_strong g.dependency) gives)))
      (sym (list_any-append (is_from_node y) (sources_of d old (Child new)) (map (λ g. g.from) (filter (λ g. is_strong g.dependency) gives))) ∙ any)) [
        | inl before ↦ elim (before_parts new y before) [
          | inl static ↦ inl static
          | inr given ↦ absurd (none_some (given_row new y given).row.inc (sym unused ∙ (given_row new y given).found))
        ]
        | inr last ↦ gives_inside y gives from.own last (edge_nodes d (old ++ It ∷ []) (Child new) y edge).1
      ]

  -- from a node that is none of a child of a collection
  from_static : (x y : Node) → IsTrue (is_static x) → StrongOn d all x y → IsInside rows p new seen y
  from_static Own y static edge = inl (own_static d [] declared y (edge_source d (old ++ It ∷ []) Own y edge))
  from_static (Child c) y static edge =
      let apart : Child c ≡ Child new → ⊥ = λ same. some_not_none new.coll created (subst (λ n. IsTrue (is_static n)) same static) in
      elim (before_parts c y (subst (λ l. IsTrue (list_any (is_from_node y) l)) (given_other d old It (Child c) apart) (edge_source d (old ++ It ∷ []) (Child c) y edge))) [
        | inl declared ↦ inl declared
        | inr given ↦ absurd (some_not_none c.coll (sibling c y given) static)
      ]
    where
      sibling : (c : ChildName) (y : Node) → IsTrue (strong_from y (gives_of old c)) → IsTrue (is_some c.coll)
      sibling c y given = (any_sibling (λ g. is_strong g.dependency) c y (dynamic_children rows p) (created_names rows p) given).1

  -- from a child that the set has
  from_seen : (x y : Node) → IsSeen rows p new seen x → StrongOn d all x y → IsInside rows p new seen y
  from_seen x y it edge =
      let c : ChildName = it.name in
      let strong : StrongOn d (old ++ It ∷ []) (Child c) y = subst (λ v. StrongOn d (old ++ It ∷ []) v y) it.is edge in
      elim (before_parts c y (subst (λ l. IsTrue (list_any (is_from_node y) l)) (given_other d old It (Child c) (static_of (Child c) it.other)) (edge_source d (old ++ It ∷ []) (Child c) y strong))) [
        | inl declared ↦ inl declared
        | inr given ↦
            let row : IsNamed rows p c (λ gs. strong_from y gs) = given_row c y given in
            let same : it.inc ≡ row.row.inc = some_same it.inc row.row.inc (sym it.found ∙ row.found) in
            gives_inside y row.row.gives (from.each row.row.inc (subst (λ i. IsTrue (is_in_set seen i)) same it.there) row.row row.lives) row.passes (edge_nodes d (old ++ It ∷ []) (Child c) y strong).1
      ]

  -- ---- ways

  -- What the new child, or a node static or seen, strongly depends on is static or seen.
  step : (x y : Node) → (x ≡ Child new) ⊎ IsInside rows p new seen x → StrongOn d all x y → IsInside rows p new seen y
  step x y (inl is) edge = from_new y (subst (λ v. StrongOn d all v y) is edge)
  step x y (inr (inl static)) edge = from_static x y static edge
  step x y (inr (inr it)) edge = from_seen x y it edge

  -- A way from the new child, or from a node static or seen, leads to one static or seen.
  leads_inside : (x : Node) → (x ≡ Child new) ⊎ IsInside rows p new seen x → (zs : List Node) (y : Node) → DependencyPath (StrongOn d all) x zs y → IsInside rows p new seen y
  leads_inside x begin [] y way = step x y begin way
  leads_inside x begin (z ∷ zs) y way = leads_inside z (inr (step x z begin way.0)) zs y way.1

  -- The new child is neither static nor seen.
  not_inside : IsInside rows p new seen (Child new) → ⊥
  not_inside (inl static) = some_not_none new.coll created static
  not_inside (inr it) = static_of (Child it.name) it.other (sym it.is)

  -- with the new child there is no ring
  pub onward_acyclic : NoCycle (StrongOn d (dynamic_children rows p)) → NoCycle (StrongOn d (dynamic_with rows p new gives))
  onward_acyclic acyclic =
      unless_back d (dynamic_children rows p) It (λ back. not_inside (leads_inside (Child new) (inl refl) back.0 (Child new) back.1)) acyclic
