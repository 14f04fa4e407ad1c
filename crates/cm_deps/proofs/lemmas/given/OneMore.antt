use Rattle.std.proofs.Common.{◌≡◌, ℕ, List, [], ◌∷◌, ◌++◌, Bool, true, false, ◌&&◌, ◌||◌, true≢false, refl, sym, ◌∙◌, ap, subst, IsTrue, inl, inr, ◌⊎◌, Some, append-nil, append_assoc}
use Rattle.std.specs.Prelude.{map, unwrap_or, ◌↔◌}
use Rattle.std.specs.List.{list_any}
use Rattle.std.proofs.lemmas.List.{map-append}
use Rattle.std.proofs.lemmas.List.Folds.{list_any-append}
use Rattle.std.proofs.lemmas.Bool.{and_from as and_pair, or_parts, or_cases}
use Rattle.std.specs.Cmp.{first_so, second_so}
use Rattle.cm_names.specs.declared.child.ChildName.{ChildName}
use Rattle.cm_decl.specs.declared.decl.Decl.{Decl}
use Rattle.cm_decl.specs.declared.node.DynChild.{DynChild}
use Rattle.cm_decl.specs.declared.node.Node.{Node}
use Rattle.cm_decl.specs.declared.node.Node.TheVariants.{Own, Child}
use Rattle.cm_decl.specs.Same.{same_node, same_child}
use Rattle.cm_decl.specs.RealmGraph.{RealmGraph, Directly}
use Rattle.cm_decl.specs.Reach.{Reaches, NoCycle}
use Rattle.cm_decl.specs.Graph.{is_node, nodes, static_node, dynamic_node, is_from_node, sources_of, child_sources, gives_of, offers_to, StrongOn}
use Rattle.cm_decl.specs.GraphInside.{realm, DependsOn, WouldDirectly, WouldDepend}
use Rattle.cm_decl.proofs.lemmas.orders.Orders.{edge_nodes}
use Rattle.cm_decl.proofs.lemmas.Sameness.{same_node-refl, same_node_exact}
use Rattle.cm_deps.specs.Laws.{IsFurther}
use Rattle.cm_deps.specs.Sources.{strong_sources, offers_of}
use Rattle.cm_deps.proofs.lemmas.listed.Listing.{or_left, or_right}
use Rattle.cm_deps.proofs.lemmas.loops.Ways.{DependencyPath-map, Reaches-along, last_step}
use Rattle.cm_deps.proofs.lemmas.given.Sourcing.{given_other, given_same, sources_append}

-- the nodes, with one more
pub more_nodes : (d : Decl) (dynamic : List DynChild) (k : DynChild) (x : Node) → is_node d (dynamic ++ k ∷ []) x ≡ (is_node d dynamic x || (same_node (Child k.name) x || false))
more_nodes d dynamic k x =
    ap (list_any (λ y. same_node y x)) (ap (λ l. (Own ∷ map static_node d.children) ++ l) (map-append dynamic_node dynamic (k ∷ [])) ∙ sym (append_assoc (Own ∷ map static_node d.children) (map dynamic_node dynamic) (dynamic_node k ∷ []))) ∙
    list_any-append (λ y. same_node y x) (nodes d dynamic) (Child k.name ∷ [])

-- the realm graph with the child
abbrev pub after : Decl → List DynChild → DynChild → RealmGraph Node
after d dynamic k = realm d (dynamic ++ k ∷ [])

-- A child isn't the component itself.
not_own : (c : ChildName) → Child c ≡ Own → ⊥
not_own c same = let never : ⊥ = cc in never

-- ---- nodes

-- A node of the realm is still one with one child more.
old_node : (d : Decl) (dynamic : List DynChild) (k : DynChild) (x : Node) → IsTrue (is_node d dynamic x) → IsTrue (is_node d (dynamic ++ k ∷ []) x)
old_node d dynamic k x has = more_nodes d dynamic k x ∙ or_left (is_node d dynamic x) (same_node (Child k.name) x || false) has

-- The node of the further child is a node of the realm with that child.
its_node : (d : Decl) (dynamic : List DynChild) (k : DynChild) → IsTrue (is_node d (dynamic ++ k ∷ []) (Child k.name))
its_node d dynamic k = more_nodes d dynamic k (Child k.name) ∙ or_right (is_node d dynamic (Child k.name)) (same_node (Child k.name) (Child k.name) || false) (or_left (same_node (Child k.name) (Child k.name)) false (same_node-refl (Child k.name)))

-- With one child more, a node of the realm graph other than that child was one before.
pub new_node : (d : Decl) (dynamic : List DynChild) (k : DynChild) (x : Node) → (x ≡ Child k.name → ⊥) → IsTrue (is_node d (dynamic ++ k ∷ []) x) → IsTrue (is_node d dynamic x)
new_node d dynamic k x apart has = elim (or_cases (is_node d dynamic x) (same_node (Child k.name) x || false) (sym (more_nodes d dynamic k x) ∙ has)) as (λ _. IsTrue (is_node d dynamic x)) [
  | inl old ↦ old
  | inr new ↦ (elim (or_cases (same_node (Child k.name) x) false new) as (λ _. IsTrue (is_node d dynamic x)) [
    | inl same ↦ absurd (apart (sym (same_node_exact (Child k.name) x same)))
    | inr never ↦ absurd (true≢false (sym never))
  ])
]

-- No node of the realm is that of the further child.
node_apart : (d : Decl) (dynamic : List DynChild) (collection : List ℕ) (k : DynChild) → IsFurther d dynamic collection k → (x : Node) → IsTrue (is_node d dynamic x) → x ≡ Child k.name → ⊥
node_apart d dynamic collection k is x has same = true≢false (sym (subst (λ v. IsTrue (is_node d dynamic v)) same has) ∙ is.new)

-- ---- strong edges

-- No strong edge of the realm with the further child leads to that child.
unused_edge : (d : Decl) (dynamic : List DynChild) (collection : List ℕ) (k : DynChild) → IsFurther d dynamic collection k → (z y : Node) → StrongOn d (dynamic ++ k ∷ []) z y → y ≡ Child k.name → ⊥
unused_edge d dynamic collection k is z y edge same = true≢false (sym (subst (λ v. StrongOn d (dynamic ++ k ∷ []) z v) same edge) ∙ is.unused z)

-- A strong edge with the further child, not from it, is one without it.
edge_old : (d : Decl) (dynamic : List DynChild) (collection : List ℕ) (k : DynChild) → IsFurther d dynamic collection k → (x y : Node) → (x ≡ Child k.name → ⊥) → StrongOn d (dynamic ++ k ∷ []) x y → StrongOn d dynamic x y
edge_old d dynamic collection k is x y apart edge =
    let ends : IsTrue (is_node d (dynamic ++ k ∷ []) x) × IsTrue (is_node d (dynamic ++ k ∷ []) y) = edge_nodes d (dynamic ++ k ∷ []) x y edge in
    let from : IsTrue (list_any (is_from_node y) (sources_of d (dynamic ++ k ∷ []) x)) = first_so (list_any (is_from_node y) (sources_of d (dynamic ++ k ∷ []) x)) (is_node d (dynamic ++ k ∷ []) x)
    (first_so (list_any (is_from_node y) (sources_of d (dynamic ++ k ∷ []) x) && is_node d (dynamic ++ k ∷ []) x) (is_node d (dynamic ++ k ∷ []) y) edge) in
    and_pair (list_any (is_from_node y) (sources_of d dynamic x) && is_node d dynamic x) (is_node d dynamic y)
    (and_pair (list_any (is_from_node y) (sources_of d dynamic x)) (is_node d dynamic x) (subst (λ l. IsTrue (list_any (is_from_node y) l)) (given_other d dynamic k x apart) from) (new_node d dynamic k x apart ends.0))
    (new_node d dynamic k y (unused_edge d dynamic collection k is x y edge) ends.1)

-- A strong edge without the further child is one with it.
edge_new : (d : Decl) (dynamic : List DynChild) (collection : List ℕ) (k : DynChild) → IsFurther d dynamic collection k → (x y : Node) → StrongOn d dynamic x y → StrongOn d (dynamic ++ k ∷ []) x y
edge_new d dynamic collection k is x y edge =
    let ends : IsTrue (is_node d dynamic x) × IsTrue (is_node d dynamic y) = edge_nodes d dynamic x y edge in
    let from : IsTrue (list_any (is_from_node y) (sources_of d dynamic x)) = first_so (list_any (is_from_node y) (sources_of d dynamic x)) (is_node d dynamic x)
    (first_so (list_any (is_from_node y) (sources_of d dynamic x) && is_node d dynamic x) (is_node d dynamic y) edge) in
    and_pair (list_any (is_from_node y) (sources_of d (dynamic ++ k ∷ []) x) && is_node d (dynamic ++ k ∷ []) x) (is_node d (dynamic ++ k ∷ []) y)
    (and_pair (list_any (is_from_node y) (sources_of d (dynamic ++ k ∷ []) x)) (is_node d (dynamic ++ k ∷ []) x) (subst (λ l. IsTrue (list_any (is_from_node y) l)) (sym (given_other d dynamic k x (node_apart d dynamic collection k is x ends.0))) from) (old_node d dynamic k x ends.0))
    (old_node d dynamic k y ends.1)

-- What a node other than the further child reaches with it, it reaches without it.
reach_old : (d : Decl) (dynamic : List DynChild) (collection : List ℕ) (k : DynChild) → IsFurther d dynamic collection k → (x y : Node) → (x ≡ Child k.name → ⊥) → Reaches (StrongOn d (dynamic ++ k ∷ [])) x y → Reaches (StrongOn d dynamic) x y
reach_old d dynamic collection k is x y apart way =
    (map (λ v. v) way.0, DependencyPath-map (StrongOn d (dynamic ++ k ∷ [])) (StrongOn d dynamic) (λ v. v) (λ v. v ≡ Child k.name → ⊥) (λ a b far on. (unused_edge d dynamic collection k is a b on, edge_old d dynamic collection k is a b far on)) x apart way.0 y way.1)

-- What a node reaches without the further child, it reaches with it.
reach_new : (d : Decl) (dynamic : List DynChild) (collection : List ℕ) (k : DynChild) → IsFurther d dynamic collection k → (x y : Node) → Reaches (StrongOn d dynamic) x y → Reaches (StrongOn d (dynamic ++ k ∷ [])) x y
reach_new d dynamic collection k is x y way = Reaches-along (StrongOn d dynamic) (StrongOn d (dynamic ++ k ∷ [])) (edge_new d dynamic collection k is) x y way

-- No node reaches the further child.
never_reached : (d : Decl) (dynamic : List DynChild) (collection : List ℕ) (k : DynChild) → IsFurther d dynamic collection k → (x : Node) → Reaches (StrongOn d (dynamic ++ k ∷ [])) x (Child k.name) → ⊥
never_reached d dynamic collection k is x way =
    let last : (z : Node) × StrongOn d (dynamic ++ k ∷ []) z (Child k.name) = last_step (StrongOn d (dynamic ++ k ∷ [])) x way.0 (Child k.name) way.1 in
    unused_edge d dynamic collection k is last.0 (Child k.name) last.1 refl

-- Where there is no cycle of strong edges, there is none with the further child.
acyclic_new : (d : Decl) (dynamic : List DynChild) (collection : List ℕ) (k : DynChild) → IsFurther d dynamic collection k → NoCycle (StrongOn d dynamic) → NoCycle (StrongOn d (dynamic ++ k ∷ []))
acyclic_new d dynamic collection k is acyclic (x, way) =
    acyclic (x, reach_old d dynamic collection k is x x (λ same. never_reached d dynamic collection k is x (subst (λ v. Reaches (StrongOn d (dynamic ++ k ∷ [])) x v) same way)) way)

-- ---- direct edges

-- No direct edge, strong or implied, leads to the further child.
direct_into : (d : Decl) (dynamic : List DynChild) (collection : List ℕ) (k : DynChild) → IsFurther d dynamic collection k → (z y : Node) → Directly (after d dynamic k) z y → y ≡ Child k.name → ⊥
direct_into d dynamic collection k is z y (inl edge) same = unused_edge d dynamic collection k is z y edge same
direct_into d dynamic collection k is z y (inr implied) same = not_own k.name (sym same ∙ implied.own)

-- A direct edge with the further child, not from it, is one without it.
direct_old : (d : Decl) (dynamic : List DynChild) (collection : List ℕ) (k : DynChild) → IsFurther d dynamic collection k → NoCycle (StrongOn d dynamic) → (x y : Node) → (x ≡ Child k.name → ⊥) → Directly (after d dynamic k) x y → Directly (realm d dynamic) x y
direct_old d dynamic collection k is acyclic x y apart (inl edge) = inl (edge_old d dynamic collection k is x y apart edge)
direct_old d dynamic collection k is acyclic x y apart (inr implied) = inr (record {
  acyclic = acyclic;
  node = new_node d dynamic k x apart implied.node;
  child = implied.child;
  apart = λ way. implied.apart (reach_new d dynamic collection k is Own x way);
  own = implied.own;
})

-- A direct edge without the further child is one with it, where there is no cycle.
direct_new : (d : Decl) (dynamic : List DynChild) (collection : List ℕ) (k : DynChild) → IsFurther d dynamic collection k → NoCycle (StrongOn d dynamic) → (x y : Node) → Directly (realm d dynamic) x y → Directly (after d dynamic k) x y
direct_new d dynamic collection k is acyclic x y (inl edge) = inl (edge_new d dynamic collection k is x y edge)
direct_new d dynamic collection k is acyclic x y (inr implied) = inr (record {
  acyclic = acyclic_new d dynamic collection k is acyclic;
  node = old_node d dynamic k x implied.node;
  child = implied.child;
  apart = λ way. implied.apart (reach_old d dynamic collection k is Own x (λ same. not_own k.name (sym same)) way);
  own = implied.own;
})

-- ---- what the child itself depends on

-- A child that isn't among the dynamic ones was given nothing.
none_given : (dynamic : List DynChild) (c : ChildName) → list_any (λ y. same_node y (Child c)) (map dynamic_node dynamic) ≡ false → gives_of dynamic c ≡ []
none_given [] c none = refl
none_given (h ∷ hs) c none = by (same_child h.name c) refl (none_given hs c (or_parts (same_child h.name c) (list_any (λ y. same_node y (Child c)) (map dynamic_node hs)) none).1)
  where
    by : (b : Bool) → same_child h.name c ≡ b → gives_of hs c ≡ [] → gives_of (h ∷ hs) c ≡ []
    by true e later = absurd (let never : true ≡ false = rw e at none in true≢false never)
    by false e later = rw e later

-- The sources of the further child are those of a child of its collection, with what it is given.
its_sources : (d : Decl) (dynamic : List DynChild) (collection : List ℕ) (k : DynChild) → IsFurther d dynamic collection k → sources_of d (dynamic ++ k ∷ []) (Child k.name) ≡ child_sources d (record { coll = Some collection; name = [] }) k.gives
its_sources d dynamic collection k is =
    let none : gives_of dynamic k.name ≡ [] = none_given dynamic k.name (or_parts (list_any (λ y. same_node y (Child k.name)) (Own ∷ map static_node d.children)) (list_any (λ y. same_node y (Child k.name)) (map dynamic_node dynamic)) (sym (list_any-append (λ y. same_node y (Child k.name)) (Own ∷ map static_node d.children) (map dynamic_node dynamic)) ∙ is.new)).1 in
    given_same d dynamic k ∙
    ap (λ l. strong_sources (offers_to d k.name ++ l) ++ strong_sources k.gives) none ∙
    ap (λ l. strong_sources l ++ strong_sources k.gives) (append-nil (offers_to d k.name)) ∙
    sym (sources_append (offers_to d k.name) k.gives) ∙
    ap (λ t. strong_sources (offers_of d.offers t ++ k.gives)) (ap (λ o. unwrap_or o k.name.name) is.coll)

-- What the further child directly depends on, a child so created would directly depend on.
first_would : (d : Decl) (dynamic : List DynChild) (collection : List ℕ) (k : DynChild) → IsFurther d dynamic collection k → (y : Node) → Directly (after d dynamic k) (Child k.name) y → WouldDirectly d dynamic collection k.gives y
first_would d dynamic collection k is y (inl edge) =
    let from : IsTrue (list_any (is_from_node y) (sources_of d (dynamic ++ k ∷ []) (Child k.name))) = first_so (list_any (is_from_node y) (sources_of d (dynamic ++ k ∷ []) (Child k.name))) (is_node d (dynamic ++ k ∷ []) (Child k.name))
    (first_so (list_any (is_from_node y) (sources_of d (dynamic ++ k ∷ []) (Child k.name)) && is_node d (dynamic ++ k ∷ []) (Child k.name)) (is_node d (dynamic ++ k ∷ []) y) edge) in
    inl (and_pair (list_any (is_from_node y) (child_sources d (record { coll = Some collection; name = [] }) k.gives)) (is_node d dynamic y)
    (subst (λ l. IsTrue (list_any (is_from_node y) l)) (its_sources d dynamic collection k is) from)
    (new_node d dynamic k y (unused_edge d dynamic collection k is (Child k.name) y edge) (edge_nodes d (dynamic ++ k ∷ []) (Child k.name) y edge).1))
first_would d dynamic collection k is y (inr implied) = inr implied.own

-- What a child so created would directly depend on, the further child directly depends on.
would_first : (d : Decl) (dynamic : List DynChild) (collection : List ℕ) (k : DynChild) → IsFurther d dynamic collection k → NoCycle (StrongOn d dynamic) → (y : Node) → WouldDirectly d dynamic collection k.gives y → Directly (after d dynamic k) (Child k.name) y
would_first d dynamic collection k is acyclic y (inl both) =
    let from : IsTrue (list_any (is_from_node y) (child_sources d (record { coll = Some collection; name = [] }) k.gives)) = first_so (list_any (is_from_node y) (child_sources d (record { coll = Some collection; name = [] }) k.gives)) (is_node d dynamic y) both in
    inl (and_pair (list_any (is_from_node y) (sources_of d (dynamic ++ k ∷ []) (Child k.name)) && is_node d (dynamic ++ k ∷ []) (Child k.name)) (is_node d (dynamic ++ k ∷ []) y)
    (and_pair (list_any (is_from_node y) (sources_of d (dynamic ++ k ∷ []) (Child k.name))) (is_node d (dynamic ++ k ∷ []) (Child k.name)) (subst (λ l. IsTrue (list_any (is_from_node y) l)) (sym (its_sources d dynamic collection k is)) from) (its_node d dynamic k))
    (old_node d dynamic k y (second_so (list_any (is_from_node y) (child_sources d (record { coll = Some collection; name = [] }) k.gives)) (is_node d dynamic y) both)))
would_first d dynamic collection k is acyclic y (inr own) = inr (record {
  acyclic = acyclic_new d dynamic collection k is acyclic;
  node = its_node d dynamic k;
  child = not_own k.name;
  apart = never_reached d dynamic collection k is Own;
  own = own;
})

-- ---- all that it depends on

-- What a node other than the further child depends on with it, it depends on without it.
depends_old : (d : Decl) (dynamic : List DynChild) (collection : List ℕ) (k : DynChild) → IsFurther d dynamic collection k → NoCycle (StrongOn d dynamic) → (x y : Node) → (x ≡ Child k.name → ⊥) → DependsOn d (dynamic ++ k ∷ []) x y → DependsOn d dynamic x y
depends_old d dynamic collection k is acyclic x y apart way =
    (map (λ v. v) way.0, DependencyPath-map (Directly (after d dynamic k)) (Directly (realm d dynamic)) (λ v. v) (λ v. v ≡ Child k.name → ⊥) (λ a b far on. (direct_into d dynamic collection k is a b on, direct_old d dynamic collection k is acyclic a b far on)) x apart way.0 y way.1)

-- What the further child depends on, a child so created would depend on.
depends_would : (d : Decl) (dynamic : List DynChild) (collection : List ℕ) (k : DynChild) → IsFurther d dynamic collection k → NoCycle (StrongOn d dynamic) → (y : Node) → DependsOn d (dynamic ++ k ∷ []) (Child k.name) y → WouldDepend d dynamic collection k.gives y
depends_would d dynamic collection k is acyclic y ([], direct) = record { first = y; direct = first_would d dynamic collection k is y direct; onward = inl refl }
depends_would d dynamic collection k is acyclic y (z ∷ zs, way) = record {
  first = z;
  direct = first_would d dynamic collection k is z way.0;
  onward = inr (depends_old d dynamic collection k is acyclic z y (direct_into d dynamic collection k is (Child k.name) z way.0) (zs, way.1));
}

-- What a child so created would depend on, the further child depends on.
would_depends : (d : Decl) (dynamic : List DynChild) (collection : List ℕ) (k : DynChild) → IsFurther d dynamic collection k → NoCycle (StrongOn d dynamic) → (y : Node) → WouldDepend d dynamic collection k.gives y → DependsOn d (dynamic ++ k ∷ []) (Child k.name) y
would_depends d dynamic collection k is acyclic y would = by would.onward
  where
    first : Directly (after d dynamic k) (Child k.name) would.first
    first = would_first d dynamic collection k is acyclic would.first would.direct

    by : (would.first ≡ y) ⊎ DependsOn d dynamic would.first y → DependsOn d (dynamic ++ k ∷ []) (Child k.name) y
    by (inl same) = ([], subst (λ v. Directly (after d dynamic k) (Child k.name) v) same first)
    by (inr way) =
        let along : Reaches (Directly (after d dynamic k)) would.first y = Reaches-along (Directly (realm d dynamic)) (Directly (after d dynamic k)) (direct_new d dynamic collection k is acyclic) would.first y way in
        (would.first ∷ along.0, (first, along.1))

-- Without a cycle, a further child depends exactly on what it was said that it would depend on.
pub one_more : (d : Decl) (dynamic : List DynChild) (collection : List ℕ) (k : DynChild) → IsFurther d dynamic collection k → NoCycle (StrongOn d dynamic) → (y : Node) → DependsOn d (dynamic ++ k ∷ []) (Child k.name) y ↔ WouldDepend d dynamic collection k.gives y
one_more d dynamic collection k is acyclic y = (depends_would d dynamic collection k is acyclic y, would_depends d dynamic collection k is acyclic y)
