-- One child more, that is given nothing strongly of a child of a collection, closes no ring.
use Rattle.std.proofs.Common.{◌≡◌, ℕ, List, [], ◌∷◌, ◌++◌, Bool, true, false, ◌&&◌, ◌||◌, true≢false, Option, Some, None, IsTrue, is_some, is_none, filter, map, option_and_then, refl, sym, ◌∙◌, ap, subst, inl, inr, append_assoc, append-nil}
use Rattle.std.specs.List.{list_any, list_all, cons_option}
use Rattle.std.proofs.lemmas.List.Folds.{list_any-append}
use Rattle.std.proofs.lemmas.Bool.{and_from as and_pair, or_left, or_right, or_cases}
use Rattle.std.specs.Cmp.{first_so, second_so}
use Rattle.cm_names.specs.declared.child.ChildName.{ChildName}
use Rattle.cm_facts.proofs.Booleans.{or_assoc}
use Rattle.cm_decl.specs.declared.decl.Decl.{Decl}
use Rattle.cm_decl.specs.declared.rows.Give.{Give}
use Rattle.cm_decl.specs.declared.node.DynChild.{DynChild}
use Rattle.cm_decl.specs.declared.node.Node.{Node}
use Rattle.cm_decl.specs.declared.node.Node.TheVariants.{Own, Child}
use Rattle.cm_decl.specs.Same.{same_child, same_node}
use Rattle.cm_decl.specs.Reach.{DependencyPath, NoCycle}
use Rattle.cm_decl.specs.Graph.{is_node, is_strong, is_from_node, static_node, dynamic_node, offers_to, gives_of, sources_of, StrongOn}
use Rattle.cm_decl.proofs.lemmas.Sameness.{never, same_child_exact}
use Rattle.cm_world.specs.declared.row.Row.{Row}
use Rattle.cm_world.specs.Rows.{has_parent}
use Rattle.cm_world.specs.Create.{dynamic_name, dynamic_by, dynamic_children}
use Rattle.cm_dynamic.specs.Apart.{is_from_created, is_plain_give, is_plain_offer, is_plain_use, NoneOfKind}
use Rattle.cm_dynamic.proofs.lemmas.graphs.Rings.{all_join, IsKept, one_kept, is_static, some_not_none, unbound, static_source, own_static, plain_offers}

-- ---- lists

-- what is kept of two lists
pub any_kept : {A B : Type 0} (q : B → Bool) (f : A → B) (t : A → Bool) (xs ys : List A) → list_any q (map f (filter t (xs ++ ys))) ≡ (list_any q (map f (filter t xs)) || list_any q (map f (filter t ys)))
any_kept q f t [] ys = refl
any_kept q f t (x ∷ xs) ys = by (t x) refl (any_kept q f t xs ys) where
  by : (b : Bool) → t x ≡ b → list_any q (map f (filter t (xs ++ ys))) ≡ (list_any q (map f (filter t xs)) || list_any q (map f (filter t ys))) → list_any q (map f (filter t (x ∷ (xs ++ ys)))) ≡ (list_any q (map f (filter t (x ∷ xs))) || list_any q (map f (filter t ys)))
  by true e rest = rw e (ap (λ b. q (f x) || b) rest ∙ or_assoc (q (f x)) (list_any q (map f (filter t xs))) (list_any q (map f (filter t ys))))
  by false e rest = rw e rest

-- ---- the children in collections have names of that kind

-- Whether a child has the name of one in a collection.
abbrev pub is_created : DynChild → Bool
is_created k = is_some k.name.coll

-- Children that are in collections are still so with that of a row, by what the row is.
created_by : (p : ℕ) (r : Row) (a b c : Bool) (name : ChildName) (rest : List DynChild) → has_parent p r ≡ a → is_some name.coll ≡ b → r.doomed ≡ c → IsTrue (list_all is_created rest) → IsTrue (list_all is_created (cons_option (dynamic_by p r name) rest))
created_by p r false b c name rest at coll doomed later = rw at later
created_by p r true false c name rest at coll doomed later = rw (at, coll) later
created_by p r true true true name rest at coll doomed later = rw (at, coll, doomed) later
created_by p r true true false name rest at coll doomed later = rw (at, coll, doomed) (and_pair (is_some name.coll) (list_all is_created rest) coll later)

-- Children that are in collections are still so with that of a row, if it has a name.
created_of : (p : ℕ) (r : Row) (o : Option ChildName) (rest : List DynChild) → r.name ≡ o → IsTrue (list_all is_created rest) → IsTrue (list_all is_created (cons_option (option_and_then (dynamic_by p r) o) rest))
created_of p r None rest e later = later
created_of p r (Some c) rest e later = created_by p r (has_parent p r) (is_some c.coll) r.doomed c rest refl refl refl later

-- The children of a row in collections all have names of that kind.
pub created_names : (rows : List Row) (p : ℕ) → IsTrue (list_all is_created (dynamic_children rows p))
created_names [] p = refl
created_names (r ∷ rs) p = created_of p r r.name (dynamic_children rs p) refl (created_names rs p)

-- What is named by a collection and a name has the name of a child in a collection.
pub created_name : (coll name : List ℕ) (gives : List Give) → IsTrue (is_created (record { name = dynamic_name coll name; gives = gives }))
created_name coll name gives = refl

-- ---- the nodes and what they come from

-- Where children of a name were given something from a node, one of them is there, in a collection.
pub any_sibling : (q : Give → Bool) (c : ChildName) (y : Node) (ks : List DynChild) → IsTrue (list_all is_created ks) → IsTrue (list_any (is_from_node y) (map (λ g. g.from) (filter q (gives_of ks c)))) → IsTrue (list_any (λ n. same_node n (Child c)) (map dynamic_node ks)) × IsTrue (is_some c.coll)
any_sibling q c y [] all any = never any
any_sibling q c y (k ∷ ks) all any = by (same_child k.name c) refl (any_sibling q c y ks (second_so (is_created k) (list_all is_created ks) all)) where
  by : (b : Bool) → same_child k.name c ≡ b → (IsTrue (list_any (is_from_node y) (map (λ g. g.from) (filter q (gives_of ks c)))) → IsTrue (list_any (λ n. same_node n (Child c)) (map dynamic_node ks)) × IsTrue (is_some c.coll)) → IsTrue (list_any (λ n. same_node n (Child c)) (map dynamic_node (k ∷ ks))) × IsTrue (is_some c.coll)
  by true e rest = (
    or_left (same_child k.name c) (list_any (λ n. same_node n (Child c)) (map dynamic_node ks)) e,
    subst (λ n. IsTrue (is_some n.coll)) (same_child_exact k.name c e) (first_so (is_created k) (list_all is_created ks) all),
  )
  by false e rest =
      let later : IsTrue (list_any (λ n. same_node n (Child c)) (map dynamic_node ks)) × IsTrue (is_some c.coll) = rest (rw e at any) in
      (or_right (same_child k.name c) (list_any (λ n. same_node n (Child c)) (map dynamic_node ks)) later.0, later.1)

-- What a name was given, with a child more, is what it was given and what that child was.
gives_more : (k : DynChild) (c : ChildName) (ks : List DynChild) → gives_of (ks ++ k ∷ []) c ≡ gives_of ks c ++ gives_of (k ∷ []) c
gives_more k c [] = refl
gives_more k c (x ∷ xs) = by (same_child x.name c) refl (gives_more k c xs) where
  by : (b : Bool) → same_child x.name c ≡ b → gives_of (xs ++ k ∷ []) c ≡ gives_of xs c ++ gives_of (k ∷ []) c → gives_of (x ∷ (xs ++ k ∷ [])) c ≡ gives_of (x ∷ xs) c ++ gives_of (k ∷ []) c
  by true e rest = rw e (ap (λ l. x.gives ++ l) rest ∙ sym (append_assoc x.gives (gives_of xs c) (gives_of (k ∷ []) c)))
  by false e rest = rw e rest

-- A child of a collection isn't static.
not_static : (c : ChildName) → IsTrue (is_some c.coll) → is_static (Child c) ≡ false
not_static c some = by c.coll some where
  by : (o : Option (List ℕ)) → IsTrue (is_some o) → is_none o ≡ false
  by None some = never some
  by (Some x) some = refl

-- an edge to a child of a collection that was there before
record IsOld (d : Decl) (old : List DynChild) (x y : Node) : Type 0 where
  source : IsTrue (list_any (is_from_node y) (sources_of d old x))
  node : IsTrue (is_node d old x)
  created : is_static x ≡ false

module _ (d : Decl) (old : List DynChild) (k : DynChild)
    (offers : IsTrue (list_all is_plain_offer d.offers)) (usages : IsTrue (list_all is_plain_use d.uses))
    (all : IsTrue (list_all is_created old)) (own : IsTrue (is_created k)) (plain : IsTrue (list_all is_plain_give k.gives)) where
  -- Gives none of which comes strongly from a child of a collection don't come so from one.
  none_created : (y : Node) (gs : List Give) → is_static y ≡ false → IsTrue (list_all is_plain_give gs) → IsTrue (list_any (is_from_node y) (map (λ g. g.from) (filter (λ g. is_strong g.dependency) gs))) → ⊥
  none_created y gs created all_plain any =
      let one : IsKept (is_from_node y) (λ (g : Give). g.from) (λ g. is_strong g.dependency) is_plain_give =
      one_kept (is_from_node y) (λ g. g.from) (λ g. is_strong g.dependency) is_plain_give gs any all_plain in
      true≢false (sym (static_source y one.item.from one.here (unbound (is_strong one.item.dependency) (is_from_created one.item.from) one.passes one.all)) ∙ created)

  -- Nothing that is declared alone comes strongly from a child of a collection.
  declared : NoneOfKind d []
  declared = record { offers = offers; usages = usages; children = refl }

  -- What the new child was given doesn't come strongly from a child of a collection.
  plain_last : (c : ChildName) → IsTrue (list_all is_plain_give (gives_of (k ∷ []) c))
  plain_last c = by (same_child k.name c) refl where
    by : (b : Bool) → same_child k.name c ≡ b → IsTrue (list_all is_plain_give (gives_of (k ∷ []) c))
    by true e = rw e (all_join is_plain_give k.gives [] plain refl)
    by false e = rw e refl

  -- A child that is in a collection is a node.
  old_node : (c : ChildName) → IsTrue (list_any (λ n. same_node n (Child c)) (map dynamic_node old)) → IsTrue (is_node d old (Child c))
  old_node c there =
      list_any-append (λ n. same_node n (Child c)) (Own ∷ map static_node d.children) (map dynamic_node old)
      ∙ or_right (list_any (λ n. same_node n (Child c)) (Own ∷ map static_node d.children)) (list_any (λ n. same_node n (Child c)) (map dynamic_node old)) there

  -- what comes from a child of a collection came so before
  from_old : (x y : Node) → is_static y ≡ false → IsTrue (list_any (is_from_node y) (sources_of d (old ++ k ∷ []) x)) → IsOld d old x y
  from_old Own y created any = absurd (true≢false (sym (own_static d [] declared y any) ∙ created))
  from_old (Child c) y created any =
      let test : List Give → Bool = λ gs. list_any (is_from_node y) (map (λ g. g.from) (filter (λ g. is_strong g.dependency) gs)) in
      let parts : IsTrue (test (offers_to d c) || test (gives_of old c ++ gives_of (k ∷ []) c)) = sym (any_kept (is_from_node y) (λ g. g.from) (λ g. is_strong g.dependency) (offers_to d c) (gives_of old c ++ gives_of (k ∷ []) c)) ∙ sym (ap (λ l. test (offers_to d c ++ l)) (gives_more k c old)) ∙ any in
      elim (or_cases (test (offers_to d c)) (test (gives_of old c ++ gives_of (k ∷ []) c)) parts) [
        | inl offered ↦ absurd (none_created y (offers_to d c) created (plain_offers d [] declared c) offered)
        | inr given ↦ elim (or_cases (test (gives_of old c)) (test (gives_of (k ∷ []) c)) (sym (any_kept (is_from_node y) (λ g. g.from) (λ g. is_strong g.dependency) (gives_of old c) (gives_of (k ∷ []) c)) ∙ given)) [
          | inl before ↦
              let sibling : IsTrue (list_any (λ n. same_node n (Child c)) (map dynamic_node old)) × IsTrue (is_some c.coll) = any_sibling (λ g. is_strong g.dependency) c y old all before in
              record {
                source = any_kept (is_from_node y) (λ g. g.from) (λ g. is_strong g.dependency) (offers_to d c) (gives_of old c) ∙ or_right (test (offers_to d c)) (test (gives_of old c)) before;
                node = old_node c sibling.0;
                created = not_static c sibling.1;
              }
          | inr last ↦ absurd (none_created y (gives_of (k ∷ []) c) created (plain_last c) last)
        ]
      ]

  -- ---- the parts of an edge

  -- What a node strongly depends on is among its sources.
  comes : (x y : Node) → StrongOn d (old ++ k ∷ []) x y → IsTrue (list_any (is_from_node y) (sources_of d (old ++ k ∷ []) x))
  comes x y strong =
      first_so (list_any (is_from_node y) (sources_of d (old ++ k ∷ []) x)) (is_node d (old ++ k ∷ []) x)
      (first_so (list_any (is_from_node y) (sources_of d (old ++ k ∷ []) x) && is_node d (old ++ k ∷ []) x) (is_node d (old ++ k ∷ []) y) strong)

  -- What strongly depends on something is a node.
  first_there : (x y : Node) → StrongOn d (old ++ k ∷ []) x y → IsTrue (is_node d (old ++ k ∷ []) x)
  first_there x y strong =
      second_so (list_any (is_from_node y) (sources_of d (old ++ k ∷ []) x)) (is_node d (old ++ k ∷ []) x)
      (first_so (list_any (is_from_node y) (sources_of d (old ++ k ∷ []) x) && is_node d (old ++ k ∷ []) x) (is_node d (old ++ k ∷ []) y) strong)

  -- What something strongly depends on is a node.
  second_there : (x y : Node) → StrongOn d (old ++ k ∷ []) x y → IsTrue (is_node d (old ++ k ∷ []) y)
  second_there x y strong = second_so (list_any (is_from_node y) (sources_of d (old ++ k ∷ []) x) && is_node d (old ++ k ∷ []) x) (is_node d (old ++ k ∷ []) y) strong

  -- A node strongly depends on each node that is among its sources.
  edge : (x y : Node) → IsTrue (list_any (is_from_node y) (sources_of d old x)) → IsTrue (is_node d old x) → IsTrue (is_node d old y) → StrongOn d old x y
  edge x y from first second =
      and_pair (list_any (is_from_node y) (sources_of d old x) && is_node d old x) (is_node d old y) (and_pair (list_any (is_from_node y) (sources_of d old x)) (is_node d old x) from first) second

  -- ---- from children of collections to children of collections

  -- A way to a child of a collection begins at an old node that is such a child.
  begins_old : (x : Node) (zs : List Node) (y : Node) → is_static y ≡ false → DependencyPath (StrongOn d (old ++ k ∷ [])) x zs y → IsTrue (is_node d old x) × (is_static x ≡ false)
  begins_old x [] y created way =
      let it : IsOld d old x y = from_old x y created (comes x y way) in (it.node, it.created)
  begins_old x (z ∷ zs) y created way =
      let rest : IsTrue (is_node d old z) × (is_static z ≡ false) = begins_old z zs y created way.1 in
      let it : IsOld d old x z = from_old x z rest.1 (comes x z way.0) in (it.node, it.created)

  -- A way to an old child of a collection is one without the new child.
  way_created : (x : Node) (zs : List Node) (y : Node) → is_static y ≡ false → IsTrue (is_node d old y) → DependencyPath (StrongOn d (old ++ k ∷ [])) x zs y → DependencyPath (StrongOn d old) x zs y
  way_created x [] y created node way =
      let it : IsOld d old x y = from_old x y created (comes x y way) in edge x y it.source it.node node
  way_created x (z ∷ zs) y created node way =
      let rest : IsTrue (is_node d old z) × (is_static z ≡ false) = begins_old z zs y created way.1 in
      let it : IsOld d old x z = from_old x z rest.1 (comes x z way.0) in
      (edge x z it.source it.node rest.0, way_created z zs y created node way.1)

  -- ---- from other nodes to others

  -- The new child doesn't have the name of a static one.
  other_name : (c : ChildName) → IsTrue (is_static (Child c)) → same_child k.name c ≡ false
  other_name c static = by (same_child k.name c) refl where
    by : (b : Bool) → same_child k.name c ≡ b → b ≡ false
    by true e = some_not_none c.coll (subst (λ n. IsTrue (is_some n.coll)) (same_child_exact k.name c e) own) static
    by false e = refl

  -- A static node has the same sources with the new child.
  same_sources : (x : Node) → IsTrue (is_static x) → sources_of d (old ++ k ∷ []) x ≡ sources_of d old x
  same_sources Own static = refl
  same_sources (Child c) static =
      ap (λ gs. map (λ g. g.from) (filter (λ g. is_strong g.dependency) (offers_to d c ++ gs)))
      (gives_more k c old ∙ ap (λ l. gives_of old c ++ l) (last_gives c (other_name c static)) ∙ append-nil (gives_of old c))
    where
      last_gives : (c : ChildName) → same_child k.name c ≡ false → gives_of (k ∷ []) c ≡ []
      last_gives c e = rw e refl

  -- A static node is one without the new child too.
  still_node : (x : Node) → IsTrue (is_static x) → IsTrue (is_node d (old ++ k ∷ []) x) → IsTrue (is_node d old x)
  still_node Own static node = refl
  still_node (Child c) static node =
      elim (or_cases (list_any (λ n. same_node n (Child c)) (Own ∷ map static_node d.children)) (list_any (λ n. same_node n (Child c)) (map dynamic_node (old ++ k ∷ [])))
      (sym (list_any-append (λ n. same_node n (Child c)) (Own ∷ map static_node d.children) (map dynamic_node (old ++ k ∷ []))) ∙ node)) [
        | inl here ↦ list_any-append (λ n. same_node n (Child c)) (Own ∷ map static_node d.children) (map dynamic_node old) ∙ or_left (list_any (λ n. same_node n (Child c)) (Own ∷ map static_node d.children)) (list_any (λ n. same_node n (Child c)) (map dynamic_node old)) here
        | inr created ↦ old_node c (before c static old created)
      ]
    where
      before : (c : ChildName) → IsTrue (is_static (Child c)) → (ks : List DynChild) → IsTrue (list_any (λ n. same_node n (Child c)) (map dynamic_node (ks ++ k ∷ []))) → IsTrue (list_any (λ n. same_node n (Child c)) (map dynamic_node ks))
      before c static [] there = absurd (true≢false (sym there ∙ ap (λ b. b || false) (other_name c static)))
      before c static (x ∷ xs) there =
          elim (or_cases (same_child x.name c) (list_any (λ n. same_node n (Child c)) (map dynamic_node (xs ++ k ∷ []))) there) [
            | inl here ↦ or_left (same_child x.name c) (list_any (λ n. same_node n (Child c)) (map dynamic_node xs)) here
            | inr later ↦ or_right (same_child x.name c) (list_any (λ n. same_node n (Child c)) (map dynamic_node xs)) (before c static xs later)
          ]

  -- What a static node strongly depends on is static.
  to_static : (x y : Node) → IsTrue (is_static x) → StrongOn d (old ++ k ∷ []) x y → IsTrue (is_static y)
  to_static x y static strong = by (is_static y) refl where
    by : (b : Bool) → is_static y ≡ b → IsTrue (is_static y)
    by true e = e
    by false e = absurd (true≢false (sym static ∙ (from_old x y e (comes x y strong)).created))

  -- What a static node strongly depends on it depends on so without the new child.
  edge_static : (x y : Node) → IsTrue (is_static x) → StrongOn d (old ++ k ∷ []) x y → StrongOn d old x y
  edge_static x y static strong =
      edge x y (sym (ap (list_any (is_from_node y)) (same_sources x static)) ∙ comes x y strong) (still_node x static (first_there x y strong)) (still_node y (to_static x y static strong) (second_there x y strong))

  -- A way from a static node is one without the new child.
  way_static : (x : Node) (zs : List Node) (y : Node) → IsTrue (is_static x) → DependencyPath (StrongOn d (old ++ k ∷ [])) x zs y → DependencyPath (StrongOn d old) x zs y
  way_static x [] y static way = edge_static x y static way
  way_static x (z ∷ zs) y static way = (edge_static x z static way.0, way_static z zs y (to_static x z static way.0) way.1)

  -- a ring is one that was there before
  pub further_acyclic : NoCycle (StrongOn d old) → NoCycle (StrongOn d (old ++ k ∷ []))
  further_acyclic acyclic (x, way) = by (is_static x) refl where
    by : (b : Bool) → is_static x ≡ b → ⊥
    by true e = acyclic (x, (way.0, way_static x way.0 x e way.1))
    by false e =
        let first : IsTrue (is_node d old x) × (is_static x ≡ false) = begins_old x way.0 x e way.1 in
        acyclic (x, (way.0, way_created x way.0 x e first.0 way.1))
