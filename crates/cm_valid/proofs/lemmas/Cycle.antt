-- A declaration in which nothing strongly depends on a child has no cycle.
use Rattle.std.proofs.Common.{◌≡◌, List, [], ◌∷◌, ◌++◌, Bool, true, false, cond, ◌&&◌, true≢false, refl, sym, ap, ◌∙◌, subst, map, IsTrue}
use Rattle.std.specs.Prelude.{filter}
use Rattle.std.specs.List.{list_any}
use Rattle.std.specs.Str.{bytes_eq}
use Rattle.std.proofs.lemmas.List.Folds.{list_any-append}
use Rattle.std.proofs.lemmas.Bool.{or_from}
use Rattle.std.specs.Cmp.{first_so}
use Rattle.cm_names.specs.declared.child.ChildName.{ChildName}
use Rattle.cm_facts.proofs.Booleans.{or_false_first, or_false_second}
use Rattle.cm_decl.specs.declared.decl.Decl.{Decl}
use Rattle.cm_decl.specs.declared.rows.Give.{Give}
use Rattle.cm_decl.specs.declared.rows.Offer.{Offer}
use Rattle.cm_decl.specs.declared.origin.Origin.{Origin}
use Rattle.cm_decl.specs.declared.origin.Origin.TheVariants as origin
use Rattle.cm_decl.specs.declared.node.Node.{Node}
use Rattle.cm_decl.specs.declared.node.Node.TheVariants.{Own, Child}
use Rattle.cm_decl.specs.Reach.{DependencyPath, NoCycle}
use Rattle.cm_decl.specs.Graph.{is_strong, is_from_child, is_from_node, own_sources, offers_to, sources_of, target_of, StrongOn, is_node}
use Rattle.cm_valid.specs.Cycles.{needs_child}

-- ---- tests

-- where no item passes, none is left
none_left : {A : Type 0} (keep : A → Bool) (xs : List A) → list_any keep xs ≡ false → filter keep xs ≡ []
none_left keep [] e = refl
none_left keep (x ∷ xs) e =
    ap (λ b. cond b (x ∷ filter keep xs) (filter keep xs)) (or_false_first (keep x) (list_any keep xs) e) ∙ none_left keep xs (or_false_second (keep x) (list_any keep xs) e)

-- Where an item and all of a list fail a test, so do those and perhaps the item.
one_more : {A : Type 0} (p : A → Bool) (b : Bool) (x : A) (xs : List A) → p x ≡ false → list_any p xs ≡ false → list_any p (cond b (x ∷ xs) xs) ≡ false
one_more p true x xs none rest = or_from (p x) (list_any p xs) none rest
one_more p false x xs none rest = rest

-- a test that no item passes is passed by none that is kept
of_kept : {A : Type 0} (keep p : A → Bool) (xs : List A) → list_any p xs ≡ false → list_any p (filter keep xs) ≡ false
of_kept keep p [] e = refl
of_kept keep p (x ∷ xs) e =
    one_more p (keep x) x (filter keep xs) (or_false_first (p x) (list_any p xs) e) (of_kept keep p xs (or_false_second (p x) (list_any p xs) e))

-- What holds of no item that is made of another holds of none of the list of these.
of_made : {A B : Type 0} (f : A → B) (p : B → Bool) (xs : List A) → list_any (λ x. p (f x)) xs ≡ false → list_any p (map f xs) ≡ false
of_made f p [] e = refl
of_made f p (x ∷ xs) e =
    or_from (p (f x)) (list_any p (map f xs)) (or_false_first (p (f x)) (list_any (λ y. p (f y)) xs) e) (of_made f p xs (or_false_second (p (f x)) (list_any (λ y. p (f y)) xs) e))

-- ---- sources

-- What comes from no child doesn't come from this one.
no_child : (c : ChildName) (o : Origin) → is_from_child o ≡ false → is_from_node (Child c) o ≡ false
no_child c origin.Parent e = refl
no_child c origin.Own e = refl
no_child c origin.Framework e = refl
no_child c (origin.Child k) e = absurd (true≢false e)
no_child c origin.Void e = refl

-- With a source in front that isn't kept or no child's, the sources still have none of a child.
one_source : (c : ChildName) (b : Bool) (o : Origin) (os : List Origin) → (b && is_from_child o) ≡ false → list_any (is_from_node (Child c)) os ≡ false → list_any (is_from_node (Child c)) (cond b (o ∷ os) os) ≡ false
one_source c true o os none rest = or_from (is_from_node (Child c) o) (list_any (is_from_node (Child c)) os) (no_child c o none) rest
one_source c false o os none rest = rest

-- What is made of a list that begins with an item only if a test passes begins so too.
cond_map : {A B : Type 0} (f : A → B) (b : Bool) (x : A) (xs : List A) → map f (cond b (x ∷ xs) xs) ≡ cond b (f x ∷ map f xs) (map f xs)
cond_map f true x xs = refl
cond_map f false x xs = refl

-- what is given strongly by no child comes from no child
no_source : (c : ChildName) (gives : List Give) → list_any (λ g. is_strong g.dependency && is_from_child g.from) gives ≡ false → list_any (is_from_node (Child c)) (map (λ g. g.from) (filter (λ g. is_strong g.dependency) gives)) ≡ false
no_source c [] e = refl
no_source c (g ∷ gs) e =
    let strong : Give → Bool = λ h. is_strong h.dependency in
    let rest = no_source c gs (or_false_second (strong g && is_from_child g.from) (list_any (λ h. strong h && is_from_child h.from) gs) e) in
    ap (list_any (is_from_node (Child c))) (cond_map (λ h. h.from) (strong g) g (filter strong gs))
    ∙ one_source c (strong g) g.from (map (λ h. h.from) (filter strong gs)) (or_false_first (strong g && is_from_child g.from) (list_any (λ h. strong h && is_from_child h.from) gs) e) rest

-- ---- edges

module _ (d : Decl) (free : needs_child d ≡ false) where
  -- No use of the declaration depends strongly on a child.
  own_uses : list_any (λ u. is_strong u.dependency && is_from_child u.from) d.uses ≡ false
  own_uses = or_false_first _ _ free

  -- The component itself has no sources.
  own_none : own_sources d ≡ []
  own_none = ap (map (λ u. u.from)) (none_left (λ u. is_strong u.dependency && is_from_child u.from) d.uses own_uses)

  -- No offer to a child depends strongly on a child.
  given_none : (k : ChildName) → list_any (λ (g : Give). is_strong g.dependency && is_from_child g.from) (offers_to d k ++ []) ≡ false
  given_none k =
      let aimed : List Offer = filter (λ (o : Offer). bytes_eq o.to (target_of k)) d.offers in
      let none : list_any (λ (o : Offer). is_strong o.give.dependency && is_from_child o.give.from) aimed ≡ false = of_kept (λ (o : Offer). bytes_eq o.to (target_of k)) (λ (o : Offer). is_strong o.give.dependency && is_from_child o.give.from) d.offers (or_false_second _ _ free) in
      let made : list_any (λ (g : Give). is_strong g.dependency && is_from_child g.from) (offers_to d k) ≡ false = of_made (λ (o : Offer). o.give) (λ (g : Give). is_strong g.dependency && is_from_child g.from) aimed none in
      list_any-append (λ (g : Give). is_strong g.dependency && is_from_child g.from) (offers_to d k) []
      ∙ or_from _ false made refl

  -- the component itself depends on nothing
  from_own : (y : Node) → StrongOn d [] Own y → ⊥
  from_own y on =
      let first = first_so (list_any (is_from_node y) (own_sources d)) (is_node d [] Own) (first_so (list_any (is_from_node y) (own_sources d) && is_node d [] Own) (is_node d [] y) on) in
      true≢false (sym (subst (λ os. IsTrue (list_any (is_from_node y) os)) own_none first))

  -- nothing depends on a child
  on_child : (x : Node) (c : ChildName) → StrongOn d [] x (Child c) → ⊥
  on_child Own c on = from_own (Child c) on
  on_child (Child k) c on =
      let sources = list_any (is_from_node (Child c)) (sources_of d [] (Child k)) in
      let first = first_so sources (is_node d [] (Child k)) (first_so (sources && is_node d [] (Child k)) (is_node d [] (Child c)) on) in
      true≢false (sym (subst IsTrue (no_source c (offers_to d k ++ []) (given_none k)) first))

  -- A way of strong edges ends with an edge to its last node.
  last_step : (x y : Node) (zs : List Node) → DependencyPath (StrongOn d []) x zs y → (w : Node) × StrongOn d [] w y
  last_step x y [] way = (x, way)
  last_step x y (z ∷ zs) way = last_step z y zs way.1

  -- A way of strong edges begins with an edge from its first node.
  first_step : (x y : Node) (zs : List Node) → DependencyPath (StrongOn d []) x zs y → (w : Node) × StrongOn d [] x w
  first_step x y [] way = (y, way)
  first_step x y (z ∷ zs) way = (z, way.0)

  -- A declaration in which nothing strongly depends on a child has no cycle.
  pub acyclic_free : NoCycle (StrongOn d [])
  acyclic_free (Own, (zs, way)) = let step = first_step Own Own zs way in from_own step.0 step.1
  acyclic_free (Child c, (zs, way)) = let step = last_step (Child c) (Child c) zs way in on_child step.0 c step.1
