-- What is put into the lists of a level strongly depends on the row in whose list it is.
use Rattle.std.proofs.Common.{◌≡◌, ℕ, ◌+◌, ◌<◌, ◌≤◌, List, [], take, get_or, length, inl, inr, ◌⊎◌, Bool, ◌&&◌, ◌==◌, true≢false, Option, Some, None, IsTrue, IsSome, is_some, option_and_then, sym, ◌∙◌, ap, subst, refl}
use Rattle.std.specs.List.{list_any}
use Rattle.std.specs.Str.{bytes_eq}
use Rattle.std.specs.Prelude.{unwrap_or}
use Rattle.std.specs.Ordering.{nat_cmp}
use Rattle.std.specs.Cmp.Lexicographic.{slice_cmp}
use Rattle.std.specs.Map.{lookup}
use Rattle.std.specs.BTreeMap.{BTreeMap, is_at}
use Rattle.std.specs.Cmp.{unsigned_Decides, first_so, second_so}
use Rattle.std.proofs.lemmas.List.{take_all}
use Rattle.std.proofs.lemmas.List.Folds.{list_any_more}
use Rattle.cm_names.specs.declared.child.ChildName.{ChildName}
use Rattle.cm_facts.proofs.Numbers.{eq_self}
use Rattle.cm_facts.proofs.Options.{option_eq_some}
use Rattle.cm_decl.specs.declared.decl.Decl.{Decl}
use Rattle.cm_decl.specs.declared.origin.Origin.{Origin}
use Rattle.cm_decl.specs.declared.origin.Origin.TheVariants as origin
use Rattle.cm_decl.specs.declared.rows.Give.{Give}
use Rattle.cm_decl.specs.declared.rows.Offer.{Offer}
use Rattle.cm_decl.specs.declared.rows.Usage.{Usage}
use Rattle.cm_decl.specs.Graph.{is_strong, is_from_child, target_of}
use Rattle.cm_decl.proofs.lemmas.Sameness.{never}
use Rattle.cm_world.specs.declared.row.Row.{Row}
use Rattle.cm_world.specs.Rows.{row_of, decl_of, is_live, child_of}
use Rattle.cm_world.specs.RowsInside.{name_of}
use Rattle.cm_world.specs.Level.{is_child_row, is_level_node, level_sources, is_from_row, LevelStrong}
use Rattle.cm_world.specs.Sound.{IsParent, IsSound}
use Rattle.cm_trees.specs.Kids.{IsKid}
use Rattle.cm_order.specs.Glances.{is_given_from, is_offered_from, is_used_from, is_used_of, is_in_list, is_offered, AreStrong, AreClients, AreOffered}
use Rattle.cm_trees.proofs.trees.Trees.{or_left, or_right, and_pair, parent_lives}
use Rattle.cm_trees.proofs.names.Listing.{any_some}
use Rattle.cm_trees.proofs.names.Naming.{found_kid}
use Rattle.cm_trees.proofs.levels.Nodes.{kid_node}
use Rattle.cm_order.proofs.lemmas.names.Sources.{own_all}
use Rattle.cm_order.proofs.lemmas.levels.Binding.{any_to, from_given, from_offered, strong_edge}

-- ---- empty maps

-- Nothing is in the list of a name in an empty map.
pub none_offered : (offered : BTreeMap (List ℕ) (List ℕ)) → offered.entries ≡ [] → (name : List ℕ) (x : ℕ) → IsTrue (is_offered offered name x) → ⊥
none_offered offered empty name x there =
    never (subst (λ es. IsTrue (is_in_list (unwrap_or (lookup (is_at (slice_cmp nat_cmp name)) es) []) x)) empty there)

-- Nothing is in a list of an empty map, so all that is strongly depends.
pub none_listed : (rows : List Row) (p : ℕ) (clients : BTreeMap ℕ (List ℕ)) → clients.entries ≡ [] → AreClients rows p clients
none_listed rows p clients empty x z there =
    never (subst (λ es. IsTrue (is_in_list (unwrap_or (lookup (is_at (nat_cmp x)) es) []) z)) empty there)

-- ---- item after item

-- where a row strongly depends on each from which one of these comes, only clients are put
abbrev pub AddsStrong : {A : Type 0} → List Row → ℕ → (ℕ → A → Bool) → List A → ℕ → BTreeMap ℕ (List ℕ) → BTreeMap ℕ (List ℕ) → Type 0
AddsStrong rows p comes_from xs w old new = AreStrong rows p comes_from xs w → AreClients rows p old → AreClients rows p new

module _ {A : Type 0} (rows : List Row) (p : ℕ) (comes_from : ℕ → A → Bool) (xs : List A) (w : ℕ) where
  -- Before any item is looked at the lists are as they were.
  pub adding_first : (old : BTreeMap ℕ (List ℕ)) → AddsStrong rows p comes_from (take 0 xs) w old old
  adding_first old strong are = are

  -- Where for the next item only clients are put, only clients are put for one item more.
  pub adding_more : (i : ℕ) (item : A) (first old new : BTreeMap ℕ (List ℕ)) → i < length xs → item ≡ get_or xs i item → AddsStrong rows p comes_from (take i xs) w first old → (((x : ℕ) → IsTrue (comes_from x item) → LevelStrong rows p w x) → AreClients rows p old → AreClients rows p new) → AddsStrong rows p comes_from (take (i + 1) xs) w first new
  adding_more i item first old new low at so_far real strong are =
      real (λ x comes. strong x (list_any_more (comes_from x) xs i item low ∙ or_right (list_any (comes_from x) (take i xs)) (comes_from x (get_or xs i item)) (subst (λ z. IsTrue (comes_from x z)) at comes)))
      (so_far (λ x any. strong x (list_any_more (comes_from x) xs i item low ∙ or_left (list_any (comes_from x) (take i xs)) (comes_from x (get_or xs i item)) any)) are)

  -- Where all items were looked at, only clients were put.
  pub adding_ends : (i : ℕ) (first new : BTreeMap ℕ (List ℕ)) → length xs ≤ i → AddsStrong rows p comes_from (take i xs) w first new → AddsStrong rows p comes_from xs w first new
  adding_ends i first new long so_far = subst (λ l. AddsStrong rows p comes_from l w first new) (take_all i xs long) so_far

-- names have only what was there, or what these offers come from
abbrev pub AddsOffered : List Row → ℕ → List Offer → BTreeMap (List ℕ) (List ℕ) → BTreeMap (List ℕ) (List ℕ) → Type 0
AddsOffered rows p offers old new =
    (name : List ℕ) (x : ℕ) → IsTrue (is_offered new name x) → IsTrue (is_offered old name x) ⊎ IsTrue (list_any (is_offered_from rows p name x) offers)

module _ (rows : List Row) (p : ℕ) (offers : List Offer) where
  -- Before any offer is looked at the lists of names are as they were.
  pub offers_first : (old : BTreeMap (List ℕ) (List ℕ)) → AddsOffered rows p (take 0 offers) old old
  offers_first old name x there = inl there

  -- Where for the next offer only what it comes from is put, that is so of one offer more.
  pub offers_more : (i : ℕ) (item : Offer) (first old new : BTreeMap (List ℕ) (List ℕ)) → i < length offers → item ≡ get_or offers i item → AddsOffered rows p (take i offers) first old → ((name : List ℕ) (x : ℕ) → IsTrue (is_offered new name x) → IsTrue (is_offered old name x) ⊎ IsTrue (is_offered_from rows p name x item)) → AddsOffered rows p (take (i + 1) offers) first new
  offers_more i item first old new low at so_far real name x there = elim (real name x there) [
    | inl before ↦ (elim (so_far name x before) [
      | inl first ↦ inl first
      | inr any ↦ inr (list_any_more (is_offered_from rows p name x) offers i item low ∙ or_left (list_any (is_offered_from rows p name x) (take i offers)) (is_offered_from rows p name x (get_or offers i item)) any)
    ])
    | inr comes ↦ inr (list_any_more (is_offered_from rows p name x) offers i item low ∙ or_right (list_any (is_offered_from rows p name x) (take i offers)) (is_offered_from rows p name x (get_or offers i item)) (subst (λ z. IsTrue (is_offered_from rows p name x z)) at comes))
  ]

  -- Where all offers were looked at, names have only what was there or what these come from.
  pub offers_end : (i : ℕ) (first new : BTreeMap (List ℕ) (List ℕ)) → length offers ≤ i → AddsOffered rows p (take i offers) first new → AddsOffered rows p offers first new
  offers_end i first new long so_far = subst (λ l. AddsOffered rows p l first new) (take_all i offers long) so_far

-- ---- what is so of a row

-- What is there has a value.
some_of : {A : Type 0} (o : Option A) → IsSome o → (x : A) × (o ≡ Some x)
some_of None e = absurd (true≢false (sym e))
some_of (Some x) e = (x, refl)

-- A row that has a declaration is there.
live_by : (o : Option Row) (d : Decl) → option_and_then (λ r. r.decl) o ≡ Some d → IsTrue (is_some o)
live_by None d e = absurd (true≢false (sym (ap is_some e)))
live_by (Some r) d e = refl

module _ (rows : List Row) (next : ℕ) (sound : IsSound rows next) (p : ℕ) where
  -- The parent of a child has a declaration.
  some_decl : (c : ℕ) → IsKid rows p c → (d : Decl) × (decl_of rows p ≡ Some d)
  some_decl c kid =
      let parent : IsParent rows p c = parent_lives rows next sound.orderly p c kid in
      let d : (d : Decl) × (parent.row.decl ≡ Some d) = some_of parent.row.decl parent.resolved in
      (d.0, ap (option_and_then (λ r. r.decl)) parent.lives ∙ d.1)

  -- A child has a name.
  some_name : (c : ℕ) → IsKid rows p c → (n : ChildName) × (name_of rows c ≡ Some n)
  some_name c kid =
      let n : (n : ChildName) × (kid.row.name ≡ Some n) = some_of kid.row.name (sound.orderly.parents c p kid.row kid.lives kid.parent).1 in
      (n.0, ap (option_and_then (λ r. r.name)) kid.lives ∙ n.1)

  -- ---- nodes

  -- A row that has a declaration is a node of its own level.
  own_node : (d : Decl) → decl_of rows p ≡ Some d → IsTrue (is_level_node rows p p)
  own_node d found =
      or_left (p == p && is_live rows p) (is_child_row rows p p) (and_pair (p == p) (is_live rows p) (eq_self p) (live_by (row_of rows p) d found))

  -- A row that is a source at the level of p is a node there.
  source_node : (d : Decl) → decl_of rows p ≡ Some d → (x : ℕ) (s : Origin) → IsTrue (is_from_row rows p x s) → IsTrue (is_level_node rows p x)
  source_node d found x origin.Own own = subst (λ y. IsTrue (is_level_node rows p y)) (sym ((unsigned_Decides x p).0 own)) (own_node d found)
  source_node d found x (origin.Child c) is = kid_node rows p x (found_kid rows next sound.orderly p c x (option_eq_some (child_of rows p c) x is)).kid
  source_node d found x origin.Parent is = never is
  source_node d found x origin.Framework is = never is
  source_node d found x origin.Void is = never is

  -- A row from which a give comes is a node of the level.
  given_node : (d : Decl) → decl_of rows p ≡ Some d → (x : ℕ) (g : Give) → IsTrue (is_given_from rows p x g) → IsTrue (is_level_node rows p x)
  given_node d found x g comes = source_node d found x g.from (second_so (is_strong g.dependency) (is_from_row rows p x g.from) comes)

  -- ---- edges

  -- from a child to what it was given
  pub given_strong : (z : ℕ) (kid : IsKid rows p z) (gives : List Give) → gives ≡ kid.row.gives → AreStrong rows p (is_given_from rows p) gives z
  given_strong z kid gives same x any =
      let d : (d : Decl) × (decl_of rows p ≡ Some d) = some_decl z kid in
      let c : (n : ChildName) × (name_of rows z ≡ Some n) = some_name z kid in
      let one : (g : Give) × IsTrue (is_given_from rows p x g) = any_some (is_given_from rows p x) gives any in
      strong_edge rows next sound p d.0 c.0 z x kid (given_node d.0 d.1 x one.0 one.1) (sym d.1) (sym c.1)
      (from_given rows next sound p d.0 c.0 kid.row.gives x (subst (λ l. IsTrue (list_any (is_given_from rows p x) l)) same any))

  -- to what is offered to its name
  pub offered_strong : (z : ℕ) → IsKid rows p z → (offered : BTreeMap (List ℕ) (List ℕ)) → AreOffered rows p offered → (c : ChildName) (x : ℕ) → name_of rows z ≡ Some c → IsTrue (is_offered offered (target_of c) x) → LevelStrong rows p z x
  offered_strong z kid offered are c x named there =
      let d : (d : Decl) × (decl_of rows p ≡ Some d) = some_decl z kid in
      let any : IsTrue (list_any (is_offered_from rows p (target_of c) x) d.0.offers) = are (target_of c) x there d.0 d.1 in
      let one = any_some (is_offered_from rows p (target_of c) x) d.0.offers any in
      strong_edge rows next sound p d.0 c z x kid (given_node d.0 d.1 x one.0.give (second_so (bytes_eq one.0.to (target_of c)) (is_given_from rows p x one.0.give) one.1)) (sym d.1) (sym named)
      (from_offered rows next sound p d.0 c kid.row.gives x any)

  -- from a row to what it uses of its children
  pub used_strong : (d : Decl) → Some d ≡ decl_of rows p → (uses : List Usage) → uses ≡ d.uses → AreStrong rows p (is_used_of rows p) uses p
  used_strong d told uses same x any =
      let found : decl_of rows p ≡ Some d = sym told in
      let all : IsTrue (list_any (is_used_of rows p x) d.uses) = subst (λ l. IsTrue (list_any (is_used_of rows p x) l)) same any in
      let one : (u : Usage) × IsTrue (is_used_of rows p x u) = any_some (is_used_of rows p x) d.uses all in
      let node : IsTrue (is_level_node rows p x) =
      source_node d found x one.0.from (second_so (is_strong one.0.dependency) (is_from_row rows p x one.0.from) (second_so (is_from_child one.0.from) (is_used_from rows p x one.0) one.1)) in
      let from : IsTrue (list_any (is_from_row rows p x) (level_sources rows p p)) =
      ap (list_any (is_from_row rows p x)) (own_all rows next sound p d found)
      ∙ any_to (is_from_row rows p x) (λ (u : Usage). u.from) (λ u. is_strong u.dependency && is_from_child u.from) (is_used_of rows p x)
      (λ u comes.
      let used : IsTrue (is_used_from rows p x u) = second_so (is_from_child u.from) (is_used_from rows p x u) comes in (
        and_pair (is_strong u.dependency) (is_from_child u.from) (first_so (is_strong u.dependency) (is_from_row rows p x u.from) used) (first_so (is_from_child u.from) (is_used_from rows p x u) comes),
        second_so (is_strong u.dependency) (is_from_row rows p x u.from) used,
      )) d.uses all in
      and_pair (list_any (is_from_row rows p x) (level_sources rows p p) && is_level_node rows p p) (is_level_node rows p x)
      (and_pair (list_any (is_from_row rows p x) (level_sources rows p p)) (is_level_node rows p p) from (own_node d found)) node
