-- What the lists of a level have.
use Rattle.std.proofs.Common.{◌≡◌, ◌≢◌, ℕ, ◌+◌, ◌<◌, ◌≤◌, List, [], ◌∷◌, ◌++◌, Bool, true, false, ◌&&◌, Option, Some, None, IsTrue, filter, map, get_or, take, length, option_map, refl, sym, ◌∙◌, ap, subst, inl, inr, ◌⊎◌}
use Rattle.std.specs.List.{list_any}
use Rattle.std.specs.BTreeMap.{BTreeMap}
use Rattle.std.specs.Cmp.{unsigned_Decides, first_so, second_so}
use Rattle.std.specs.Str.{bytes_eq}
use Rattle.std.proofs.lemmas.List.{take_all}
use Rattle.std.proofs.lemmas.List.Folds.{list_any_more, list_any-append}
use Rattle.std.proofs.lemmas.Bool.{or_cases}
use Rattle.cm_names.specs.declared.child.ChildName.{ChildName}
use Rattle.cm_decl.specs.declared.decl.Decl.{Decl}
use Rattle.cm_decl.specs.declared.origin.Origin.{Origin}
use Rattle.cm_decl.specs.declared.rows.Give.{Give}
use Rattle.cm_decl.specs.declared.rows.Offer.{Offer}
use Rattle.cm_decl.specs.Graph.{is_strong, is_from_child, target_of, own_sources, child_sources, offers_to}
use Rattle.cm_decl.proofs.lemmas.Sameness.{never}
use Rattle.cm_world.specs.declared.row.Row.{Row}
use Rattle.cm_world.specs.Rows.{row_of, decl_of}
use Rattle.cm_world.specs.RowsInside.{child_behind, is_behind}
use Rattle.cm_world.specs.Level.{is_level_node, row_sources, level_sources, is_from_row, LevelStrong}
use Rattle.cm_world.specs.Sound.{IsSound}
use Rattle.cm_world.proofs.lemmas.trees.Finding.{some_same}
use Rattle.cm_world.proofs.lemmas.trees.Levels.{edge_source}
use Rattle.cm_trees.specs.Kids.{IsKid}
use Rattle.cm_order.specs.Glances.{is_client, ClientsGrow, is_offered, OfferedGrow, HasSources, HasOffered, HasNext, IsPut, is_given_from, is_offered_from, is_used_from}
use Rattle.cm_trees.proofs.trees.Trees.{or_left, or_right, and_pair}
use Rattle.cm_trees.proofs.levels.Kids.{other_kids, no_kids}
use Rattle.cm_trees.proofs.names.Naming.{kid_not_own}
use Rattle.cm_trees.proofs.levels.Nodes.{node_kid}

-- ---- lists that grow

-- Where nothing was taken out of the lists in two steps, nothing was in both together.
pub clients_on : (a b c : BTreeMap ℕ (List ℕ)) → ClientsGrow a b → ClientsGrow b c → ClientsGrow a c
clients_on a b c first second x z there = second x z (first x z there)

-- ---- one after another

-- Of items that were looked at, all sources are put in, and nothing was taken out.
pub record IsPutting {A : Type 0} (p : ℕ) (comes_from : ℕ → A → Bool) (xs : List A) (w : ℕ) (old new : BTreeMap ℕ (List ℕ)) : Type 0 where
  pub all : HasSources p comes_from xs (λ x. is_client new x w)
  pub kept : ClientsGrow old new

module _ {A : Type 0} (p : ℕ) (comes_from : ℕ → A → Bool) (xs : List A) (w : ℕ) where
  -- Before any item is looked at nothing has to be put into lists, which are as they were.
  pub putting_first : (old : BTreeMap ℕ (List ℕ)) → IsPutting p comes_from (take 0 xs) w old old
  putting_first old = record { all = λ x other any. never any; kept = λ x z there. there }

  -- A row that is put into the list of what the next item comes from is put for one item more.
  pub putting_more : (i : ℕ) (item : A) (first old new : BTreeMap ℕ (List ℕ)) → i < length xs → item ≡ get_or xs i item → IsPutting p comes_from (take i xs) w first old → ClientsGrow old new → ((x : ℕ) → x ≢ p → IsTrue (comes_from x item) → IsTrue (is_client new x w)) → IsPutting p comes_from (take (i + 1) xs) w first new
  putting_more i item first old new low at so_far kept here = record {
    all = λ x other any. elim (or_cases (list_any (comes_from x) (take i xs)) (comes_from x (get_or xs i item)) (sym (list_any_more (comes_from x) xs i item low) ∙ any)) [
      | inl before ↦ kept x w (so_far.all x other before)
      | inr last ↦ here x other (subst (λ z. IsTrue (comes_from x z)) (sym at) last)
    ];
    kept = clients_on first old new so_far.kept kept;
  }

  -- Where all items were looked at, the row is in the list of each row from which one comes.
  pub putting_ends : (i : ℕ) (first new : BTreeMap ℕ (List ℕ)) → length xs ≤ i → IsPutting p comes_from (take i xs) w first new → HasSources p comes_from xs (λ x. is_client new x w)
  putting_ends i first new long so_far = subst (λ l. HasSources p comes_from l (λ x. is_client new x w)) (take_all i xs long) so_far.all

-- ---- one offer after another

module _ (rows : List Row) (p : ℕ) (offers : List Offer) where
  -- Before any offer is looked at, a map has for each name what it should.
  pub offering_first : (old : BTreeMap (List ℕ) (List ℕ)) → HasOffered rows p (take 0 offers) old
  offering_first old name x other any = never any

  -- Where what the next offer comes from is put for its name, the map has one offer more.
  pub offering_more : (i : ℕ) (item : Offer) (old new : BTreeMap (List ℕ) (List ℕ)) → i < length offers → item ≡ get_or offers i item → HasOffered rows p (take i offers) old → OfferedGrow old new → ((name : List ℕ) (x : ℕ) → x ≢ p → IsTrue (is_offered_from rows p name x item) → IsTrue (is_offered new name x)) → HasOffered rows p (take (i + 1) offers) new
  offering_more i item old new low at so_far kept here name x other any = elim (or_cases (list_any (is_offered_from rows p name x) (take i offers)) (is_offered_from rows p name x (get_or offers i item)) (sym (list_any_more (is_offered_from rows p name x) offers i item low) ∙ any)) [
    | inl before ↦ kept name x (so_far name x other before)
    | inr last ↦ here name x other (subst (λ z. IsTrue (is_offered_from rows p name x z)) (sym at) last)
  ]

  -- Where all offers were looked at, a map has for each name each row from which an offer comes.
  pub offering_ends : (i : ℕ) (new : BTreeMap (List ℕ) (List ℕ)) → length offers ≤ i → HasOffered rows p (take i offers) new → HasOffered rows p offers new
  offering_ends i new long so_far = subst (λ l. HasOffered rows p l new) (take_all i offers long) so_far

-- ---- child after child

-- The lists cover the children up to a place, and have all that they had.
pub record IsCovering (rows : List Row) (p : ℕ) (offered : BTreeMap (List ℕ) (List ℕ)) (behind : Option ℕ) (old clients : BTreeMap ℕ (List ℕ)) : Type 0 where
  pub rest : (c : ℕ) (kid : IsKid rows p c) → IsTrue (is_behind behind c) ⊎ IsPut rows p offered clients c kid.row
  pub kept : ClientsGrow old clients

-- What is told of the gives at an incarnation is the gives of its row.
pub gives_same : (rows : List Row) (c : ℕ) (gives : List Give) (r : Row) → Some gives ≡ option_map (λ r. r.gives) (row_of rows c) → row_of rows c ≡ Some r → gives ≡ r.gives
gives_same rows c gives r is lives = some_same gives r.gives (is ∙ ap (option_map (λ r. r.gives)) lives)

-- A child that is in the lists of what it depends on stays so, where nothing is taken out.
pub put_on : (rows : List Row) (p c : ℕ) (offered : BTreeMap (List ℕ) (List ℕ)) (n m : BTreeMap ℕ (List ℕ)) (r : Row) → ClientsGrow n m → IsPut rows p offered n c r → IsPut rows p offered m c r
put_on rows p c offered n m r grows put = record {
  given = λ x other any. grows x c (put.given x other any);
  offers = λ name x named there. grows x c (put.offers name x named there);
}

-- Before any child is looked at all still come, and the lists are as they were.
pub covering_first : (rows : List Row) (p : ℕ) (offered : BTreeMap (List ℕ) (List ℕ)) (old : BTreeMap ℕ (List ℕ)) → IsCovering rows p offered None old old
covering_first rows p offered old = record { rest = λ c kid. inl refl; kept = λ x z there. there }

-- Where no child is left, each is in the lists of what it depends on.
pub covering_ends : (rows : List Row) (p : ℕ) (offered : BTreeMap (List ℕ) (List ℕ)) (behind : Option ℕ) (old clients : BTreeMap ℕ (List ℕ)) → IsCovering rows p offered behind old clients → None ≡ child_behind rows p behind → (c : ℕ) (kid : IsKid rows p c) → IsPut rows p offered clients c kid.row
covering_ends rows p offered behind old clients is none c kid = elim (is.rest c kid) [
  | inl later ↦ absurd (no_kids rows p behind c (sym none) kid later)
  | inr done ↦ done
]

-- ---- what one test passes of what another keeps

-- Where what is made of some filtered item passes a test, an item passes the test that follows.
pub any_from : {A B : Type 0} (q : B → Bool) (f : A → B) (t s : A → Bool) → ((x : A) → IsTrue (t x) → IsTrue (q (f x)) → IsTrue (s x)) → (xs : List A) → IsTrue (list_any q (map f (filter t xs))) → IsTrue (list_any s xs)
any_from q f t s more [] h = never h
any_from q f t s more (x ∷ xs) h = by (t x) refl (λ later. any_from q f t s more xs later) where
  by : (b : Bool) → t x ≡ b → (IsTrue (list_any q (map f (filter t xs))) → IsTrue (list_any s xs)) → IsTrue (list_any s (x ∷ xs))
  by true e rest = elim (or_cases (q (f x)) (list_any q (map f (filter t xs))) (rw e at h)) [
    | inl here ↦ or_left (s x) (list_any s xs) (more x e here)
    | inr later ↦ or_right (s x) (list_any s xs) (rest later)
  ]
  by false e rest = or_right (s x) (list_any s xs) (rest (rw e at h))

module _ (rows : List Row) (next : ℕ) (sound : IsSound rows next) (p : ℕ) where
  -- Where the next child is put into the lists of what it depends on, one child more is.
  pub covering_more : (c : ℕ) (offered : BTreeMap (List ℕ) (List ℕ)) (behind : Option ℕ) (first n m : BTreeMap ℕ (List ℕ)) → IsCovering rows p offered behind first n → Some c ≡ child_behind rows p behind → ((r : Row) → row_of rows c ≡ Some r → IsPut rows p offered m c r) → ClientsGrow n m → IsCovering rows p offered (Some c) first m
  covering_more c offered behind first n m is found put grows = record {
    rest = λ i kid. elim (is.rest i kid) [
      | inl later ↦ (elim (other_kids rows next sound.orderly p behind c i (sym found) kid later) [
        | inl same ↦ inr (subst (λ z. IsPut rows p offered m z kid.row) (sym same) (put kid.row (subst (λ z. row_of rows z ≡ Some kid.row) same kid.lives)))
        | inr more ↦ inl more
      ])
      | inr done ↦ inr (put_on rows p i offered n m kid.row grows done)
    ];
    kept = clients_on first n m is.kept grows;
  }

  -- ---- a whole level

  -- an instance without a declaration has no strong edges, and no children
  pub next_none : None ≡ decl_of rows p → (w x : ℕ) → LevelStrong rows p w x → ⊥
  next_none none w x strong =
      let silent : level_sources rows p w ≡ [] = rw (sym none, level_sources) refl in
      never (sym (sym (edge_source rows p w x strong) ∙ ap (list_any (is_from_row rows p x)) silent))

  -- At its own level a resolved row has as sources the children that its strong uses come from.
  pub own_all : (d : Decl) → decl_of rows p ≡ Some d → level_sources rows p p ≡ own_sources d
  own_all d found = rw (found, level_sources) (rw ((unsigned_Decides p p).1 refl) refl)

  -- At its parent's level a child has as sources what the declaration and its own gives name for it.
  pub kid_all : (d : Decl) → decl_of rows p ≡ Some d → (w : ℕ) (kid : IsKid rows p w) → level_sources rows p w ≡ row_sources d kid.row
  kid_all d found w kid =
      rw (found, level_sources) (rw (kid_not_own rows next sound.orderly p w kid)
      (ap (λ o. elim o as (λ _. List Origin) [ None ↦ [] | Some r ↦ row_sources d r ]) kid.lives))

  -- what a child strongly depends on is offered to it, or given to it alone
  child_all : (d : Decl) (c : ChildName) (gives : List Give) (x : ℕ) → IsTrue (list_any (is_from_row rows p x) (child_sources d c gives)) → IsTrue (list_any (is_offered_from rows p (target_of c) x) d.offers) ⊎ IsTrue (list_any (is_given_from rows p x) gives)
  child_all d c gives x any =
      let both : IsTrue (list_any (is_given_from rows p x) (offers_to d c ++ gives)) =
      any_from (is_from_row rows p x) (λ g. g.from) (λ g. is_strong g.dependency) (is_given_from rows p x) (λ g strong from. and_pair (is_strong g.dependency) (is_from_row rows p x g.from) strong from) (offers_to d c ++ gives) any in
      elim (or_cases (list_any (is_given_from rows p x) (offers_to d c)) (list_any (is_given_from rows p x) gives) (sym (list_any-append (is_given_from rows p x) (offers_to d c) gives) ∙ both)) [
        | inl offered ↦ inl (any_from (is_given_from rows p x) (λ o. o.give) (λ o. bytes_eq o.to (target_of c)) (is_offered_from rows p (target_of c) x) (λ o to here. and_pair (bytes_eq o.to (target_of c)) (is_given_from rows p x o.give) to here) d.offers offered)
        | inr given ↦ inr given
      ]

  -- What comes to a child from a row was offered to it or given to it.
  row_all : (d : Decl) (r : Row) (o : Option ChildName) (x : ℕ) → r.name ≡ o → IsTrue (list_any (is_from_row rows p x) (row_sources d r)) → ((c : ChildName) × (r.name ≡ Some c) × IsTrue (list_any (is_offered_from rows p (target_of c) x) d.offers)) ⊎ IsTrue (list_any (is_given_from rows p x) r.gives)
  row_all d r None x name any =
      never (sym (sym any ∙ ap (λ o. list_any (is_from_row rows p x) (elim o as (λ _. List Origin) [ None ↦ [] | Some c ↦ child_sources d c r.gives ])) name))
  row_all d r (Some c) x name any =
      elim (child_all d c r.gives x (sym (ap (λ o. list_any (is_from_row rows p x) (elim o as (λ _. List Origin) [ None ↦ [] | Some c ↦ child_sources d c r.gives ])) name) ∙ any)) [
        | inl offered ↦ inl (c, name, offered)
        | inr given ↦ inr given
      ]

  -- what a child that was put depends on has it in its list
  put_next : (d : Decl) (offered : BTreeMap (List ℕ) (List ℕ)) (clients : BTreeMap ℕ (List ℕ)) (w : ℕ) (kid : IsKid rows p w) → decl_of rows p ≡ Some d → HasOffered rows p d.offers offered → IsPut rows p offered clients w kid.row → HasNext rows p clients w
  put_next d offered clients w kid found offers put x other strong =
      elim (row_all d kid.row kid.row.name x refl (sym (ap (list_any (is_from_row rows p x)) (kid_all d found w kid)) ∙ edge_source rows p w x strong)) [
        | inl to_name ↦ put.offers to_name.0 x to_name.1 (offers (target_of to_name.0) x other to_name.2)
        | inr given ↦ put.given x other given
      ]

  -- Where all that a row uses is in the lists, it is in those of all on which it strongly depends.
  own_next : (d : Decl) (clients : BTreeMap ℕ (List ℕ)) → decl_of rows p ≡ Some d → HasSources p (is_used_from rows p) d.uses (λ x. is_client clients x p) → HasNext rows p clients p
  own_next d clients found usages x other strong =
      let from : IsTrue (list_any (is_from_row rows p x) (own_sources d)) =
      sym (ap (list_any (is_from_row rows p x)) (own_all d found)) ∙ edge_source rows p p x strong in
      usages x other (any_from (is_from_row rows p x) (λ u. u.from) (λ u. is_strong u.dependency && is_from_child u.from) (is_used_from rows p x)
      (λ u passes comes. and_pair (is_strong u.dependency) (is_from_row rows p x u.from) (first_so (is_strong u.dependency) (is_from_child u.from) passes) comes) d.uses from)

  -- What strongly depends on something at a level is a node of that level.
  edge_start : (w y : ℕ) → LevelStrong rows p w y → IsTrue (is_level_node rows p w)
  edge_start w y strong =
      second_so (list_any (is_from_row rows p y) (level_sources rows p w)) (is_level_node rows p w)
      (first_so (list_any (is_from_row rows p y) (level_sources rows p w) && is_level_node rows p w) (is_level_node rows p y) strong)

  -- each node of the level was put
  pub all_put : (d : Decl) (offered : BTreeMap (List ℕ) (List ℕ)) (a clients : BTreeMap ℕ (List ℕ)) → Some d ≡ decl_of rows p → HasOffered rows p d.offers offered → HasSources p (is_used_from rows p) d.uses (λ x. is_client a x p) → ((c : ℕ) (kid : IsKid rows p c) → IsPut rows p offered clients c kid.row) → ClientsGrow a clients → (w : ℕ) → HasNext rows p clients w
  all_put d offered a clients found offers usages put grows w x other strong = elim (node_kid rows p w (edge_start w x strong)) [
    | inl own ↦ subst (HasNext rows p clients) (sym own) (own_next d clients (sym found) (λ y apart any. grows y p (usages y apart any))) x other strong
    | inr kid ↦ put_next d offered clients w kid (sym found) offers (put w kid) x other strong
  ]
