-- Strong uses and strong offers are edges of their level.
use Rattle.std.proofs.Common.{◌≡◌, ℕ, List, [], ◌∷◌, ◌++◌, Bool, true, false, cond, ◌&&◌, ◌||◌, ◌==◌, Option, Some, None, IsTrue, find, filter, is_some, refl, sym, ◌∙◌, ap, subst}
use Rattle.std.specs.List.{list_any}
use Rattle.std.specs.Str.{bytes_eq}
use Rattle.std.specs.Cmp.{unsigned_Decides, first_so}
use Rattle.std.proofs.lemmas.List.Folds.{list_any-append}
use Rattle.cm_names.specs.declared.child.ChildName.{ChildName}
use Rattle.cm_facts.proofs.Lists.{list_any_map}
use Rattle.cm_decl.specs.declared.decl.Decl.{Decl}
use Rattle.cm_decl.specs.declared.kind.Kind.{Kind}
use Rattle.cm_decl.specs.declared.rows.Give.{Give}
use Rattle.cm_decl.specs.declared.rows.Offer.{Offer}
use Rattle.cm_decl.specs.declared.rows.Usage.{Usage}
use Rattle.cm_decl.specs.declared.origin.Origin.{Origin}
use Rattle.cm_decl.specs.declared.origin.Origin.TheVariants.{Child}
use Rattle.cm_decl.specs.Same.{same_kind}
use Rattle.cm_decl.specs.Graph.{is_strong, target_of, offers_to, child_sources, is_from_child, own_sources}
use Rattle.cm_world.specs.declared.row.Row.{Row}
use Rattle.cm_world.specs.Rows.{row_of, is_live, decl_of, child_of}
use Rattle.cm_world.specs.Level.{is_child_row, is_level_node, child_row_sources, level_sources, is_from_row, LevelStrong}
use Rattle.cm_world.specs.Sound.{IsOrderly}
use Rattle.cm_world.specs.NextStation.{is_offer_to, offer_of, give_of, give_or, offered}
use Rattle.cm_world.proofs.lemmas.trees.Finding.{none_some, some_same, find-passes}
use Rattle.cm_trees.specs.Kids.{IsKid}
use Rattle.cm_trees.proofs.trees.Trees.{or_left, or_right, and_pair, eq_some}
use Rattle.cm_trees.proofs.names.Naming.{kid_not_own}
use Rattle.cm_laws.proofs.lemmas.levels.Kept.{own_or_kid, kid_sources}
use Rattle.cm_trees.proofs.levels.Nodes.{kid_node}

-- ---- lists

-- where what one test finds passes another, some item passes that
found_any : {A : Type 0} (p q : A → Bool) (xs : List A) (x : A) → find p xs ≡ Some x → IsTrue (q x) → IsTrue (list_any q xs)
found_any p q [] x found passes = absurd (none_some x found)
found_any p q (y ∷ ys) x found passes = by (p y) refl (λ later. found_any p q ys x later passes) where
  by : (b : Bool) → p y ≡ b → (find p ys ≡ Some x → IsTrue (list_any q ys)) → IsTrue (list_any q (y ∷ ys))
  by true e more = or_left (q y) (list_any q ys) (subst (λ z. IsTrue (q z)) (sym (some_same y x (rw e at found))) passes)
  by false e more = or_right (q y) (list_any q ys) (more (rw e at found))

-- some item that is kept passes where some item both is kept and passes
any_filtered : {A : Type 0} (q t : A → Bool) (xs : List A) → list_any q (filter t xs) ≡ list_any (λ x. t x && q x) xs
any_filtered q t [] = refl
any_filtered q t (x ∷ xs) = by (t x) refl (any_filtered q t xs) where
  by : (b : Bool) → t x ≡ b → list_any q (filter t xs) ≡ list_any (λ x. t x && q x) xs → list_any q (filter t (x ∷ xs)) ≡ list_any (λ x. t x && q x) (x ∷ xs)
  by true e more = rw e (ap (λ b. q x || b) more)
  by false e more = rw e more

-- ---- sources

module _ (q : Origin → Bool) where
  -- a strong give whose source passes
  passes : Give → Bool
  passes g = is_strong g.dependency && q g.from

  -- what makes a give pass
  strong_given : (g : Give) → IsTrue (is_strong g.dependency) → IsTrue (q g.from) → IsTrue (passes g)
  unfolding passes
  strong_given g strong from = and_pair (is_strong g.dependency) (q g.from) strong from

  -- where the offer that is found for a child passes, one of the offers to it does
  by_offers : (d : Decl) (c : ChildName) (o : Offer) (kind : Kind) (name : List ℕ) → offer_of d c kind name ≡ Some o → IsTrue (passes o.give) → IsTrue (list_any passes (offers_to d c))
  by_offers d c o kind name found given =
      let to : Offer → Bool = λ o. bytes_eq o.to (target_of c) in
      list_any_map passes (λ o. o.give) (filter to d.offers) ∙ any_filtered (λ o. passes o.give) to d.offers
      ∙ found_any (is_offer_to c kind name) (λ o. to o && passes o.give) d.offers o found
      (and_pair (to o) (passes o.give)
      (first_so (to o) (same_kind o.give.kind kind && bytes_eq o.give.target_name name) (find-passes (is_offer_to c kind name) d.offers o found)) given)

  -- and so where the child was given it alone
  by_either : (d : Decl) (c : ChildName) (gives : List Give) (kind : Kind) (name : List ℕ) (g : Give) (o : Option Offer) → offer_of d c kind name ≡ o → give_or o (give_of gives kind name) ≡ Some g → IsTrue (passes g) → IsTrue (list_any passes (offers_to d c) || list_any passes gives)
  by_either d c gives kind name g (Some o) found e given =
      or_left (list_any passes (offers_to d c)) (list_any passes gives)
      (by_offers d c o kind name found (subst (λ z. IsTrue (passes z)) (sym (some_same o.give g e)) given))
  by_either d c gives kind name g None found e given =
      or_right (list_any passes (offers_to d c)) (list_any passes gives)
      (found_any (λ x. same_kind x.kind kind && bytes_eq x.target_name name) passes gives g e given)

  -- the source of what a child is offered strongly is among its sources
  offered_source : (d : Decl) (c : ChildName) (gives : List Give) (kind : Kind) (name : List ℕ) (g : Give) → offered d c gives kind name ≡ Some g → IsTrue (is_strong g.dependency) → IsTrue (q g.from) → IsTrue (list_any q (child_sources d c gives))
  unfolding passes
  offered_source d c gives kind name g gets strong from =
      list_any_map q (λ g. g.from) (filter (λ g. is_strong g.dependency) (offers_to d c ++ gives))
      ∙ any_filtered (λ g. q g.from) (λ g. is_strong g.dependency) (offers_to d c ++ gives)
      ∙ list_any-append passes (offers_to d c) gives
      ∙ by_either d c gives kind name g (offer_of d c kind name) refl gets (strong_given g strong from)

  -- and that of what a component uses strongly of a child, among its own
  used_source : (d : Decl) (p : Usage → Bool) (u : Usage) → find p d.uses ≡ Some u → IsTrue (is_strong u.dependency) → IsTrue (is_from_child u.from) → IsTrue (q u.from) → IsTrue (list_any q (own_sources d))
  used_source d p u found strong child from =
      list_any_map q (λ u. u.from) (filter (λ u. is_strong u.dependency && is_from_child u.from) d.uses)
      ∙ any_filtered (λ u. q u.from) (λ u. is_strong u.dependency && is_from_child u.from) d.uses
      ∙ found_any p (λ u. (is_strong u.dependency && is_from_child u.from) && q u.from) d.uses u found
      (and_pair (is_strong u.dependency && is_from_child u.from) (q u.from) (and_pair (is_strong u.dependency) (is_from_child u.from) strong child) from)

-- ---- edges

-- a row that lives is a node of its own level
pub own_node : (rows : List Row) (p : ℕ) (r : Row) → row_of rows p ≡ Some r → IsTrue (is_level_node rows p p)
own_node rows p r lives =
    or_left (p == p && is_live rows p) (is_child_row rows p p) (and_pair (p == p) (is_live rows p) ((unsigned_Decides p p).1 refl) (ap is_some lives))

-- an edge from the sources of its first node
edge_of : (rows : List Row) (p x y : ℕ) (sources : List Origin) → level_sources rows p x ≡ sources → IsTrue (list_any (is_from_row rows p y) sources) → IsTrue (is_level_node rows p x) → IsTrue (is_level_node rows p y) → LevelStrong rows p x y
edge_of rows p x y sources same from first second =
    let by : Bool = list_any (is_from_row rows p y) (level_sources rows p x) in
    and_pair (by && is_level_node rows p x) (is_level_node rows p y)
    (and_pair by (is_level_node rows p x) (ap (list_any (is_from_row rows p y)) same ∙ from) first) second

module _ (rows : List Row) (next : ℕ) (orderly : IsOrderly rows next) where
  -- the sources of a child row with a name
  named_sources : (p x : ℕ) (d : Decl) (c : ChildName) (kid : IsKid rows p x) → decl_of rows p ≡ Some d → kid.row.name ≡ Some c → level_sources rows p x ≡ child_sources d c kid.row.gives
  named_sources p x d c kid found named =
      own_or_kid rows p x d found
      ∙ ap (λ b. cond b (own_sources d) (child_row_sources rows d x)) (kid_not_own rows next orderly p x kid)
      ∙ kid_sources rows d x kid.row kid.lives
      ∙ ap (λ o. elim o as (λ _. List Origin) [ None ↦ [] | Some c ↦ child_sources d c kid.row.gives ]) named

  -- a child depends on the source of what it is offered strongly
  pub offer_edge : (p x y : ℕ) (d : Decl) (c : ChildName) (kind : Kind) (name : List ℕ) (g : Give) (kid : IsKid rows p x) → decl_of rows p ≡ Some d → kid.row.name ≡ Some c → offered d c kid.row.gives kind name ≡ Some g → IsTrue (is_strong g.dependency) → IsTrue (is_from_row rows p y g.from) → IsTrue (is_level_node rows p y) → LevelStrong rows p x y
  offer_edge p x y d c kind name g kid found named gets strong from node =
      edge_of rows p x y (child_sources d c kid.row.gives) (named_sources p x d c kid found named)
      (offered_source (is_from_row rows p y) d c kid.row.gives kind name g gets strong from) (kid_node rows p x kid) node

  -- a component depends on the child of which it uses something strongly
  pub use_edge : (x y : ℕ) (r : Row) (d : Decl) (c : ChildName) (p : Usage → Bool) (u : Usage) → row_of rows x ≡ Some r → decl_of rows x ≡ Some d → find p d.uses ≡ Some u → IsTrue (is_strong u.dependency) → u.from ≡ Child c → child_of rows x c ≡ Some y → IsTrue (is_level_node rows x y) → LevelStrong rows x x y
  use_edge x y r d c p u lives found used strong from finds node =
      edge_of rows x x y (own_sources d)
      (own_or_kid rows x x d found ∙ ap (λ b. cond b (own_sources d) (child_row_sources rows d x)) ((unsigned_Decides x x).1 refl))
      (used_source (is_from_row rows x y) d p u used strong
      (subst (λ o. IsTrue (is_from_child o)) (sym from) refl)
      (subst (λ o. IsTrue (is_from_row rows x y o)) (sym from) (eq_some (child_of rows x c) y finds)))
      (own_node rows x r lives) node
