-- A search down the tree, place by place.
use Rattle.std.proofs.Common.{◌≡◌, ℕ, List, [], ◌∷◌, ◌++◌, Bool, false, not, Option, Some, None, IsTrue, option_and_then, refl, sym, ◌∙◌, ap, subst, inl, inr}
use Rattle.std.specs.Option.{option_map_or}
use Rattle.std.proofs.lemmas.Bool.{not-false}
use Rattle.cm_facts.proofs.Booleans.{not_both}
use Rattle.cm_decl.proofs.lemmas.Sameness.{never}
use Rattle.cm_world.specs.declared.row.Row.{Row}
use Rattle.cm_world.specs.Rows.{row_of, is_below, is_subtree_shut}
use Rattle.cm_world.specs.RowsInside.{is_behind, child_behind}
use Rattle.cm_world.specs.Sound.{IsOrderly}
use Rattle.cm_order.specs.declared.below.Spot.{Spot}
use Rattle.cm_order.specs.Spots.{further}
use Rattle.cm_order.specs.Levels.{EachOfList}
use Rattle.cm_trees.specs.Kids.{IsKid}
use Rattle.cm_trees.proofs.trees.Trees.{below_self, below_kid, below_trans, kid_below, shut_each, shut_all, not_true}
use Rattle.cm_trees.proofs.levels.Kids.{next_kid, other_kids, no_kids}

-- What holds of each item of two lists holds of each item of both together.
pub each_join : {A : Type 0} (P : A → Type 0) (xs ys : List A) → EachOfList P xs → EachOfList P ys → EachOfList P (xs ++ ys)
each_join P [] ys first second = second
each_join P (x ∷ xs) ys first second = (first.0, each_join P xs ys first.1 second)

-- What holds of each item of two lists together holds of each item of either.
pub each_split : {A : Type 0} (P : A → Type 0) (xs ys : List A) → EachOfList P (xs ++ ys) → EachOfList P xs × EachOfList P ys
each_split P [] ys all = (tt, all)
each_split P (x ∷ xs) ys all =
    let rest : EachOfList P xs × EachOfList P ys = each_split P xs ys all.1 in ((all.0, rest.0), rest.1)

-- the place behind a child, and the one below it
abbrev pub past : ℕ → ℕ → Spot
past inc c = record { inc = inc; behind = Some c }

-- The place of a row at none of whose children it was left.
abbrev pub under : ℕ → Spot
under c = record { inc = c; behind = None }

-- What follows of a place from what is left of it, with a child or without, holds of it.
turn_by : (P : Spot → Type 0) (s : Spot) (o : Option ℕ) → (o ≡ None → P s) → ((c : ℕ) → o ≡ Some c → P (past s.inc c) → P (under c) → P s) → EachOfList P (further s.inc o) → P s
turn_by P s None none some all = none refl
turn_by P s (Some c) none some all = some c refl all.0 all.1.0

-- what holds of all places that are left holds of those that were left before, where it holds of the place that was taken
pub turn_back : (P : Spot → Type 0) (rest : List Spot) (s : Spot) (o : Option ℕ) → (o ≡ None → P s) → ((c : ℕ) → o ≡ Some c → P (past s.inc c) → P (under c) → P s) → EachOfList P (rest ++ further s.inc o) → EachOfList P (rest ++ s ∷ [])
turn_back P rest s o none some all =
    let parts : EachOfList P rest × EachOfList P (further s.inc o) = each_split P rest (further s.inc o) all in
    each_join P rest (s ∷ []) parts.0 (turn_by P s o none some parts.1, tt)

-- What holds of a place holds of each that is left of it, where a found child takes it over.
on_by : (P : Spot → Type 0) (s : Spot) (o : Option ℕ) → ((c : ℕ) → o ≡ Some c → P s → P (past s.inc c) × P (under c)) → P s → EachOfList P (further s.inc o)
on_by P s None some it = tt
on_by P s (Some c) some it = let both : P (past s.inc c) × P (under c) = some c refl it in (both.0, (both.1, tt))

-- what holds of all places that were left holds of those that are left
pub turn_on : (P : Spot → Type 0) (rest : List Spot) (s : Spot) (o : Option ℕ) → ((c : ℕ) → o ≡ Some c → P s → P (past s.inc c) × P (under c)) → EachOfList P (rest ++ s ∷ []) → EachOfList P (rest ++ further s.inc o)
turn_on P rest s o some all =
    let parts : EachOfList P rest × EachOfList P (s ∷ []) = each_split P rest (s ∷ []) all in
    each_join P rest (further s.inc o) parts.0 (on_by P s o some parts.1.0)

-- What holds of each of some places holds of the last.
pub last_of : (P : Spot → Type 0) (rest : List Spot) (s : Spot) → EachOfList P (rest ++ s ∷ []) → P s
last_of P rest s all = let parts : EachOfList P rest × EachOfList P (s ∷ []) = each_split P rest (s ∷ []) all in parts.1.0

-- what is pushed on an empty list is alone there
pub alone : {A : Type 0} (old new : List A) (s : A) → old ≡ [] → new ≡ old ++ s ∷ [] → new ≡ s ∷ []
alone old new s empty pushed = pushed ∙ ap (λ l. l ++ s ∷ []) empty

-- ---- whether all is shut

-- all at and below the children of a place is shut
abbrev pub KidsShut : List Row → Spot → Type 0
KidsShut rows s = (c : ℕ) → IsKid rows s.inc c → IsTrue (is_behind s.behind c) → IsTrue (is_subtree_shut rows c)

-- the children of a place stand below the top
abbrev pub KidsBelow : List Row → ℕ → Spot → Type 0
KidsBelow rows top s = (c : ℕ) → IsKid rows s.inc c → IsTrue (is_below rows top c)

-- a search for what isn't shut: what is left decides
pub record IsLooking (rows : List Row) (top : ℕ) (left : List Spot) : Type 0 where
  pub below : EachOfList (KidsBelow rows top) left
  pub rest : EachOfList (KidsShut rows) left → IsTrue (is_subtree_shut rows top)

-- Whether there is a row here, and it isn't shut.
abbrev pub is_unshut : List Row → Option ℕ → Bool
is_unshut rows o = option_map_or (λ r. not r.shut) (option_and_then (row_of rows) o) false

module _ (rows : List Row) (next : ℕ) (orderly : IsOrderly rows next) where
  -- A row that doesn't test as open is shut.
  row_shut : (i : ℕ) (r : Row) → row_of rows i ≡ Some r → option_map_or (λ r. not r.shut) (row_of rows i) false ≡ false → IsTrue r.shut
  row_shut i r lives shut = not-false r.shut (sym (ap (λ o. option_map_or (λ r. not r.shut) o false) lives) ∙ shut)

  -- all is shut where the row is, and all below it
  pub shut_whole : (i : ℕ) → option_map_or (λ r. not r.shut) (row_of rows i) false ≡ false → KidsShut rows (under i) → IsTrue (is_subtree_shut rows i)
  shut_whole i own kids =
      shut_all rows next orderly i (λ j r lives below. elim (below_kid rows next orderly i j below) [
        | inl same ↦ row_shut i r (subst (λ z. row_of rows z ≡ Some r) same lives) own
        | inr kid ↦ shut_each rows next orderly kid.0 j r (kids kid.0 kid.1 refl) lives kid.2
      ])

  -- A search for what isn't shut begins at a top that is shut or gone, where what is left decides.
  pub looking_first : (top : ℕ) → option_map_or (λ r. not r.shut) (row_of rows top) false ≡ false → IsLooking rows top (under top ∷ [])
  looking_first top own = record {
    below = ((λ c kid. kid_below rows next orderly top c kid), tt);
    rest = λ all. shut_whole top own all.0;
  }

  -- What is left still decides whether all is shut, where the next child is shut or there is none.
  pub looking_on : (top : ℕ) (old rest new : List Spot) (s : Spot) (o : Option ℕ) → IsLooking rows top old → old ≡ rest ++ s ∷ [] → new ≡ rest ++ further s.inc o → o ≡ child_behind rows s.inc s.behind → is_unshut rows o ≡ false → IsLooking rows top new
  looking_on top old rest new s o is was more found shut = record {
    below = subst (EachOfList (KidsBelow rows top)) (sym more) (turn_on (KidsBelow rows top) rest s o
        (λ c e below. (below, (λ d kid. below_trans rows next orderly top c d (below c (next_kid rows next orderly s.inc s.behind c (sym found ∙ e)).0) (kid_below rows next orderly c d kid))))
        (subst (EachOfList (KidsBelow rows top)) was is.below));
    rest = λ all. is.rest (subst (EachOfList (KidsShut rows)) (sym was) (turn_back (KidsShut rows) rest s o
        (λ e c kid behind. absurd (no_kids rows s.inc s.behind c (sym found ∙ e) kid behind))
        (λ c e later whole i kid behind. elim (other_kids rows next orderly s.inc s.behind c i (sym found ∙ e) kid behind) [
          | inl same ↦ subst (λ z. IsTrue (is_subtree_shut rows z)) (sym same) (shut_whole c (sym (ap (is_unshut rows) e) ∙ shut) whole)
          | inr more ↦ later i kid more
        ])
        (subst (EachOfList (KidsShut rows)) more all)));
  }

  -- A row at or below the top that isn't shut keeps the top's subtree from being shut.
  open_row : (top i : ℕ) (o : Option Row) → row_of rows i ≡ o → IsTrue (is_below rows top i) → IsTrue (option_map_or (λ r. not r.shut) o false) → is_subtree_shut rows top ≡ false
  open_row top i None e below yet = never yet
  open_row top i (Some r) e below yet = not_true (is_subtree_shut rows top) (λ all. not_both r.shut (shut_each rows next orderly top i r all e below) yet)

  -- not all is shut where a row below isn't
  pub not_shut : (top i : ℕ) → IsTrue (is_below rows top i) → IsTrue (option_map_or (λ r. not r.shut) (row_of rows i) false) → is_subtree_shut rows top ≡ false
  not_shut top i below yet = open_row top i (row_of rows i) refl below yet

  -- A top that isn't shut itself doesn't have its subtree shut.
  own_by : (top : ℕ) (o : Option Row) → row_of rows top ≡ o → IsTrue (option_map_or (λ r. not r.shut) o false) → is_subtree_shut rows top ≡ false
  own_by top None e yet = never yet
  own_by top (Some r) e yet = open_row top top (Some r) e (below_self rows next orderly top r e) yet

  -- Not all is shut at and below a row that isn't shut itself.
  pub own_open : (top : ℕ) → IsTrue (option_map_or (λ r. not r.shut) (row_of rows top) false) → is_subtree_shut rows top ≡ false
  own_open top yet = own_by top (row_of rows top) refl yet

  -- A child found at a place below the top that isn't shut keeps the top's subtree from being so.
  found_by : (top : ℕ) (s : Spot) (o : Option ℕ) → KidsBelow rows top s → o ≡ child_behind rows s.inc s.behind → IsTrue (is_unshut rows o) → is_subtree_shut rows top ≡ false
  found_by top s None below found yet = never yet
  found_by top s (Some c) below found yet = not_shut top c (below c (next_kid rows next orderly s.inc s.behind c (sym found)).0) yet

  -- Where a child is found that isn't shut, not all at and below the top is.
  pub looking_found : (top : ℕ) (old rest : List Spot) (s : Spot) (o : Option ℕ) → IsLooking rows top old → old ≡ rest ++ s ∷ [] → o ≡ child_behind rows s.inc s.behind → IsTrue (is_unshut rows o) → false ≡ is_subtree_shut rows top
  looking_found top old rest s o is was found yet = sym (found_by top s o (last_of (KidsBelow rows top) rest s (subst (EachOfList (KidsBelow rows top)) was is.below)) found yet)
