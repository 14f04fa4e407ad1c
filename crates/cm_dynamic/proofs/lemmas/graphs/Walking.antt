-- The sets of a way on from a new child: what was seen, and what lies ahead.
use Rattle.std.proofs.Common.{◌≡◌, ℕ, ◌+◌, ◌<◌, ◌≤◌, List, [], ◌∷◌, Bool, true, false, cond, not, ◌&&◌, ◌||◌, true≢false, Option, Some, None, IsTrue, length, take, get_or, Result, Ok, Err, IfOk, option_map, refl, sym, ◌∙◌, ap, subst, arith, inl, inr, ◌⊎◌}
use Rattle.std.specs.List.{list_all, list_any}
use Rattle.std.specs.Option.{option_map_or}
use Rattle.std.specs.Ordering.{is_eq, nat_cmp}
use Rattle.std.specs.BTreeSet.{BTreeSet}
use Rattle.std.proofs.lemmas.Bool.{and_from as and_pair, or_left, or_right, or_cases}
use Rattle.std.proofs.lemmas.List.{take_all}
use Rattle.std.proofs.lemmas.List.Folds.{list_all_more}
use Rattle.std.specs.Cmp.{first_so, second_so}
use Rattle.cm_names.specs.declared.child.ChildName.{ChildName}
use Rattle.cm_decl.specs.declared.origin.Origin.{Origin}
use Rattle.cm_decl.specs.declared.origin.Origin.TheVariants as origin
use Rattle.cm_decl.specs.declared.rows.Give.{Give}
use Rattle.cm_decl.specs.Same.{same_child}
use Rattle.cm_decl.proofs.lemmas.Sameness.{never}
use Rattle.cm_world.specs.declared.row.Row.{Row}
use Rattle.cm_world.specs.Rows.{row_of, child_of}
use Rattle.cm_world.proofs.lemmas.trees.Finding.{some_same, none_some}
use Rattle.cm_walk.specs.Ahead.{is_in_set}
use Rattle.cm_walk.proofs.lemmas.descents.Adding.{cmp_same}
use Rattle.cm_dynamic.specs.Apart.{binds_created}
use Rattle.cm_dynamic.specs.Onward.{is_past, is_past_from, leads_past, RowLeadsPast, ComesFrom, IsOnward, Grows, IsWalking}

-- ---- sets that grow

-- A step in which the sets stay as they are is a step of the search.
pub grows_none : (seen ahead : BTreeSet ℕ) → Grows seen ahead seen ahead
grows_none seen ahead = record { seen = λ i there. there; ahead = λ i there. there; fresh = λ i there. inl there }

-- Two steps of the search, one after the other, are one step.
pub grows_on : (seen ahead seen1 ahead1 seen2 ahead2 : BTreeSet ℕ) → Grows seen ahead seen1 ahead1 → Grows seen1 ahead1 seen2 ahead2 → Grows seen ahead seen2 ahead2
grows_on seen ahead seen1 ahead1 seen2 ahead2 first second = record {
  seen = λ i there. second.seen i (first.seen i there);
  ahead = λ i there. second.ahead i (first.ahead i there);
  fresh = λ i there. elim (second.fresh i there) [
    | inl before ↦ elim (first.fresh i before) [
      | inl start ↦ inl start
      | inr here ↦ inr (second.ahead i here)
    ]
    | inr here ↦ inr here
  ];
}

-- What holds still holds where it may be set.
kept : (b x : Bool) → IsTrue x → IsTrue (cond b true x)
kept true x h = refl
kept false x h = h

-- A set into which an incarnation was put has all that it had.
pub keeps_all : (inc : ℕ) (set more : BTreeSet ℕ) → ((q : ℕ) → is_in_set more q ≡ cond (is_eq (nat_cmp inc q)) true (is_in_set set q)) → (i : ℕ) → IsTrue (is_in_set set i) → IsTrue (is_in_set more i)
keeps_all inc set more updates i there = updates i ∙ kept (is_eq (nat_cmp inc i)) (is_in_set set i) there

-- one that was seen, or lies ahead now, is put into what was seen
pub put_grows : (inc : ℕ) (seen ahead more further : BTreeSet ℕ) → ((q : ℕ) → is_in_set more q ≡ cond (is_eq (nat_cmp inc q)) true (is_in_set seen q)) → ((q : ℕ) → IsTrue (is_in_set ahead q) → IsTrue (is_in_set further q)) → IsTrue (is_in_set seen inc) ⊎ IsTrue (is_in_set further inc) → Grows seen ahead more further
put_grows inc seen ahead more further updates on here = record {
  seen = keeps_all inc seen more updates;
  ahead = on;
  fresh = λ i there. by i (is_eq (nat_cmp inc i)) refl (sym (updates i) ∙ there);
}
  where
    by : (i : ℕ) (b : Bool) → is_eq (nat_cmp inc i) ≡ b → IsTrue (cond (is_eq (nat_cmp inc i)) true (is_in_set seen i)) → IsTrue (is_in_set seen i) ⊎ IsTrue (is_in_set further i)
    by i true e there = subst (λ j. IsTrue (is_in_set seen j) ⊎ IsTrue (is_in_set further j)) (cmp_same inc i e) here
    by i false e there = inl (subst (λ b. IsTrue (cond b true (is_in_set seen i))) e there)

-- ---- what leads past the new name

-- A child of another name than the new one leads past it, where no row is found by that name.
pub past_none : (rows : List Row) (p : ℕ) (new c : ChildName) (seen : BTreeSet ℕ) → same_child c new ≡ false → child_of rows p c ≡ None → IsTrue (is_past rows p new seen c)
past_none rows p new c seen other none =
    and_pair (not (same_child c new)) (option_map_or (is_in_set seen) (child_of rows p c) true) (ap not other) (ap (λ o. option_map_or (is_in_set seen) o true) none)

-- A child of another name than the new one leads past it, where its row is among those seen.
pub past_some : (rows : List Row) (p inc : ℕ) (new c : ChildName) (seen : BTreeSet ℕ) → same_child c new ≡ false → child_of rows p c ≡ Some inc → IsTrue (is_in_set seen inc) → IsTrue (is_past rows p new seen c)
past_some rows p inc new c seen other some here =
    and_pair (not (same_child c new)) (option_map_or (is_in_set seen) (child_of rows p c) true) (ap not other) (ap (λ o. option_map_or (is_in_set seen) o true) some ∙ here)

-- A give that doesn't come strongly from a child in a collection leads past the new child.
pub past_unbound : (rows : List Row) (p : ℕ) (new : ChildName) (seen : BTreeSet ℕ) (g : Give) → binds_created g.dependency g.from ≡ false → IsTrue (leads_past rows p new seen g)
past_unbound rows p new seen g e = or_left (not (binds_created g.dependency g.from)) (is_past_from rows p new seen g.from) (ap not e)

-- A give from a child that leads past the new one leads past it too.
pub past_child : (rows : List Row) (p : ℕ) (new c : ChildName) (seen : BTreeSet ℕ) (g : Give) → g.from ≡ origin.Child c → IsTrue (is_past rows p new seen c) → IsTrue (leads_past rows p new seen g)
past_child rows p new c seen g e past =
    or_right (not (binds_created g.dependency g.from)) (is_past_from rows p new seen g.from) (subst (λ o. IsTrue (is_past_from rows p new seen o)) (sym e) past)

module _ (rows : List Row) (p : ℕ) (new : ChildName) (seen ahead more further : BTreeSet ℕ) (grows : Grows seen ahead more further) where
  -- A child that was seen, if it is there, is still so in the grown set.
  there_still : (o : Option ℕ) → IsTrue (option_map_or (is_in_set seen) o true) → IsTrue (option_map_or (is_in_set more) o true)
  there_still None it = refl
  there_still (Some i) it = grows.seen i it

  -- A source that is no child or was seen is still so in the grown set.
  past_from_still : (o : Origin) → IsTrue (is_past_from rows p new seen o) → IsTrue (is_past_from rows p new more o)
  past_from_still (origin.Child c) past =
      and_pair (not (same_child c new)) (option_map_or (is_in_set more) (child_of rows p c) true)
      (first_so (not (same_child c new)) (option_map_or (is_in_set seen) (child_of rows p c) true) past)
      (there_still (child_of rows p c) (second_so (not (same_child c new)) (option_map_or (is_in_set seen) (child_of rows p c) true) past))
  past_from_still origin.Own past = refl
  past_from_still origin.Parent past = refl
  past_from_still origin.Framework past = refl
  past_from_still origin.Void past = refl

  -- A give that leads to what was seen still does in the grown set.
  past_still : (g : Give) → IsTrue (leads_past rows p new seen g) → IsTrue (leads_past rows p new more g)
  past_still g past = elim (or_cases (not (binds_created g.dependency g.from)) (is_past_from rows p new seen g.from) past) [
    | inl unbound ↦ or_left (not (binds_created g.dependency g.from)) (is_past_from rows p new more g.from) unbound
    | inr from ↦ or_right (not (binds_created g.dependency g.from)) (is_past_from rows p new more g.from) (past_from_still g.from from)
  ]

  -- what led past it does so in a set with more
  pub all_still : (gs : List Give) → IsTrue (list_all (leads_past rows p new seen) gs) → IsTrue (list_all (leads_past rows p new more) gs)
  all_still [] all = refl
  all_still (g ∷ gs) all =
      and_pair (leads_past rows p new more g) (list_all (leads_past rows p new more) gs)
      (past_still g (first_so (leads_past rows p new seen g) (list_all (leads_past rows p new seen) gs) all))
      (all_still gs (second_so (leads_past rows p new seen g) (list_all (leads_past rows p new seen) gs) all))

-- ---- the loop over offers

-- those so far lead past it, and the sets have grown
pub record IsPutting (rows : List Row) (p : ℕ) (new : ChildName) (gives : List Give) (seen ahead more further : BTreeSet ℕ) : Type 0 where
  pub past : IsTrue (list_all (leads_past rows p new more) gives)
  pub grows : Grows seen ahead more further

-- Before the first give, none is gone through, and the sets are as they were.
pub putting_first : (rows : List Row) (p : ℕ) (new : ChildName) (gives : List Give) (seen ahead : BTreeSet ℕ) → IsPutting rows p new (take 0 gives) seen ahead seen ahead
putting_first rows p new gives seen ahead = record { past = refl; grows = grows_none seen ahead }

-- A next give that leads past the new child is gone through, where the sets only grow by it.
pub putting_more : (rows : List Row) (p : ℕ) (new : ChildName) (gives : List Give) (i : ℕ) (g : Give) (seen ahead seen1 ahead1 seen2 ahead2 : BTreeSet ℕ) → i < length gives → g ≡ get_or gives i g → IsPutting rows p new (take i gives) seen ahead seen1 ahead1 → IsTrue (leads_past rows p new seen2 g) → Grows seen1 ahead1 seen2 ahead2 → IsPutting rows p new (take (i + 1) gives) seen ahead seen2 ahead2
putting_more rows p new gives i g seen ahead seen1 ahead1 seen2 ahead2 low is so_far past grows = record {
  past =
      list_all_more (leads_past rows p new seen2) gives i g low
      ∙ and_pair (list_all (leads_past rows p new seen2) (take i gives)) (leads_past rows p new seen2 (get_or gives i g))
      (all_still rows p new seen1 ahead1 seen2 ahead2 grows (take i gives) so_far.past)
      (subst (λ x. IsTrue (leads_past rows p new seen2 x)) is past);
  grows = grows_on seen ahead seen1 ahead1 seen2 ahead2 so_far.grows grows;
}

-- Once all gives are gone through, each leads past the new child.
pub putting_ends : (rows : List Row) (p : ℕ) (new : ChildName) (gives : List Give) (i : ℕ) (seen ahead more further : BTreeSet ℕ) → length gives ≤ i → IsPutting rows p new (take i gives) seen ahead more further → IsTrue (list_all (leads_past rows p new more) gives)
putting_ends rows p new gives i seen ahead more further long so_far =
    subst (λ gs. IsTrue (list_all (leads_past rows p new more) gs)) (take_all i gives long) so_far.past

-- ---- what a row was given

-- A row that doesn't live was given nothing that doesn't lead past the new child.
pub row_none : (rows : List Row) (p i : ℕ) (new : ChildName) (seen : BTreeSet ℕ) → None ≡ option_map (λ r. r.gives) (row_of rows i) → RowLeadsPast rows p new seen i
row_none rows p i new seen none r lives = absurd (none_some r.gives (none ∙ ap (option_map (λ (r : Row). r.gives)) lives))

-- A row leads past the new child where all that it was given does.
pub row_some : (rows : List Row) (p i : ℕ) (new : ChildName) (seen : BTreeSet ℕ) (gives sliced : List Give) → Some gives ≡ option_map (λ r. r.gives) (row_of rows i) → sliced ≡ gives → IsTrue (list_all (leads_past rows p new seen) sliced) → RowLeadsPast rows p new seen i
row_some rows p i new seen gives sliced some same all r lives =
    subst (λ gs. IsTrue (list_all (leads_past rows p new seen) gs)) (same ∙ some_same gives r.gives (some ∙ ap (option_map (λ (r : Row). r.gives)) lives)) all

-- ---- the loop over what lies ahead

-- In a list without items none passes.
no_key : (ks : List ℕ) (q : ℕ → Bool) → (0 < length ks → ⊥) → IsTrue (list_any q ks) → ⊥
no_key [] q none any = never any
no_key (k ∷ ks) q none any = none (omega arith)

-- A set without keys has nothing in it.
in_none : (set : BTreeSet ℕ) → set.keys ≡ [] → (i : ℕ) → IsTrue (is_in_set set i) → ⊥
in_none set empty i there = no_key set.keys _ (λ some. (let zero : length set.keys ≡ 0 = ap length empty in absurd (omega arith))) there

-- From empty sets a walk along the gives of the new child knows all that these lead to.
pub walking_first : (rows : List Row) (p : ℕ) (new : ChildName) (gives : List Give) (none empty seen ahead : BTreeSet ℕ) → none.keys ≡ [] → Grows none empty seen ahead → IsTrue (list_all (leads_past rows p new seen) gives) → IsWalking rows p new gives seen ahead
walking_first rows p new gives none empty seen ahead nothing grows all = record {
  own = all;
  each = λ i there. elim (grows.fresh i there) [
    | inl before ↦ absurd (in_none none nothing i before)
    | inr here ↦ inl here
  ];
}

-- With one that lay ahead looked at, the walk knows what that one leads to.
pub walking_more : (rows : List Row) (p inc : ℕ) (new : ChildName) (gives : List Give) (seen ahead rest more further : BTreeSet ℕ) → IsWalking rows p new gives seen ahead → ((q : ℕ) → is_in_set rest q ≡ cond (is_eq (nat_cmp inc q)) false (is_in_set ahead q)) → RowLeadsPast rows p new more inc → Grows seen rest more further → IsWalking rows p new gives more further
walking_more rows p inc new gives seen ahead rest more further so_far taken past grows = record {
  own = all_still rows p new seen rest more further grows gives so_far.own;
  each = λ i there. elim (grows.fresh i there) [
    | inl before ↦ elim (so_far.each i before) [
      | inl here ↦ by i (is_eq (nat_cmp inc i)) refl here
      | inr looked ↦ inr (λ r lives. all_still rows p new seen rest more further grows r.gives (looked r lives))
    ]
    | inr here ↦ inl here
  ];
}
  where
    by : (i : ℕ) (b : Bool) → is_eq (nat_cmp inc i) ≡ b → IsTrue (is_in_set ahead i) → IsTrue (is_in_set further i) ⊎ RowLeadsPast rows p new more i
    by i true e here = inr (subst (RowLeadsPast rows p new more) (cmp_same inc i e) past)
    by i false e here = inl (grows.ahead i (taken i ∙ ap (λ b. cond b false (is_in_set ahead i)) e ∙ here))

-- where nothing lies ahead, all was looked at
pub walking_ends : (rows : List Row) (p : ℕ) (new : ChildName) (gives : List Give) (seen ahead : BTreeSet ℕ) → IsWalking rows p new gives seen ahead → (0 < length ahead.keys → false ≡ true) → IsOnward rows p new gives
walking_ends rows p new gives seen ahead so_far none = (
  seen,
  record {
    own = so_far.own;
    each = λ i there. elim (so_far.each i there) [
      | inl here ↦ absurd (no_key ahead.keys _ (λ some. true≢false (sym (none some))) here)
      | inr looked ↦ looked
    ];
  },
)

-- ---- results

-- what holds of each value holds of a result
pub if_any : {A E : Type 0} (Q : A → Type 0) (r : Result A E) → ((x : A) → Q x) → IfOk r Q
if_any Q (Ok x) all = all x
if_any Q (Err e) all = tt
