-- What an index tells of the rows.
use Rattle.std.proofs.Common.{◌≡◌, ℕ, suc, ◌<◌, ◌-◌, ◌==◌, List, [], ◌∷◌, length, Option, Some, None, find, refl, sym, ap, ◌∙◌, subst, arith, Bor}
use Rattle.std.specs.Prelude.{option_map, IfSome, IfNone}
use Rattle.std.specs.Option.{option_copied}
use Rattle.cm_names.specs.declared.child.ChildName.{ChildName}
use Rattle.cm_world.specs.declared.row.Row.{Row}
use Rattle.cm_world.specs.Rows.{row_of, child_of}
use Rattle.cm_world.specs.RowsInside.{is_behind, child_behind}
use Rattle.cm_world.specs.Sound.{IsOrderly}
use Rattle.cm_world.proofs.lemmas.trees.Finding.{none_some, row_of-inc}
use Rattle.cm_table.specs.declared.slot.Slot.{Slot}
use Rattle.cm_table.specs.Keys.{EachItem, nth}
use Rattle.cm_table.specs.Slots.{slot_of, kids_of, named_in, IsIndexed}
use Rattle.cm_table.specs.Links.{Rises}
use Rattle.cm_table.specs.Leaf.{IsChildOf}
use Rattle.cm_table.proofs.lemmas.lists.EachItem.{each_map, each_find, each_nth}
use Rattle.cm_table.proofs.lemmas.indexes.Children.{incs, kids, IsKid, kids_live, find_none, filter_none, child_below, no_child, next_kid}
use Rattle.cm_table.proofs.lemmas.slots.Linking.{index_rises}

-- a slot that is found is one of them
pub if_found : (P : Slot → Type 0) (o : Option (Bor Slot)) (ss : List Slot) (i : ℕ) → option_copied o ≡ slot_of ss i → EachItem P ss → IfSome o (λ s. P s.now)
if_found P None ss i e all = tt
if_found P (Some s) ss i e all = each_find P (λ z. z.row.inc == i) ss s.now all (sym e)

module _ (rows : List Row) (next p : ℕ) (s : Slot) (o : IsOrderly rows next) (h : IsIndexed rows next s) (is : Some s.row ≡ row_of rows p) where
  -- The slot's row has the incarnation in question.
  at : s.row.inc ≡ p
  at = row_of-inc rows p s.row (sym is)

  -- The index of a living row has by each name the row's child of that name.
  pub child_told : (c : ChildName) → named_in s.index c ≡ child_of rows p c
  child_told c = h.names c ∙ ap (λ n. child_of rows n c) at

  -- The index of a living row lists all children of that row.
  pub kids_told : kids_of s.index ≡ kids rows p
  kids_told = h.kids ∙ ap (kids rows) at

  -- The first child behind one that the index of a living row lists is the row's next child.
  pub next_told : (after : Option ℕ) → find (is_behind after) (kids_of s.index) ≡ child_behind rows p after
  next_told after = ap (find (is_behind after)) kids_told ∙ sym (next_kid rows p after)

  -- The index of a living row lists its children in increasing order.
  pub rises_told : Rises s.index
  rises_told = index_rises rows next s o.increasing h

  -- A child that the index of a row has by a name is below any limit above the next incarnation.
  pub child_fits : (limit : ℕ) → next < limit → (c : ChildName) (n : ℕ) → named_in s.index c ≡ Some n → n < limit
  child_fits limit below c n e = lower n next limit (child_below rows next p n c o (sym (child_told c) ∙ e)) below where
    lower : (a b d : ℕ) → a < b → b < d → a < d
    lower a b d x y = omega arith

  -- The children that the index of a row lists are below any limit above the next incarnation.
  pub kids_fit : (limit : ℕ) → next < limit → EachItem (λ k. k < limit) (kids_of s.index)
  kids_fit limit below =
      subst (EachItem (λ k. k < limit)) (sym kids_told)
      (each_map (IsKid rows next p) (λ k. k < limit) (kids rows p) (λ k kid. lower k next limit kid.below below) (kids_live rows next p o.increasing)) where
        lower : (a b d : ℕ) → a < b → b < d → a < d
        lower a b d x y = omega arith

  -- the last child is one, and where there is none, there is no child
  pub last_some : (n : ℕ) → nth (kids_of s.index) (length (kids_of s.index) - 1) ≡ Some n → IsChildOf rows p n
  last_some n e =
      let kid : IsKid rows next p n = each_nth (IsKid rows next p) (kids rows p) (length (kids_of s.index) - 1) n (kids_live rows next p o.increasing) (ap (λ l. nth l (length (kids_of s.index) - 1)) (sym kids_told) ∙ e) in
      record { row = kid.row; lives = kid.lives; under = kid.under }

  -- Where the index of a living row lists no last child, the row has no child.
  pub last_none : nth (kids_of s.index) (length (kids_of s.index) - 1) ≡ None → child_behind rows p None ≡ None
  last_none e = sym (next_told None) ∙ ap (find (is_behind None)) (empty (kids_of s.index) e) where
    last_there : (l : List ℕ) (n : ℕ) → nth (n ∷ l) (length l) ≡ None → ⊥
    last_there [] n e = none_some n (sym e)
    last_there (m ∷ ms) n e = last_there ms m e

    one_less : (m : ℕ) → suc m - 1 ≡ m
    one_less m = omega arith

    empty : (l : List ℕ) → nth l (length l - 1) ≡ None → l ≡ []
    empty [] e = refl
    empty (n ∷ ns) e = absurd (last_there ns n (subst (λ k. nth (n ∷ ns) k ≡ None) (one_less (length ns)) e))

-- a row that doesn't live has no child
pub child_none : (rows : List Row) (next p : ℕ) (c : ChildName) → IsOrderly rows next → None ≡ row_of rows p → None ≡ child_of rows p c
child_none rows next p c o none = ap (option_map (λ r. r.inc)) (sym (find_none p c rows (no_child rows next p o (sym none))))

-- A row that doesn't live has no child behind any other.
pub next_none : (rows : List Row) (next p : ℕ) (after : Option ℕ) → IsOrderly rows next → None ≡ row_of rows p → None ≡ child_behind rows p after
next_none rows next p after o none =
    ap (find (is_behind after)) (ap incs (sym (filter_none p rows (no_child rows next p o (sym none))))) ∙ sym (next_kid rows p after)

-- ---- the last child, by cases

-- Where no last child is found in the index of a row's slot, the row has no child.
pub last_if_none : (rows : List Row) (next p : ℕ) (s : Slot) → IsOrderly rows next → IsIndexed rows next s → Some s.row ≡ row_of rows p → (r : Option ℕ) → r ≡ nth (kids_of s.index) (length (kids_of s.index) - 1) → IfNone r (child_behind rows p None ≡ None)
last_if_none rows next p s o h is None e = last_none rows next p s o h is (sym e)
last_if_none rows next p s o h is (Some n) e = tt

-- A last child that is found in the index of a row's slot is a child of that row.
pub last_if_some : (rows : List Row) (next p : ℕ) (s : Slot) → IsOrderly rows next → IsIndexed rows next s → Some s.row ≡ row_of rows p → (r : Option ℕ) → r ≡ nth (kids_of s.index) (length (kids_of s.index) - 1) → IfSome r (IsChildOf rows p)
last_if_some rows next p s o h is None e = tt
last_if_some rows next p s o h is (Some n) e = last_some rows next p s o h is n (sym e)
