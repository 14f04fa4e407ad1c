-- The indexes of slots follow each change of the rows.
use Rattle.std.proofs.Common.{◌≡◌, ℕ, suc, ◌<◌, ◌≤◌, ◌+◌, List, [], ◌∷◌, ◌++◌, length, Bool, true, false, cond, ◌==◌, ◌&&◌, not, nat_eq, true≢false, Option, Some, None, find, filter, refl, sym, ap, ◌∙◌, subst, arith, ne_eqb, ne_of_lt}
use Rattle.std.specs.Prelude.{option_map}
use Rattle.std.specs.Option.{option_eq}
use Rattle.std.specs.Cmp.{unsigned_Decides}
use Rattle.cm_names.specs.declared.child.ChildName.{ChildName}
use Rattle.cm_facts.proofs.Booleans.{and_and_not}
use Rattle.cm_facts.proofs.Options.{option_map_none}
use Rattle.cm_facts.proofs.Lists.{find_last}
use Rattle.cm_decl.specs.declared.rows.Child.{Child}
use Rattle.cm_decl.specs.Same.{same_child}
use Rattle.cm_decl.proofs.lemmas.Sameness.{same_child_exact}
use Rattle.cm_world.specs.declared.row.Row.{Row}
use Rattle.cm_world.specs.Edits.{drop_first}
use Rattle.cm_world.specs.Rows.{row_of, has_parent, has_name, child_of}
use Rattle.cm_world.specs.End.{changed, set_doomed, child_row, child_rows}
use Rattle.cm_world.specs.Sound.{IncarnationsIncrease, IsOrderly}
use Rattle.cm_world.proofs.lemmas.trees.Finding.{some_same, none_some, find-passes}
use Rattle.cm_table.specs.declared.slot.Slot.{Slot}
use Rattle.cm_table.specs.declared.slot.ChildIndex.{ChildIndex}
use Rattle.cm_table.specs.Keys.{EachItem, EachOf}
use Rattle.cm_table.specs.Slots.{inc_of, slot_of, rows_in, indexed_by, with_row_by, kids_of, named_in, base_of, kids_at, named_at, IsIndexed}
use Rattle.cm_table.specs.Links.{unless, IsSame, IsLinked, IsUnlinked}
use Rattle.cm_table.specs.Numbering.{IsBare}
use Rattle.cm_table.proofs.lemmas.tree.Leaves.{without}
use Rattle.cm_table.proofs.lemmas.lists.Editing.{edited, dropped}
use Rattle.cm_table.proofs.lemmas.lists.EachItem.{each_map, each_append, each_edited, each_dropped, each_zip, each_of_edited, both}
use Rattle.cm_table.proofs.lemmas.slots.Rowed.{slots_rise}
use Rattle.cm_table.proofs.lemmas.indexes.Children.{incs, kids, kids_changed, child_changed, filter_without, filter_fails, child_without, child_doomed, IsNamed, named_row, NoneHas, filter_none, find_none, filter_append, incs_append, kids_left, kids_right, child_left, child_right, none_high, has_by}
use Rattle.cm_trees.specs.Reading.{is_there}

-- ---- another row in a slot

-- A slot's index is right with its row changed, where that keeps its incarnation.
rowed : (rows : List Row) (next : ℕ) (f : Row → Row) (s : Slot) → (f s.row).inc ≡ s.row.inc → IsIndexed rows next s → IsIndexed rows next (with_row_by f s)
rowed rows next f s n h = record {
  base = h.base;
  kids = h.kids ∙ ap (kids rows) (sym n);
  names = λ c. h.names c ∙ ap (λ j. child_of rows j c) (sym n);
}

-- a change that keeps places, parents, names and who is doomed
pub record SparesRows (f : Row → Row) : Type 0 where
  pub inc : (r : Row) → (f r).inc ≡ r.inc
  pub parent : (r : Row) → (f r).parent ≡ r.parent
  pub name : (r : Row) → (f r).name ≡ r.name
  pub doomed : (r : Row) → (f r).doomed ≡ r.doomed

-- A slot's index is right behind a change that keeps places, parents, names and doom.
indexed_changed : (i : ℕ) (f : Row → Row) → SparesRows f → (rows : List Row) (next : ℕ) (s : Slot) → IsIndexed rows next s → IsIndexed (changed i f rows) next s
indexed_changed i f k rows next s h = record {
  base = h.base;
  kids = h.kids ∙ sym (kids_changed i s.row.inc f k.inc k.parent rows);
  names = λ c. h.names c ∙ sym (child_changed i s.row.inc c f k.inc k.parent k.name k.doomed rows);
}

-- Indexes stay right where a row is changed, but not in its place, parent, name, or being doomed.
pub all_changed : (i : ℕ) (f : Row → Row) → SparesRows f → (rows : List Row) (next : ℕ) (ss : List Slot) → EachItem (IsIndexed rows next) ss → EachItem (IsIndexed (changed i f rows) next) (edited inc_of i (with_row_by f) ss)
all_changed i f k rows next ss all =
    each_edited (IsIndexed (changed i f rows) next) (λ s. s.row.inc == i) (with_row_by f) ss (λ s. rowed (changed i f rows) next f s (k.inc s.row))
    (each_map (IsIndexed rows next) (IsIndexed (changed i f rows) next) ss (indexed_changed i f k rows next) all)

-- ---- a doomed row, and one that is taken away

-- A slot's index without a name is right where the row of that name is doomed.
indexed_doomed : (i : ℕ) (rows : List Row) (next : ℕ) → IsOrderly rows next → (s t : Slot) → IsUnlinked i false s t → IsIndexed rows next s → IsIndexed (changed i set_doomed rows) next t
indexed_doomed i rows next o s t u h = record {
  base = subst (λ n. n ≤ next) (sym u.base) h.base;
  kids = u.kids ∙ h.kids ∙ sym (kids_changed i s.row.inc set_doomed (λ r. refl) (λ r. refl) rows) ∙ ap (λ (r : Row). kids (changed i set_doomed rows) r.inc) (sym u.row);
  names = λ c. u.names c ∙ ap (unless i) (h.names c) ∙ sym (child_doomed rows next i s.row.inc c o) ∙ ap (λ (r : Row). child_of (changed i set_doomed rows) r.inc c) (sym u.row);
}

-- Indexes stay right where a row is doomed, and its parent's index leads to it by no name any more.
pub all_doomed : (i : ℕ) (next : ℕ) (ss ts : List Slot) → IsOrderly (rows_in ss) next → EachOf (IsUnlinked i false) ss ts → EachItem (IsIndexed (rows_in ss) next) ss → EachItem (IsIndexed (changed i set_doomed (rows_in ss)) next) (edited inc_of i (with_row_by set_doomed) ts)
all_doomed i next ss ts o rel all =
    each_edited (IsIndexed (changed i set_doomed (rows_in ss)) next) (λ s. s.row.inc == i) (with_row_by set_doomed) ts (λ s. rowed (changed i set_doomed (rows_in ss)) next set_doomed s refl)
    (each_zip (IsUnlinked i false) (IsIndexed (rows_in ss) next) (IsIndexed (changed i set_doomed (rows_in ss)) next) ss ts (indexed_doomed i (rows_in ss) next o) rel all)

-- A slot's index without a child is right where that row is taken away.
indexed_gone : (i : ℕ) (rows : List Row) (next : ℕ) → IsOrderly rows next → (s t : Slot) → IsUnlinked i true s t → IsIndexed rows next s → IsIndexed (without i rows) next t
indexed_gone i rows next o s t u h = record {
  base = subst (λ n. n ≤ next) (sym u.base) h.base;
  kids = u.kids ∙ ap (drop_first (λ k. k == i)) h.kids ∙ sym (filter_without (has_parent s.row.inc) i next rows o.increasing) ∙ ap (λ (r : Row). kids (without i rows) r.inc) (sym u.row);
  names = λ c. u.names c ∙ ap (unless i) (h.names c) ∙ sym (child_without rows next i s.row.inc c o) ∙ ap (λ (r : Row). child_of (without i rows) r.inc c) (sym u.row);
}

-- Indexes stay right where a row is taken away, and left out of its parent's index.
pub all_gone : (i : ℕ) (next : ℕ) (ss ts : List Slot) → IsOrderly (rows_in ss) next → EachOf (IsUnlinked i true) ss ts → EachItem (IsIndexed (rows_in ss) next) ss → EachItem (IsIndexed (without i (rows_in ss)) next) (dropped inc_of i ts)
all_gone i next ss ts o rel all =
    each_dropped (IsIndexed (without i (rows_in ss)) next) (λ s. s.row.inc == i) ts
    (each_zip (IsUnlinked i true) (IsIndexed (rows_in ss) next) (IsIndexed (without i (rows_in ss)) next) ss ts (indexed_gone i (rows_in ss) next o) rel all)

-- ---- indexes that say the same

-- A slot's index is right where the slot is the same in what it says.
indexed_same : (rows : List Row) (next : ℕ) (s t : Slot) → IsSame s t → IsIndexed rows next s → IsIndexed rows next t
indexed_same rows next s t u h = record {
  base = subst (λ n. n ≤ next) (sym u.base) h.base;
  kids = u.kids ∙ h.kids ∙ ap (λ (r : Row). kids rows r.inc) (sym u.row);
  names = λ c. u.names c ∙ h.names c ∙ ap (λ (r : Row). child_of rows r.inc c) (sym u.row);
}

-- Indexes stay right where each slot has the same row, and an index that says the same.
pub all_same : (rows : List Row) (next : ℕ) (ss ts : List Slot) → EachOf IsSame ss ts → EachItem (IsIndexed rows next) ss → EachItem (IsIndexed rows next) ts
all_same rows next ss ts rel all = each_zip IsSame (IsIndexed rows next) (IsIndexed rows next) ss ts (indexed_same rows next) rel all

-- ---- one child more

-- Where the second of three doesn't hold, not all do.
name_false : (a b d : Bool) → b ≡ false → (a && b && d) ≡ false
name_false true b d e = ap (λ t. t && d) e
name_false false b d e = refl

-- A last row that passes is found where none was found before it, if so in the rest.
last_none_by : (b : Bool) (t : Row → Bool) (x : Row) (xs : List Row) (r : Row) → (find t xs ≡ None → find t (xs ++ r ∷ []) ≡ Some r) → cond b (Some x) (find t xs) ≡ None → cond b (Some x) (find t (xs ++ r ∷ [])) ≡ Some r
last_none_by true t x xs r later h = absurd (none_some x (sym h))
last_none_by false t x xs r later h = later h

-- A last row that fails the test changes nothing in what is found.
last_missed : (t : Row → Bool) (xs : List Row) (r : Row) → t r ≡ false → find t (xs ++ r ∷ []) ≡ find t xs
last_missed t [] r miss = ap (λ b. cond b (Some r) None) miss
last_missed t (x ∷ xs) r miss = ap (cond (t x) (Some x)) (last_missed t xs r miss)

-- a row that stands behind the others, under a parent and by a name
pub record IsLast (p : ℕ) (name : ChildName) (r : Row) : Type 0 where
  pub under : r.parent ≡ Some p
  pub named : r.name ≡ Some name
  pub alive : r.doomed ≡ false

-- A row with that parent passes the test for its parent.
own_parent : (p : ℕ) (r : Row) → r.parent ≡ Some p → has_parent p r ≡ true
own_parent p r e = ap (λ o. option_eq nat_eq o (Some p)) e ∙ (unsigned_Decides p p).1 refl

-- The child of a name with a row behind all is that row, if the name is its own, else as before.
pushed_by : (b : Bool) (rows : List Row) (p : ℕ) (name c : ChildName) (r : Row) → IsLast p name r → child_of rows p name ≡ None → same_child name c ≡ b → child_of (rows ++ r ∷ []) p c ≡ cond b (Some r.inc) (child_of rows p c)
pushed_by true rows p name c r l unused same =
    let is : name ≡ c = same_child_exact name c same in
    let none : find (is_there p c) rows ≡ None = option_map_none (λ (s : Row). s.inc) (find (is_there p c) rows) (ap (child_of rows p) (sym is) ∙ unused) in
    ap (option_map (λ s. s.inc)) (find_last (is_there p c) rows r none (and_and_not (has_parent p r) (has_name c r) r.doomed (own_parent p r l.under) (ap (λ o. option_eq same_child o (Some c)) l.named ∙ same) l.alive))
pushed_by false rows p name c r l unused same =
    ap (option_map (λ s. s.inc)) (last_missed (is_there p c) rows r (name_false (has_parent p r) (has_name c r) (not r.doomed) (ap (λ o. option_eq same_child o (Some c)) l.named ∙ same)))

-- A child put behind all rows is found by its name, if no other was, and others are as before.
pub child_pushed : (rows : List Row) (p : ℕ) (name c : ChildName) (r : Row) → IsLast p name r → child_of rows p name ≡ None → child_of (rows ++ r ∷ []) p c ≡ cond (same_child name c) (Some r.inc) (child_of rows p c)
child_pushed rows p name c r l unused = pushed_by (same_child name c) rows p name c r l unused refl

-- A child put behind all rows stands behind the other children of its parent.
pub kids_pushed : (rows : List Row) (p : ℕ) (r : Row) → r.parent ≡ Some p → kids (rows ++ r ∷ []) p ≡ kids rows p ++ r.inc ∷ []
kids_pushed rows p r under =
    ap incs (filter_append (has_parent p) rows (r ∷ []) ∙ ap (λ b. filter (has_parent p) rows ++ cond b (r ∷ []) []) (own_parent p r under)) ∙ incs_append (filter (has_parent p) rows) (r ∷ [])

-- A row with another parent is no child of this one.
other_parent : (p j : ℕ) (r : Row) → r.parent ≡ Some p → (j ≡ p → ⊥) → NoneHas j (r ∷ [])
other_parent p j r under differ = (ap (λ o. option_eq nat_eq o (Some j)) under ∙ ne_eqb p j (λ e. differ (sym e)), tt)

-- A slot's index with one child more, if the slot is the parent's, is right with its row behind all.
linked_by : (b : Bool) (rows : List Row) (next p : ℕ) (name : ChildName) (r : Row) (s t : Slot) → (s.row.inc == p) ≡ b → r.inc ≡ next → IsLast p name r → child_of rows p name ≡ None → IsLinked p name next s t → IsIndexed rows next s → IsIndexed (rows ++ r ∷ []) (next + 1) t
linked_by true rows next p name r s t own number l unused u h =
    let at : s.row.inc ≡ p = (unsigned_Decides s.row.inc p).0 own in
    let to : p ≡ t.row.inc = sym at ∙ ap (λ (z : Row). z.inc) (sym u.row) in
    let low : base_of t.index ≤ next = subst (λ n. n ≤ next) (sym u.base) h.base in
    record {
      base = omega (arith, low);
      kids =
          u.kids ∙ ap (λ b. cond b (kids_of s.index ++ next ∷ []) (kids_of s.index)) own ∙ ap (λ l. l ++ next ∷ []) (h.kids ∙ ap (kids rows) at)
          ∙ ap (λ n. kids rows p ++ n ∷ []) (sym number) ∙ sym (kids_pushed rows p r l.under) ∙ ap (kids (rows ++ r ∷ [])) to;
      names = λ c.
          u.names c ∙ ap (λ b. cond (b && same_child name c) (Some next) (named_in s.index c)) own
          ∙ ap (cond (same_child name c) (Some next)) (h.names c ∙ ap (λ j. child_of rows j c) at)
          ∙ ap (λ n. cond (same_child name c) (Some n) (child_of rows p c)) (sym number)
          ∙ sym (child_pushed rows p name c r l unused) ∙ ap (λ j. child_of (rows ++ r ∷ []) j c) to;
    }
linked_by false rows next p name r s t own number l unused u h =
    let none : NoneHas s.row.inc (r ∷ []) = other_parent p s.row.inc r l.under (λ e. true≢false (sym ((unsigned_Decides s.row.inc p).1 e) ∙ own)) in
    let to : s.row.inc ≡ t.row.inc = ap (λ (z : Row). z.inc) (sym u.row) in
    let low : base_of t.index ≤ next = subst (λ n. n ≤ next) (sym u.base) h.base in
    record {
      base = omega (arith, low);
      kids =
          u.kids ∙ ap (λ b. cond b (kids_of s.index ++ next ∷ []) (kids_of s.index)) own ∙ h.kids
          ∙ sym (kids_left s.row.inc rows (r ∷ []) none) ∙ ap (kids (rows ++ r ∷ [])) to;
      names = λ c.
          u.names c ∙ ap (λ b. cond (b && same_child name c) (Some next) (named_in s.index c)) own ∙ h.names c
          ∙ ap (option_map (λ z. z.inc)) (sym (child_left s.row.inc c rows (r ∷ []) none)) ∙ ap (λ j. child_of (rows ++ r ∷ []) j c) to;
    }

-- a slot without an index, whose row has no child
pub bare_index : (rows : List Row) (next : ℕ) (s : Slot) → IsBare s → NoneHas s.row.inc rows → IsIndexed rows next s
bare_index rows next s bare none = record {
  base = subst (λ x. base_of x ≤ next) (sym bare) (zero_least next);
  kids = ap kids_of bare ∙ ap incs (sym (filter_none s.row.inc rows none));
  names = λ c. ap (λ x. named_in x c) bare ∙ ap (option_map (λ r. r.inc)) (sym (find_none s.row.inc c rows none));
} where
  zero_least : (n : ℕ) → 0 ≤ n
  zero_least n = omega arith

-- Indexes stay right where a child is put behind all rows, and linked in its parent's index.
pub all_linked : (ss ts : List Slot) (next p : ℕ) (name : ChildName) (r : Row) (new : Slot) → new.row ≡ r → IsBare new → r.inc ≡ next → IsLast p name r → IsOrderly (rows_in ss) next → p < next → child_of (rows_in ss) p name ≡ None → EachOf (IsLinked p name next) ss ts → EachItem (IsIndexed (rows_in ss) next) ss → EachItem (IsIndexed (rows_in ss ++ r ∷ []) (next + 1)) (ts ++ new ∷ [])
all_linked ss ts next p name r new own bare number l o low unused rel all =
    let at : new.row.inc ≡ next = ap (λ (z : Row). z.inc) own ∙ number in
    each_append (IsIndexed (rows_in ss ++ r ∷ []) (next + 1)) ts (new ∷ [])
    (each_zip (IsLinked p name next) (IsIndexed (rows_in ss) next) (IsIndexed (rows_in ss ++ r ∷ []) (next + 1)) ss ts
    (λ s t. linked_by (s.row.inc == p) (rows_in ss) next p name r s t refl number l unused) rel all) (
      bare_index (rows_in ss ++ r ∷ []) (next + 1) new bare
          (each_append (λ z. has_parent new.row.inc z ≡ false) (rows_in ss) (r ∷ [])
          (subst (λ n. NoneHas n (rows_in ss)) (sym at) (none_high (rows_in ss) next next o (omega arith)))
          (other_parent p new.row.inc r l.under (λ e. ne_of_lt low (sym (sym at ∙ e))))),
      tt,
    )

-- ---- the children of a resolve

-- No row of new children has another parent than theirs.
new_others : (p j next : ℕ) (ks : List Child) → (j ≡ p → ⊥) → NoneHas j (child_rows p next ks)
new_others p j next [] differ = tt
new_others p j next (k ∷ ks) differ = (ne_eqb p j (λ e. differ (sym e)), new_others p j (next + 1) ks differ)

-- the children have the numbers from the next one on
new_high : (p next : ℕ) (ks : List Child) → EachItem (λ r. (next ≤ r.inc) × (r.inc < next + length ks)) (child_rows p next ks)
new_high p next [] = tt
new_high p next (k ∷ ks) = (
  (omega arith, omega arith),
  each_map (λ r. (next + 1 ≤ r.inc) × (r.inc < next + 1 + length ks)) (λ r. (next ≤ r.inc) × (r.inc < next + suc (length ks))) (child_rows p (next + 1) ks)
      (λ r h. (lower next r.inc h.0, higher next (length ks) r.inc h.1)) (new_high p (next + 1) ks),
) where
  lower : (n m : ℕ) → n + 1 ≤ m → n ≤ m
  lower n m h = omega arith

  higher : (n l m : ℕ) → m < n + 1 + l → m < n + suc l
  higher n l m h = omega arith

-- What holds of each row's incarnation holds of that of each slot.
slots_by : (P : ℕ → Type 0) (ss : List Slot) (rows : List Row) → rows_in ss ≡ rows → EachItem (λ r. P r.inc) rows → EachItem (λ s. P s.row.inc) ss
slots_by P ss rows e all = down P ss (subst (EachItem (λ r. P r.inc)) (sym e) all) where
  down : (P : ℕ → Type 0) (ss : List Slot) → EachItem (λ r. P r.inc) (rows_in ss) → EachItem (λ s. P s.row.inc) ss
  down P [] all = tt
  down P (s ∷ ss) all = (all.0, down P ss all.1)

-- The index of a slot that isn't the parent's is right with new children behind all rows.
kept_index : (rows : List Row) (p next : ℕ) (ks : List Child) (s : Slot) → IsIndexed rows next s → (s.row.inc ≡ p → ⊥) → IsIndexed (rows ++ child_rows p next ks) (next + length ks) s
kept_index rows p next ks s h differ =
    let low : base_of s.index ≤ next = h.base in
    record {
      base = omega (arith, low);
      kids = h.kids ∙ sym (kids_left s.row.inc rows (child_rows p next ks) (new_others p s.row.inc next ks differ));
      names = λ c. h.names c ∙ ap (option_map (λ r. r.inc)) (sym (child_left s.row.inc c rows (child_rows p next ks) (new_others p s.row.inc next ks differ)));
    }

-- Each row of new children passes the test for its parent.
filter_new : (p next : ℕ) (ks : List Child) → filter (has_parent p) (child_rows p next ks) ≡ child_rows p next ks
filter_new p next [] = refl
filter_new p next (k ∷ ks) =
    ap (λ b. cond b (child_row p next k ∷ filter (has_parent p) (child_rows p (next + 1) ks)) (filter (has_parent p) (child_rows p (next + 1) ks))) ((unsigned_Decides p p).1 refl)
    ∙ ap (λ l. child_row p next k ∷ l) (filter_new p (next + 1) ks)

-- what the new index says
pub record IsNew (x : ChildIndex) (p next : ℕ) (ks : List Child) : Type 0 where
  pub base : x.base ≡ next
  pub kids : kids_at x ≡ incs (child_rows p next ks)
  pub names : (c : ChildName) → named_at x c ≡ child_of (child_rows p next ks) p c

-- The new index of a slot without children is right with the new children behind all rows.
new_index : (rows : List Row) (p next : ℕ) (ks : List Child) (s : Slot) (x : ChildIndex) → s.row.inc ≡ p → NoneHas p rows → IsNew x p next ks → IsIndexed (rows ++ child_rows p next ks) (next + length ks) (indexed_by (Some x) s)
new_index rows p next ks s x own none new = record {
  base = subst (λ n. n ≤ next + length ks) (sym new.base) (least next (length ks));
  kids = new.kids ∙ ap incs (sym (filter_new p next ks)) ∙ sym (kids_right p rows (child_rows p next ks) none) ∙ ap (kids (rows ++ child_rows p next ks)) (sym own);
  names = λ c. new.names c ∙ ap (option_map (λ r. r.inc)) (sym (child_right p c rows (child_rows p next ks) none)) ∙ ap (λ j. child_of (rows ++ child_rows p next ks) j c) (sym own);
} where
  least : (n m : ℕ) → n ≤ n + m
  least n m = omega arith

-- Indexes stay right where declared children are put behind all rows, and their parent gets an index.
pub all_grown : (rows : List Row) (ss news : List Slot) (next p : ℕ) (ks : List Child) (x : ChildIndex) → rows_in ss ≡ rows → IsOrderly rows next → p < next → NoneHas p rows → IsNew x p next ks → rows_in news ≡ child_rows p next ks → EachItem IsBare news → EachItem (IsIndexed rows next) ss → EachItem (IsIndexed (rows ++ child_rows p next ks) (next + length ks)) (edited inc_of p (indexed_by (Some x)) ss ++ news)
all_grown rows ss news next p ks x own o low none new numbered bare all =
    let after : List Row = rows ++ child_rows p next ks in
    each_append (IsIndexed after (next + length ks)) (edited inc_of p (indexed_by (Some x)) ss) news
    (each_zip (λ s t. IsIndexed rows next s → IsIndexed after (next + length ks) t) (IsIndexed rows next) (IsIndexed after (next + length ks)) ss (edited inc_of p (indexed_by (Some x)) ss) (λ s t f h. f h)
    (each_of_edited inc_of (λ s t. IsIndexed rows next s → IsIndexed after (next + length ks) t) (IsIndexed rows next) p (indexed_by (Some x)) ss
    (slots_rise next ss (subst (IncarnationsIncrease next) (sym own) o.increasing)) all
    (λ s h at _. new_index rows p next ks s x (slot_inc ss p s at) none new)
    (λ s h differ _. kept_index rows p next ks s h differ)) all)
    (each_map (λ s. ((next ≤ s.row.inc) × (s.row.inc < next + length ks)) × IsBare s) (IsIndexed after (next + length ks)) news
    (λ s h. bare_index after (next + length ks) s h.1
    (each_append (λ r. has_parent s.row.inc r ≡ false) rows (child_rows p next ks) (none_high rows next s.row.inc o h.0.0)
    (new_others p s.row.inc next ks (λ e. ne_of_lt (up p next s.row.inc low h.0.0) (sym e)))))
    (both (λ s. (next ≤ s.row.inc) × (s.row.inc < next + length ks)) IsBare news
    (slots_by (λ n. (next ≤ n) × (n < next + length ks)) news (child_rows p next ks) numbered (new_high p next ks)) bare)) where
      slot_inc : (zs : List Slot) (i : ℕ) (s : Slot) → slot_of zs i ≡ Some s → s.row.inc ≡ i
      slot_inc zs i s e = (unsigned_Decides s.row.inc i).0 (find-passes (λ z. z.row.inc == i) zs s e)

      up : (a b d : ℕ) → a < b → b ≤ d → a < d
      up a b d h g = omega arith

-- ---- an index that leaves a child out

-- A value that isn't this number is the same where it is none for this number.
pub unless_other : (i : ℕ) (o : Option ℕ) → (o ≡ Some i → ⊥) → unless i o ≡ o
unless_other i None differ = refl
unless_other i (Some k) differ = ap (λ b. cond b None (Some k)) (ne_eqb k i (λ e. differ (ap Some e)))

-- A child that is found by its name lives, with that parent and that name.
found_lives : (rows : List Row) (next i j : ℕ) (c : ChildName) (o : Option Row) → IncarnationsIncrease next rows → find (is_there j c) rows ≡ o → option_map (λ r. r.inc) o ≡ Some i → (r : Row) × (row_of rows i ≡ Some r) × (r.parent ≡ Some j) × (r.name ≡ Some c)
found_lives rows next i j c None increasing e is = absurd (none_some i is)
found_lives rows next i j c (Some r) increasing e is =
    let n : IsNamed rows j c r = named_row rows next j c r increasing e in
    (r, subst (λ k. row_of rows k ≡ Some r) (some_same r.inc i is) n.lives, n.under, n.named)

-- what is found by its name is that child of that parent, and has that name
pub child_is : (rows : List Row) (next i j : ℕ) (c : ChildName) → IncarnationsIncrease next rows → child_of rows j c ≡ Some i → (r : Row) × (row_of rows i ≡ Some r) × (r.parent ≡ Some j) × (r.name ≡ Some c)
child_is rows next i j c increasing e = found_lives rows next i j c (find (is_there j c) rows) increasing refl e

-- Children without one that isn't there are as they were.
gone_kids : (b : Bool) (i : ℕ) (l : List ℕ) → drop_first (λ k. k == i) l ≡ l → l ≡ cond b (drop_first (λ k. k == i) l) l
gone_kids true i l e = sym e
gone_kids false i l e = refl

-- The index of a slot that isn't the parent's stays right where a row is unlinked.
pub unlinked_other : (gone : Bool) (rows : List Row) (next i : ℕ) (s : Slot) → IsOrderly rows next → IsIndexed rows next s → ((r : Row) → row_of rows i ≡ Some r → r.parent ≡ Some s.row.inc → ⊥) → IsUnlinked i gone s s
unlinked_other gone rows next i s o h other = record {
  row = refl;
  marks = refl;
  moniker = refl;
  base = refl;
  kids = gone_kids gone i (kids_of s.index)
      (ap (drop_first (λ k. k == i)) h.kids ∙ sym (filter_without (has_parent s.row.inc) i next rows o.increasing)
      ∙ ap incs (filter_fails (has_parent s.row.inc) i rows (λ r here. has_by s.row.inc r r.parent refl (other r here))) ∙ sym h.kids);
  names = λ c. sym (unless_other i (named_in s.index c) (λ e.
      let q = child_is rows next i s.row.inc c o.increasing (sym (h.names c) ∙ e) in other q.0 q.1 q.2));
}

-- Indexes that are right for rows are so for equal rows and equal slots.
pub each_at : (rows others : List Row) (next : ℕ) (ss ts : List Slot) → others ≡ rows → ts ≡ ss → EachItem (IsIndexed rows next) ss → EachItem (IsIndexed others next) ts
each_at rows others next ss ts e f all = subst (λ l. EachItem (IsIndexed l next) ts) (sym e) (subst (EachItem (IsIndexed rows next)) (sym f) all)
