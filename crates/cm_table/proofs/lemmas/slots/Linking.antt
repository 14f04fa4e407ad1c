-- The index of one slot is taken out, changed and put back.
use Rattle.std.proofs.Common.{◌≡◌, ℕ, ◌<◌, ◌+◌, List, [], ◌∷◌, ◌++◌, map, Bool, true, false, cond, ◌==◌, ◌&&◌, Option, Some, None, IsSome, is_some, find, filter, refl, sym, ap, ◌∙◌, subst, arith, ne_eqb}
use Rattle.std.specs.Prelude.{option_map, option_and_then, OnOk, OnErr, Result, Ok, Err}
use Rattle.std.specs.Option.{option_eq}
use Rattle.cm_names.specs.declared.child.ChildName.{ChildName}
use Rattle.cm_facts.proofs.Options.{is_some_true}
use Rattle.cm_decl.specs.declared.node.Node.TheVariants.{Child}
use Rattle.cm_decl.specs.Same.{same_child}
use Rattle.cm_decl.proofs.lemmas.Sameness.{same_node-refl}
use Rattle.cm_world.specs.declared.row.Row.{Row}
use Rattle.cm_world.specs.Edits.{drop_first}
use Rattle.cm_world.specs.Rows.{row_of, has_parent}
use Rattle.cm_world.specs.Sound.{IncarnationsIncrease}
use Rattle.cm_world.proofs.lemmas.trees.Finding.{some_same, none_some, find-passes}
use Rattle.cm_table.specs.declared.slot.Slot.{Slot}
use Rattle.cm_table.specs.declared.slot.ChildIndex.{ChildIndex}
use Rattle.cm_table.specs.Keys.{EachItem, EachOf, Increasing}
use Rattle.cm_table.specs.Slots.{inc_of, slot_of, rows_in, indexed_by, kids_of, named_in, base_of, IsIndexed, AreOrderly}
use Rattle.cm_table.specs.Links.{unless, Rises, IsSame, IsLinked, IsUnlinked}
use Rattle.cm_trees.proofs.rows.Rows.{is_some_by}
use Rattle.cm_table.proofs.lemmas.lists.EachItem.{each_find, each_same, each_of_edited}
use Rattle.cm_table.proofs.lemmas.indexes.Naming.{same_above}
use Rattle.cm_table.proofs.lemmas.lists.Editing.{edited}
use Rattle.cm_table.proofs.lemmas.slots.Rowed.{row_of-slots, some_rows, rows_indexed, indexed_twice}
use Rattle.cm_table.proofs.lemmas.indexes.Children.{incs, kids}
use Rattle.cm_table.proofs.lemmas.indexes.Indexing.{child_is, unlinked_other}

-- What holds of every slot, since nothing is asked of it.
Always : Slot → Type 0
Always s = Unit {0}

-- What holds of every slot holds of each slot of a list.
always : (ss : List Slot) → EachItem Always ss
unfolding Always
always [] = tt
always (s ∷ ss) = (tt, always ss)

-- what became of the slots: index x1 was taken out of that of p, and x2 put there
pub record IsSwapped (ss mid ts : List Slot) (p : ℕ) (x1 x2 : Option ChildIndex) : Type 0 where
  pub rise : Increasing inc_of ss
  pub out : mid ≡ edited inc_of p (indexed_by None) ss
  pub was : (s : Slot) → slot_of ss p ≡ Some s → x1 ≡ s.index
  pub back : ts ≡ edited inc_of p (indexed_by x2) mid

-- An index taken out of a slot, and another put back, are one change of that slot's index.
swapped : (ss mid ts : List Slot) (p : ℕ) (x1 x2 : Option ChildIndex) → IsSwapped ss mid ts p x1 x2 → ts ≡ edited inc_of p (indexed_by x2) ss
swapped ss mid ts p x1 x2 w = w.back ∙ ap (edited inc_of p (indexed_by x2)) w.out ∙ indexed_twice p None x2 ss

-- The slot that is found by an incarnation has it.
found_inc : (ss : List Slot) (p : ℕ) (s : Slot) → slot_of ss p ≡ Some s → (s.row.inc == p) ≡ true
found_inc ss p s e = find-passes (λ z. z.row.inc == p) ss s e

-- A slot with another incarnation fails the test for that one.
missed_inc : (s : Slot) (p : ℕ) → (s.row.inc ≡ p → ⊥) → (s.row.inc == p) ≡ false
missed_inc s p differ = ne_eqb s.row.inc p differ

-- ---- a child more

-- Where an index gets one child more, and is put back, that child is linked in the slots.
pub linked : (ss mid ts : List Slot) (p : ℕ) (name : ChildName) (i : ℕ) (x1 x2 : Option ChildIndex) → IsSwapped ss mid ts p x1 x2 → base_of x2 ≡ base_of x1 → kids_of x2 ≡ kids_of x1 ++ i ∷ [] → ((c : ChildName) → named_in x2 c ≡ cond (same_child name c) (Some i) (named_in x1 c)) → EachOf (IsLinked p name i) ss ts
unfolding Always
linked ss mid ts p name i x1 x2 w base kids names =
    subst (EachOf (IsLinked p name i) ss) (sym (swapped ss mid ts p x1 x2 w))
    (each_of_edited inc_of (IsLinked p name i) Always p (indexed_by x2) ss w.rise (always ss) (λ s _ at. here s at) (λ s _ differ. other s differ)) where
      here : (s : Slot) → slot_of ss p ≡ Some s → IsLinked p name i s (indexed_by x2 s)
      here s at = record {
        row = refl;
        marks = refl;
        moniker = refl;
        base = base ∙ ap base_of (w.was s at);
        kids = kids ∙ ap (λ x. kids_of x ++ i ∷ []) (w.was s at) ∙ sym (ap (λ b. cond b (kids_of s.index ++ i ∷ []) (kids_of s.index)) (found_inc ss p s at));
        names = λ c. names c ∙ ap (λ x. cond (same_child name c) (Some i) (named_in x c)) (w.was s at)
            ∙ sym (ap (λ b. cond (b && same_child name c) (Some i) (named_in s.index c)) (found_inc ss p s at));
      }

      other : (s : Slot) → (s.row.inc ≡ p → ⊥) → IsLinked p name i s s
      other s differ = record {
        row = refl;
        marks = refl;
        moniker = refl;
        base = refl;
        kids = sym (ap (λ b. cond b (kids_of s.index ++ i ∷ []) (kids_of s.index)) (missed_inc s p differ));
        names = λ c. sym (ap (λ b. cond (b && same_child name c) (Some i) (named_in s.index c)) (missed_inc s p differ));
      }

-- Where an index is taken out, and one that says the same is put back, all slots say the same.
pub same_said : (ss mid ts : List Slot) (p : ℕ) (x1 x2 : Option ChildIndex) → IsSwapped ss mid ts p x1 x2 → base_of x2 ≡ base_of x1 → kids_of x2 ≡ kids_of x1 → ((c : ChildName) → named_in x2 c ≡ named_in x1 c) → EachOf IsSame ss ts
unfolding Always
same_said ss mid ts p x1 x2 w base kids names =
    subst (EachOf IsSame ss) (sym (swapped ss mid ts p x1 x2 w))
    (each_of_edited inc_of IsSame Always p (indexed_by x2) ss w.rise (always ss)
    (λ s _ at. record { row = refl; marks = refl; moniker = refl; base = base ∙ ap base_of (w.was s at); kids = kids ∙ ap kids_of (w.was s at); names = λ c. names c ∙ ap (λ x. named_in x c) (w.was s at) })
    (λ s _ differ. record { row = refl; marks = refl; moniker = refl; base = refl; kids = refl; names = λ c. refl }))

-- ---- a child less

-- The parent that is read of a slot is the parent of its row.
pub parent_of_row : (o : Option Slot) (u : Option ℕ) → option_and_then (λ s. s.row.parent) o ≡ u → (r : Row) → option_map (λ s. s.row) o ≡ Some r → r.parent ≡ u
parent_of_row None u e r h = absurd (none_some r h)
parent_of_row (Some s) u e r h = ap (λ (z : Row). z.parent) (sym (some_same s.row r h)) ∙ e

-- Where the index of a row's parent is put back without it, that row is unlinked in the slots.
pub unlinked : (gone : Bool) (ss mid ts : List Slot) (p i : ℕ) (x1 x2 : Option ChildIndex) → AreOrderly ss → IsSwapped ss mid ts p x1 x2 → option_and_then (λ s. s.row.parent) (slot_of ss i) ≡ Some p → base_of x2 ≡ base_of x1 → kids_of x2 ≡ cond gone (drop_first (λ k. k == i) (kids_of x1)) (kids_of x1) → ((c : ChildName) → named_in x2 c ≡ unless i (named_in x1 c)) → EachOf (IsUnlinked i gone) ss ts
unlinked gone ss mid ts p i x1 x2 a w up base kids names =
    subst (EachOf (IsUnlinked i gone) ss) (sym (swapped ss mid ts p x1 x2 w))
    (each_of_edited inc_of (IsUnlinked i gone) (IsIndexed (rows_in ss) a.next) p (indexed_by x2) ss w.rise a.indexed
    (λ s h at. record {
      row = refl;
      marks = refl;
      moniker = refl;
      base = base ∙ ap base_of (w.was s at);
      kids = kids ∙ ap (λ x. cond gone (drop_first (λ k. k == i) (kids_of x)) (kids_of x)) (w.was s at);
      names = λ c. names c ∙ ap (λ x. unless i (named_in x c)) (w.was s at);
    })
    (λ s h differ. unlinked_other gone (rows_in ss) a.next i s a.orderly h (λ r here under.
    differ (sym (some_same p s.row.inc (sym (parent_of_row (slot_of ss i) (Some p) up r (sym (row_of-slots ss i) ∙ here)) ∙ under))))))

-- Where a row has no parent, no index changes when it is unlinked.
pub unlinked_none : (gone : Bool) (ss : List Slot) (i : ℕ) → AreOrderly ss → option_and_then (λ s. s.row.parent) (slot_of ss i) ≡ None → EachOf (IsUnlinked i gone) ss ss
unlinked_none gone ss i a none =
    each_same (IsUnlinked i gone) (IsIndexed (rows_in ss) a.next) ss
    (λ s h. unlinked_other gone (rows_in ss) a.next i s a.orderly h (λ r here under.
    none_some s.row.inc (sym (parent_of_row (slot_of ss i) None none r (sym (row_of-slots ss i) ∙ here)) ∙ under))) a.indexed

-- ---- what is known of the index that was taken out

-- Where a slot's row has a parent, the row is there and has that parent.
parent_row : (o : Option Slot) (p : ℕ) → option_and_then (λ s. s.row.parent) o ≡ Some p → (r : Row) × (option_map (λ s. s.row) o ≡ Some r) × (r.parent ≡ Some p)
parent_row None p e = absurd (none_some p e)
parent_row (Some s) p e = (s.row, refl, e)

-- The slot of a row's parent is there in orderly slots.
pub parent_lives : (ss : List Slot) (i p : ℕ) → AreOrderly ss → option_and_then (λ s. s.row.parent) (slot_of ss i) ≡ Some p → (s : Slot) × (slot_of ss p ≡ Some s)
parent_lives ss i p a up =
    let r = parent_row (slot_of ss i) p up in
    let q = (a.orderly.parents i p r.0 (row_of-slots ss i ∙ r.1) r.2).0 in
    is_some_true (slot_of ss p) (sym (some_rows ss p) ∙ is_some_by (row_of (rows_in ss) p) q.row q.lives)

-- The name of a slot's row is the name that the slot tells.
name_of_row : (o : Option Slot) (c : ChildName) (r : Row) → option_map (λ s. s.row) o ≡ Some r → r.name ≡ Some c → option_and_then (λ s. s.row.name) o ≡ Some c
name_of_row None c r h e = absurd (none_some r h)
name_of_row (Some s) c r h e = ap (λ (z : Row). z.name) (some_same s.row r h) ∙ e

-- only its own name leads to a row
pub own_name : (ss mid : List Slot) (i p : ℕ) (x1 : Option ChildIndex) (name : Option ChildName) → AreOrderly ss → option_and_then (λ s. s.row.parent) (slot_of ss i) ≡ Some p → mid ≡ edited inc_of p (indexed_by None) ss → ((s : Slot) → slot_of ss p ≡ Some s → x1 ≡ s.index) → name ≡ option_and_then (λ s. s.row.name) (slot_of mid i) → (c : ChildName) → named_in x1 c ≡ Some i → option_eq same_child name (Some c) ≡ true
own_name ss mid i p x1 name a up out was own c e =
    let parent = parent_lives ss i p a up in
    let h : IsIndexed (rows_in ss) a.next parent.0 = each_find (IsIndexed (rows_in ss) a.next) (λ z. z.row.inc == p) ss parent.0 a.indexed parent.1 in
    let q = child_is (rows_in ss) a.next i parent.0.row.inc c a.orderly.increasing (sym (h.names c) ∙ ap (λ x. named_in x c) (sym (was parent.0 parent.1)) ∙ e) in
    let rows : rows_in mid ≡ rows_in ss = ap rows_in out ∙ rows_indexed p None ss in
    let found : option_map (λ s. s.row) (slot_of mid i) ≡ Some q.0 = sym (row_of-slots mid i) ∙ ap (λ l. row_of l i) rows ∙ q.1 in
    ap (λ o. option_eq same_child o (Some c)) (own ∙ name_of_row (slot_of mid i) c q.0 found q.3) ∙ same_node-refl (Child c)

-- ---- the children rise

-- Something is there exactly where what is made of it is.
some_mapped : {A B : Type 0} (f : A → B) (o : Option A) → is_some (option_map f o) ≡ is_some o
some_mapped f None = refl
some_mapped f (Some x) = refl

-- An incarnation is found where its row is, if so in the rest.
find_incs_by : (t : Bool) (x : Row) (o : Option Row) (p : Option ℕ) → p ≡ option_map (λ r. r.inc) o → cond t (Some x.inc) p ≡ option_map (λ r. r.inc) (cond t (Some x) o)
find_incs_by true x o p e = refl
find_incs_by false x o p e = e

-- An incarnation is found among those of the rows exactly where its row is.
find_incs : (rows : List Row) (j : ℕ) → find (λ k. k == j) (incs rows) ≡ option_map (λ r. r.inc) (row_of rows j)
find_incs [] j = refl
find_incs (x ∷ xs) j = find_incs_by (x.inc == j) x (row_of xs j) (find (λ k. k == j) (incs xs)) (find_incs xs j)

-- A row found among those left by a test was there before, if so in the rest.
some_filtered_by : (u t : Bool) (x : Row) (o : Option Row) (l : List Row) (j : ℕ) → (x.inc == j) ≡ t → (IsSome (row_of l j) → IsSome o) → IsSome (row_of (cond u (x ∷ l) l) j) → IsSome (cond t (Some x) o)
some_filtered_by true true x o l j same later h = refl
some_filtered_by true false x o l j same later h = later (subst (λ t. IsSome (cond t (Some x) (row_of l j))) same h)
some_filtered_by false true x o l j same later h = refl
some_filtered_by false false x o l j same later h = later h

-- A row found among those left by a test was found among all.
some_filtered : (q : Row → Bool) (rows : List Row) (j : ℕ) → IsSome (row_of (filter q rows) j) → IsSome (row_of rows j)
some_filtered q [] j h = h
some_filtered q (x ∷ xs) j h = some_filtered_by (q x) (x.inc == j) x (row_of xs j) (filter q xs) j refl (some_filtered q xs j) h

-- Incarnations increase with one more that is below them, if it is kept.
increasing_by : (u : Bool) (x : Row) (l : List Row) → ((j : ℕ) → IsSome (find (λ k. k == j) (incs l)) → x.inc < j) → Increasing (λ (k : ℕ). k) (incs l) → Increasing (λ (k : ℕ). k) (incs (cond u (x ∷ l) l))
increasing_by true x l up later = (up, later)
increasing_by false x l up later = later

-- Where incarnations increase, those of the rows that pass a test do.
pub kids_rise : (q : Row → Bool) (next : ℕ) (rows : List Row) → IncarnationsIncrease next rows → Increasing (λ (k : ℕ). k) (incs (filter q rows))
kids_rise q next [] increasing = tt
kids_rise q next (x ∷ xs) increasing =
    increasing_by (q x) x (filter q xs)
    (λ j h. increasing.0.1 j (some_filtered q xs j (sym (ap is_some (find_incs (filter q xs) j) ∙ some_mapped (λ (r : Row). r.inc) (row_of (filter q xs) j)) ∙ h)))
    (kids_rise q next xs increasing.1)

-- A number that is found is found with a base added, among numbers that have it added.
above_some : (b : ℕ) (ks : List ℕ) (j : ℕ) → IsSome (find (λ k. k == j) ks) → IsSome (find (λ k. k == b + j) (map (λ k. b + k) ks))
above_some b [] j h = h
above_some b (k ∷ ks) j h =
    subst (λ t. IsSome (cond t (Some (b + k)) (find (λ n. n == b + j) (map (λ n. b + n) ks)))) (same_above b k j) (by (k == j) (above_some b ks j) h) where
      by : (t : Bool) → (IsSome (find (λ n. n == j) ks) → IsSome (find (λ n. n == b + j) (map (λ n. b + n) ks))) → IsSome (cond t (Some k) (find (λ n. n == j) ks)) → IsSome (cond t (Some (b + k)) (find (λ n. n == b + j) (map (λ n. b + n) ks)))
      by true later h = refl
      by false later h = later h

-- Numbers increase where they do with a base added.
increasing_above : (b : ℕ) (ks : List ℕ) → Increasing (λ (k : ℕ). k) (map (λ k. b + k) ks) → Increasing (λ (k : ℕ). k) ks
increasing_above b [] r = tt
increasing_above b (k ∷ ks) r = (λ j h. less b k j (r.0 (b + j) (above_some b ks j h)), increasing_above b ks r.1) where
  less : (b k j : ℕ) → b + k < b + j → k < j
  less b k j h = omega arith

-- An index whose children's incarnations increase lists them in order.
rises_by : (x : Option ChildIndex) (l : List ℕ) → kids_of x ≡ l → Increasing (λ (k : ℕ). k) l → Rises x
rises_by None l e r = tt
rises_by (Some x) l e r = increasing_above x.base x.kids.items (subst (Increasing (λ (k : ℕ). k)) (sym e) r)

-- An index that is that of its row's children lists them in increasing order.
pub index_rises : (rows : List Row) (next : ℕ) (s : Slot) → IncarnationsIncrease next rows → IsIndexed rows next s → Rises s.index
index_rises rows next s increasing h = rises_by s.index (kids rows s.row.inc) h.kids (kids_rise (has_parent s.row.inc) next rows increasing)

-- The index that is taken out of a parent's slot lists the children in increasing order.
pub taken_rises : (ss : List Slot) (i p : ℕ) (x1 : Option ChildIndex) → AreOrderly ss → option_and_then (λ s. s.row.parent) (slot_of ss i) ≡ Some p → ((s : Slot) → slot_of ss p ≡ Some s → x1 ≡ s.index) → Rises x1
taken_rises ss i p x1 a up was =
    let parent = parent_lives ss i p a up in
    let h : IsIndexed (rows_in ss) a.next parent.0 = each_find (IsIndexed (rows_in ss) a.next) (λ z. z.row.inc == p) ss parent.0 a.indexed parent.1 in
    subst Rises (sym (was parent.0 parent.1)) (index_rises (rows_in ss) a.next parent.0 a.orderly.increasing h)

-- ---- two facts under a result

-- What follows from two facts holds where both hold of a result without a fault.
pub on_ok : {A E P Q R : Type 0} (r : Result A E) → (P → Q → R) → OnOk r P → OnOk r Q → OnOk r R
on_ok (Ok v) f p q = f p q
on_ok (Err e) f p q = tt

-- What follows from two facts holds where both hold of a result that is a fault.
pub on_err : {A E P Q R : Type 0} (r : Result A E) → (P → Q → R) → OnErr r P → OnErr r Q → OnErr r R
on_err (Ok v) f p q = tt
on_err (Err e) f p q = f p q
