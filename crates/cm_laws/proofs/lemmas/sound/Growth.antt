-- More rows, which leave the tree sound: the row of a new child, and those of the children of a declaration.
use Rattle.std.proofs.Common.{◌≡◌, ℕ, ◌+◌, ◌≤◌, List, [], ◌∷◌, ◌++◌, Bool, true, false, cond, not, ◌&&◌, ◌==◌, nat_eq, true≢false, length, Option, Some, None, is_some, is_none, option_and_then, IsTrue, refl, sym, ◌∙◌, ap, subst, arith, inl, inr, ◌⊎◌}
use Rattle.std.specs.List.{count_by, list_all}
use Rattle.std.specs.Option.{option_eq}
use Rattle.std.specs.Cmp.{unsigned_Decides, first_so, second_so}
use Rattle.std.proofs.lemmas.List.Sums.{sum_by-append}
use Rattle.std.proofs.lemmas.Bool.{not-true}
use Rattle.cm_names.specs.declared.child.ChildName.{ChildName}
use Rattle.cm_facts.proofs.Booleans.{true_and_false}
use Rattle.cm_facts.proofs.Options.{option_eq_some}
use Rattle.cm_decl.specs.declared.decl.Decl.{Decl}
use Rattle.cm_decl.specs.declared.rows.Child.{Child}
use Rattle.cm_decl.specs.declared.rows.Give.{Give}
use Rattle.cm_decl.specs.Graph.{static_name, StrongOn}
use Rattle.cm_decl.specs.Same.{same_child}
use Rattle.cm_decl.specs.Reach.{NoCycle}
use Rattle.cm_decl.specs.Valid.{IsValid}
use Rattle.cm_decl.proofs.lemmas.Sameness.{never, same_child_exact}
use Rattle.cm_world.specs.declared.row.Row.{Row}
use Rattle.cm_world.specs.declared.action.Outcome.TheVariants as outcome
use Rattle.cm_world.specs.declared.action.Finish.TheVariants as finish
use Rattle.cm_world.specs.Rows.{row_of, decl_of, child_of, has_parent, has_name}
use Rattle.cm_world.specs.Create.{dynamic_name, dynamic_with, created_row}
use Rattle.cm_world.specs.End.{changed, set_decl, set_pending, child_row, child_rows, rows_by}
use Rattle.cm_world.specs.Sound.{IsOrderly, IsWellShut, is_static_child, HasStatic, IsSound}
use Rattle.cm_world.proofs.lemmas.trees.Finding.{none_some, some_same, find-all}
use Rattle.cm_trees.proofs.rows.Rows.{row_of-changed}
use Rattle.cm_trees.proofs.rows.Orderly.{orderly_changed}
use Rattle.cm_trees.proofs.rows.Growth.{childless}
use Rattle.cm_trees.proofs.rows.Adding.{orderly_added}
use Rattle.cm_trees.proofs.trees.Trees.{all_rows, not_true, not_flip}
use Rattle.cm_laws.proofs.lemmas.actions.Tasks.{by_test, find_split}
use Rattle.cm_laws.proofs.lemmas.sound.Rows.{Follows, follows_itself, follows_more, Kept, kept}
use Rattle.cm_laws.proofs.lemmas.sound.Changes.{count-cons, AreClosedWell, still_shut, IsFair, closed_changed, KeepsStatic, is_static_name, static_changed, places_same}
use Rattle.cm_laws.proofs.lemmas.levels.Acyclic.{acyclic_resolved, acyclic_created}
use Rattle.cm_trees.proofs.rows.Taking.{keeps_taken, orderly_taken}

-- ---- rows that come

-- a row without a declaration and a pending action, that is neither doomed nor shut
pub record IsNew (r : Row) : Type 0 where
  pub undeclared : r.decl ≡ None
  pub idle : r.pending ≡ None
  pub undoomed : r.doomed ≡ false
  pub unshut : r.shut ≡ false

-- rows that come are new, and have new incarnations, from next on
pub record AreNew (next : ℕ) (kids : List Row) : Type 0 where
  pub new : (i : ℕ) (r : Row) → row_of kids i ≡ Some r → IsNew r
  pub fresh : (i : ℕ) (r : Row) → row_of kids i ≡ Some r → next ≤ i

module _ (rows kids : List Row) (next n : ℕ) (was : IsOrderly rows next) (is : IsOrderly (rows ++ kids) n) (new : AreNew next kids) (well : AreClosedWell rows) where
  -- The rows with the new ones follow those before.
  follows : Follows rows (rows ++ kids) next
  follows = follows_more rows rows kids next (follows_itself rows next) (λ i r here. (r, here)) new.fresh

  -- A doomed row, old or new, is closing.
  doomed_by : (i : ℕ) (s : Row) → (row_of rows i ≡ Some s) ⊎ (row_of kids i ≡ Some s) → s.doomed ≡ true → s.closing ≡ true
  doomed_by i s (inl old) doomed = well.doomed i s old doomed
  doomed_by i s (inr kid) doomed = absurd (true≢false (sym doomed ∙ (new.new i s kid).undoomed))

  -- A shut row, old or new, was shut down in order.
  shut_by : (i : ℕ) (s : Row) → row_of (rows ++ kids) i ≡ Some s → (row_of rows i ≡ Some s) ⊎ (row_of kids i ≡ Some s) → s.shut ≡ true → IsWellShut (rows ++ kids) s
  shut_by i s lives (inl old) shut =
      still_shut rows (rows ++ kids) next n next was is follows well i s s old lives refl shut
  shut_by i s lives (inr kid) shut = absurd (true≢false (sym shut ∙ (new.new i s kid).unshut))

  -- With new rows behind the others, doomed rows are closing, and shut rows are well shut.
  pub closed_more : AreClosedWell (rows ++ kids)
  closed_more = record {
    doomed = λ i s lives. doomed_by i s (find_split (λ r. r.inc == i) rows kids s lives);
    shut = λ i s lives. shut_by i s lives (find_split (λ r. r.inc == i) rows kids s lives);
  }

-- ---- how many there are

-- Of two lists of rows as many pass a test as of the one and of the other.
pub count_more : (q : Row → Bool) (xs ys : List Row) → count_by q (xs ++ ys) ≡ count_by q xs + count_by q ys
count_more q xs ys = sum_by-append (λ x. cond (q x) 1 0) xs ys

-- Where the first fails and none of the rest passes, none passes.
no_more : (q : Row → Bool) (x : Row) (xs : List Row) → q x ≡ false → count_by q xs ≡ 0 → count_by q (x ∷ xs) ≡ 0
no_more q x xs here rest = count-cons q x xs ∙ ap (λ b. cond b 1 0 + count_by q xs) here ∙ omega (arith, rest)

-- none passes where all pass a test that goes against this one
pub count_none : (q t : Row → Bool) (xs : List Row) → ((x : Row) → IsTrue (t x) → q x ≡ false) → IsTrue (list_all t xs) → count_by q xs ≡ 0
count_none q t [] against all = refl
count_none q t (x ∷ xs) against all =
    no_more q x xs (against x (first_so (t x) (list_all t xs) all)) (count_none q t xs against (second_so (t x) (list_all t xs) all))

-- a name that is found among the declared ones has no collection
pub static_named : (o : Option ChildName) (name : List ℕ) → IsTrue (option_eq same_child o (Some (static_name name))) → IsTrue (is_static_name o)
static_named None name h = never h
static_named (Some c) name h =
    subst (λ (z : ChildName). IsTrue (is_none z.coll)) (sym (same_child_exact c (static_name name) h)) refl

-- Two tests aren't both so, where the second gives a third that can't be so with the first.
both : (a b c : Bool) → (IsTrue b → IsTrue c) → IsTrue (not (a && c)) → (a && b) ≡ false
both false b c more h = refl
both true false c more h = refl
both true true c more h = true_and_false c (more refl) (not-true c h)

-- a row that is no child of p by such a name is none by a given one
not_named : (p : ℕ) (name : List ℕ) (r : Row) → IsTrue (not (is_static_child p r)) → (has_parent p r && has_name (static_name name) r) ≡ false
not_named p name r h =
    both (has_parent p r) (has_name (static_name name) r) (is_static_name r.name) (static_named r.name name) h

-- rows that aren't children of p by static names change nothing of those
module _ (rows kids : List Row) (p : ℕ) (others : IsTrue (list_all (λ r. not (is_static_child p r)) kids)) where
  -- Rows that are no declared children of a row add none to its children of a declared name.
  pub none_more : (name : List ℕ) → count_by (λ r. has_parent p r && has_name (static_name name) r) (rows ++ kids) ≡ count_by (λ r. has_parent p r && has_name (static_name name) r) rows
  none_more name =
      let q : Row → Bool = λ r. has_parent p r && has_name (static_name name) r in
      let none : count_by q kids ≡ 0 = count_none q (λ r. not (is_static_child p r)) kids (not_named p name) others in
      count_more q rows kids ∙ ap (λ n. count_by q rows + n) none ∙ omega arith

  -- A declared child, old or new, isn't doomed and was given nothing.
  kept_by : (d : Decl) → HasStatic rows p d → (i : ℕ) (s : Row) → (row_of rows i ≡ Some s) ⊎ (row_of kids i ≡ Some s) → IsTrue (is_static_child p s) → (s.doomed ≡ false) × (s.gives ≡ [])
  kept_by d was i s (inl old) static = was.kept i s old static
  kept_by d was i s (inr kid) static =
      true_and_false (is_static_child p s) static (not-true (is_static_child p s) (find-all (λ r. r.inc == i) (λ r. not (is_static_child p r)) kids s others kid))

  -- The declared children of a row stand as declared with more rows that are none of them.
  pub static_more : (d : Decl) → HasStatic rows p d → HasStatic (rows ++ kids) p d
  static_more d was = record {
    one_each = λ name. none_more name ∙ was.one_each name;
    kept = λ i s lives. kept_by d was i s (find_split (λ r. r.inc == i) rows kids s lives);
  }

-- ---- a child that is created

module _ (next p : ℕ) (coll name url : List ℕ) (gives : List Give) where
  -- The row of the new child.
  abbrev child : Row
  child = created_row next p coll name url gives

  -- The row that is found at the end is that of the new child.
  last_by : (t : Bool) (i : ℕ) (r : Row) → (next == i) ≡ t → cond t (Some child) None ≡ Some r → (next ≡ i) × (child ≡ r)
  last_by true i r test e = ((unsigned_Decides next i).0 test, some_same child r e)
  last_by false i r test e = absurd (none_some r e)

  -- The row of a child that is created is new, and has the next incarnation.
  pub created_new : AreNew next (child ∷ [])
  created_new = record {
    new = λ i r e. subst IsNew (last_by (next == i) i r refl e).1 (record { undeclared = refl; idle = refl; undoomed = refl; unshut = refl });
    fresh = λ i r e. let same : next ≡ i = (last_by (next == i) i r refl e).0 in omega arith;
  }

  -- A row in a collection is no declared child, whatever its parent is.
  collected : (b : Bool) → IsTrue (not (b && false) && true)
  collected true = refl
  collected false = refl

  -- A row that has a declaration, old or the new one, is an old one.
  old_or_new : (rows : List Row) (i : ℕ) (r : Row) (d : Decl) → r.decl ≡ Some d → (row_of rows i ≡ Some r) ⊎ (row_of (child ∷ []) i ≡ Some r) → row_of rows i ≡ Some r
  old_or_new rows i r d declared (inl old) = old
  old_or_new rows i r d declared (inr new) =
      absurd (none_some d (ap (λ z. z.decl) (last_by (next == i) i r refl new).1 ∙ declared))

  -- the tree stays sound with it
  pub sound_created : (rows : List Row) (d : Decl) → IsSound rows next → decl_of rows p ≡ Some d → child_of rows p (dynamic_name coll name) ≡ None → NoCycle (StrongOn d (dynamic_with rows p (dynamic_name coll name) gives)) → IsSound (rows ++ child ∷ []) (next + 1)
  sound_created rows d sound found unused acyclic =
      let orderly : IsOrderly (rows ++ child ∷ []) (next + 1) = orderly_added rows next p (dynamic_name coll name) url gives sound.orderly (ap is_some found) unused in
      let well : AreClosedWell (rows ++ child ∷ []) = closed_more rows (child ∷ []) next (next + 1) sound.orderly orderly created_new (record { doomed = sound.doomed; shut = sound.shut }) in
      record {
        orderly = orderly;
        acyclic = acyclic_created rows next p coll name url gives d sound found unused acyclic;
        doomed = well.doomed;
        shut = well.shut;
        static = λ i r e lives declared.
            static_more rows (child ∷ []) i (collected (has_parent i child)) e
            (sound.static i r e (old_or_new rows i r e declared (find_split (λ s. s.inc == i) rows (child ∷ []) r lives)) declared);
      }

-- ---- the children of a declaration

module _ (p : ℕ) where
  -- such a row: it is that of a child, and has a new incarnation
  kid_by : (t : Bool) (n i : ℕ) (k : Child) (o : Option Row) (s : Row) → (n == i) ≡ t → (o ≡ Some s → (n + 1 ≤ i) × ((k : Child) × (s ≡ child_row p i k))) → cond t (Some (child_row p n k)) o ≡ Some s → (n ≤ i) × ((k : Child) × (s ≡ child_row p i k))
  kid_by true n i k o s test more e =
      let same : n ≡ i = (unsigned_Decides n i).0 test in
      (omega arith, (k, sym (some_same (child_row p n k) s e) ∙ ap (λ m. child_row p m k) same))
  kid_by false n i k o s test more e =
      let rest : (n + 1 ≤ i) × ((k : Child) × (s ≡ child_row p i k)) = more e in
      let high : n + 1 ≤ i = rest.0 in
      (omega arith, rest.1)

  -- A row that comes with a declaration is that of a declared child, with a new incarnation.
  pub kid_found : (n : ℕ) (ks : List Child) (i : ℕ) (s : Row) → row_of (child_rows p n ks) i ≡ Some s → (n ≤ i) × ((k : Child) × (s ≡ child_row p i k))
  kid_found n [] i s e = absurd (none_some s e)
  kid_found n (k ∷ ks) i s e =
      kid_by (n == i) n i k (row_of (child_rows p (n + 1) ks) i) s refl (kid_found (n + 1) ks i s) e

  -- The rows that come with a declaration are new, and have new incarnations.
  pub kids_new : (n : ℕ) (ks : List Child) → AreNew n (child_rows p n ks)
  kids_new n ks = record {
    new = λ i r e. let found : (n ≤ i) × ((k : Child) × (r ≡ child_row p i k)) = kid_found n ks i r e in
        subst IsNew (sym found.1.1) (record { undeclared = refl; idle = refl; undoomed = refl; unshut = refl });
    fresh = λ i r e. (kid_found n ks i r e).0;
  }

  -- they are no children of others
  kids_others : (j n : ℕ) (ks : List Child) → (p ≡ j → ⊥) → IsTrue (list_all (λ r. not (is_static_child j r)) (child_rows p n ks))
  kids_others j n [] differ = refl
  kids_others j n (k ∷ ks) differ =
      let apart : nat_eq p j ≡ false = not_true (nat_eq p j) (λ same. differ ((unsigned_Decides p j).0 same)) in
      rw apart (kids_others j (n + 1) ks differ)

  -- there is one for each child that is declared
  count_kids : (n : ℕ) (name : List ℕ) (ks : List Child) → count_by (λ r. has_parent p r && has_name (static_name name) r) (child_rows p n ks) ≡ count_by (λ k. same_child (static_name k.name) (static_name name)) ks
  count_kids n name [] = refl
  count_kids n name (k ∷ ks) =
      let own : nat_eq p p ≡ true = (unsigned_Decides p p).1 refl in
      count-cons (λ r. has_parent p r && has_name (static_name name) r) (child_row p n k) (child_rows p (n + 1) ks)
      ∙ ap (λ b. cond (b && same_child (static_name k.name) (static_name name)) 1 0 + count_by (λ r. has_parent p r && has_name (static_name name) r) (child_rows p (n + 1) ks)) own
      ∙ ap (λ m. cond (same_child (static_name k.name) (static_name name)) 1 0 + m) (count_kids (n + 1) name ks)
      ∙ sym (count-cons (λ k. same_child (static_name k.name) (static_name name)) k ks)

-- ---- a resolve

module _ (rows : List Row) (next i : ℕ) (url : List ℕ) (d : Decl) (r : Row) (sound : IsSound rows next) (lives : row_of rows i ≡ Some r) (unshut : r.shut ≡ false) (unresolved : r.decl ≡ None) (valid : IsValid d) where
  -- The row with the declaration that it gets.
  abbrev take : Row → Row
  take s = set_decl url d (set_pending None s)

  -- The rows of the declared children.
  abbrev kids : List Row
  kids = child_rows i next d.children

  -- The rows with the one resolved, still without its children.
  abbrev now : List Row
  now = changed i take rows

  -- The row has no declaration before the resolve.
  none_decl : decl_of rows i ≡ None
  none_decl = ap (option_and_then (λ s. s.decl)) lives ∙ unresolved

  -- The rows with the resolved one and its children are orderly.
  orderly : IsOrderly (now ++ kids) (next + length d.children)
  orderly = orderly_taken i next url d rows sound.orderly (ap is_some lives) none_decl valid

  -- The rows with the resolved one, without its children, are orderly.
  orderly_now : IsOrderly now next
  orderly_now = orderly_changed take (keeps_taken url d valid) i next rows sound.orderly

  -- A resolve is a change that leaves marks and shut rows as they should be.
  fair : IsFair rows i take
  fair = record {
    inc = λ s. refl;
    lasts = λ s. record { parent = refl; closing = λ h. h; doomed = λ h. h; shut = λ h. h };
    closes = λ s here doomed. sound.doomed i s here doomed;
    shuts = λ s here shut. absurd (true≢false (sym shut ∙ ap (λ z. z.shut) (some_same s r (sym here ∙ lives)) ∙ unshut));
  }

  -- A resolve keeps places and offers, and dooms no declared child.
  statics : KeepsStatic rows i take
  statics = record {
    inc = λ s. refl;
    parent = λ s. refl;
    name = λ s. refl;
    gives = λ s. refl;
    spares = λ s here named h. h;
  }

  -- After a resolve doomed rows are closing, and shut ones are off, idle and under a closing one.
  well : AreClosedWell (now ++ kids)
  well =
      closed_more now kids next (next + length d.children) orderly_now orderly (kids_new i next d.children)
      (closed_changed rows next i take sound.orderly orderly_now fair (record { doomed = sound.doomed; shut = sound.shut }))

  -- the children of another row are those that they were
  others : (j : ℕ) (s : Row) (e : Decl) → (j ≡ i → ⊥) → row_of now j ≡ Some s → s.decl ≡ Some e → HasStatic (now ++ kids) j e
  others j s e differ here declared =
      let k : Kept rows i take j s = kept rows i take (λ s. refl) j s here in
      static_more now kids j (kids_others i j next d.children (λ same. differ (sym same))) e
      (static_changed rows i take statics j e (sound.static j k.row e k.was (was k.row k.is)))
    where
      was : (q : Row) → (s ≡ q) ⊎ ((j ≡ i) × (s ≡ take q)) → q.decl ≡ Some e
      was q (inl same) = sym (ap (λ z. z.decl) same) ∙ declared
      was q (inr own) = absurd (differ own.0)

  -- there were none of this row
  no_child : (j : ℕ) (s : Row) → row_of rows j ≡ Some s → s.parent ≡ Some i → ⊥
  no_child j s here up = childless rows next i r sound.orderly lives unresolved j s here up

  -- No row is a child of the one that is to be resolved.
  none_there : IsTrue (list_all (λ s. not (has_parent i s)) rows)
  none_there =
      all_rows rows next (λ s. not (has_parent i s)) sound.orderly.increasing
      (λ j s here. not_flip (has_parent i s) (not_true (has_parent i s) (λ up. no_child j s here (option_eq_some s.parent i up))))

  -- Where the first of two tests fails, they don't both hold.
  first_fails : (a b : Bool) → IsTrue (not a) → (a && b) ≡ false
  first_fails true b h = never h
  first_fails false b h = refl

  -- The resolved row has as many children of a declared name as its declaration has.
  own_each : (name : List ℕ) → count_by (λ s. has_parent i s && has_name (static_name name) s) (now ++ kids) ≡ count_by (λ k. same_child (static_name k.name) (static_name name)) d.children
  own_each name =
      let q : Row → Bool = λ s. has_parent i s && has_name (static_name name) s in
      let none : count_by q rows ≡ 0 = count_none q (λ s. not (has_parent i s)) rows (λ s h. first_fails (has_parent i s) (has_name (static_name name) s) h) none_there in
      count_more q now kids
      ∙ ap (λ n. n + count_by q kids) (places_same rows i take statics i name ∙ none)
      ∙ ap (λ n. 0 + n) (count_kids i next name d.children)
      ∙ omega arith

  -- A declared child of the resolved row isn't doomed and was given nothing.
  own_by : (j : ℕ) (s : Row) → (row_of now j ≡ Some s) ⊎ (row_of kids j ≡ Some s) → IsTrue (is_static_child i s) → (s.doomed ≡ false) × (s.gives ≡ [])
  own_by j s (inl here) static =
      let k : Kept rows i take j s = kept rows i take (λ s. refl) j s here in
      absurd (no_child j k.row k.was (sym (same_parent k.row k.is) ∙ option_eq_some s.parent i (first_so (has_parent i s) (is_static_name s.name) static)))
    where
      same_parent : (q : Row) → (s ≡ q) ⊎ ((j ≡ i) × (s ≡ take q)) → s.parent ≡ q.parent
      same_parent q (inl same) = ap (λ z. z.parent) same
      same_parent q (inr own) = ap (λ z. z.parent) own.1
  own_by j s (inr kid) static =
      let found : (next ≤ j) × ((k : Child) × (s ≡ child_row i j k)) = kid_found i next d.children j s kid in
      (ap (λ z. z.doomed) found.1.1, ap (λ z. z.gives) found.1.1)

  -- The declared children of the resolved row stand as its declaration has them.
  own : HasStatic (now ++ kids) i d
  own = record {
    one_each = own_each;
    kept = λ j s here. own_by j s (find_split (λ z. z.inc == j) now kids s here);
  }

  -- The declaration of the resolved row is the one that it got.
  own_decl : (s : Row) (e : Decl) → row_of now i ≡ Some s → s.decl ≡ Some e → d ≡ e
  own_decl s e here declared =
      let same : take r ≡ s = some_same (take r) s (sym (row_of-changed i take (λ s. refl) rows r lives) ∙ here) in
      some_same d e (ap (λ z. z.decl) same ∙ declared)

  -- The declared children of each row with a declaration, old or new, stand as that has them.
  each_by : (j : ℕ) (s : Row) (e : Decl) → s.decl ≡ Some e → (row_of now j ≡ Some s) ⊎ (row_of kids j ≡ Some s) → HasStatic (now ++ kids) j e
  each_by j s e declared (inl here) =
      by_test j i
      (λ same. subst (λ m. HasStatic (now ++ kids) m e) (sym same)
      (subst (HasStatic (now ++ kids) i) (own_decl s e (subst (λ m. row_of now m ≡ Some s) same here) declared) own))
      (λ differ. others j s e differ here declared)
  each_by j s e declared (inr kid) =
      absurd (none_some e (sym ((kids_new i next d.children).new j s kid).undeclared ∙ declared))

  -- the tree stays sound behind it
  pub sound_resolved : IsSound (rows_by i next (finish.Resolved url d) outcome.Resolved rows) (next + length d.children)
  sound_resolved = record {
    orderly = orderly;
    acyclic = acyclic_resolved rows next i url d r sound lives unresolved valid;
    doomed = well.doomed;
    shut = well.shut;
    static = λ j s e here declared. each_by j s e declared (find_split (λ z. z.inc == j) now kids s here);
  }
