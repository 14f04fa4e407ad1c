-- A change of one row that leaves the tree sound.
use Rattle.std.proofs.Common.{◌≡◌, ℕ, ◌+◌, List, [], ◌∷◌, Bool, true, false, cond, ◌&&◌, ◌==◌, nat_eq, true≢false, Option, Some, None, IsSome, is_none, IsTrue, refl, sym, ◌∙◌, ap, subst, inl, inr, ◌⊎◌}
use Rattle.std.specs.List.{count_by}
use Rattle.std.specs.Option.{option_eq, option_map_or}
use Rattle.cm_names.specs.declared.child.ChildName.{ChildName}
use Rattle.cm_decl.specs.declared.decl.Decl.{Decl}
use Rattle.cm_decl.specs.Graph.{static_name}
use Rattle.cm_decl.specs.Same.{same_child}
use Rattle.cm_world.specs.declared.row.Row.{Row}
use Rattle.cm_world.specs.Rows.{row_of, has_parent, has_name, is_closing}
use Rattle.cm_world.specs.End.{changed}
use Rattle.cm_world.specs.Sound.{IsOrderly, IsWellShut, is_static_child, HasStatic, IsSound}
use Rattle.cm_world.proofs.lemmas.trees.Finding.{row_of-inc}
use Rattle.cm_trees.proofs.rows.Orderly.{IsKeeping, orderly_changed}
use Rattle.std.proofs.lemmas.List.Sums.{sum_by-cons}
use Rattle.std.specs.Cmp.{second_so}
use Rattle.cm_laws.proofs.lemmas.sound.Rows.{Lasts, Follows, closing_lasts, Kept, kept, follows_changed}
use Rattle.cm_laws.proofs.lemmas.levels.Acyclic.{KeepsLevels, acyclic_changed}

-- the first of a list is counted
pub count-cons : {A : Type 0} (q : A → Bool) (x : A) (xs : List A) → count_by q (x ∷ xs) ≡ cond (q x) 1 0 + count_by q xs
count-cons q x xs = sum_by-cons (λ z. cond (q z) 1 0) x xs

-- ---- what is doomed or shut

-- doomed rows are closing, and shut rows are off, idle, and at or below a closing one
pub record AreClosedWell (rows : List Row) : Type 0 where
  pub doomed : (i : ℕ) (r : Row) → row_of rows i ≡ Some r → r.doomed ≡ true → r.closing ≡ true
  pub shut : (i : ℕ) (r : Row) → row_of rows i ≡ Some r → r.shut ≡ true → IsWellShut rows r

-- a row that is off and idle, and was at or below a closing one
pub well_shut : (old new : List Row) (m n k : ℕ) → IsOrderly old m → IsOrderly new n → Follows old new k → (i : ℕ) (s : Row) → row_of new i ≡ Some s → s.on ≡ false → s.pending ≡ None → IsTrue (is_closing old i) → IsWellShut new s
well_shut old new m n k was is follows i s lives off idle closing = record {
  off = off;
  idle = idle;
  closing = subst (λ j. IsTrue (is_closing new j)) (sym (row_of-inc new i s lives)) (closing_lasts old new m n k was is follows i s lives closing);
}

-- a shut row is still so where it is left
pub still_shut : (old new : List Row) (m n k : ℕ) → IsOrderly old m → IsOrderly new n → Follows old new k → AreClosedWell old → (i : ℕ) (r s : Row) → row_of old i ≡ Some r → row_of new i ≡ Some s → s ≡ r → s.shut ≡ true → IsWellShut new s
still_shut old new m n k was is follows well i r s here lives same shut =
    let w : IsWellShut old r = well.shut i r here (sym (ap (λ z. z.shut) same) ∙ shut) in
    well_shut old new m n k was is follows i s lives (ap (λ z. z.on) same ∙ w.off) (ap (λ z. z.pending) same ∙ w.idle) (subst (λ j. IsTrue (is_closing old j)) (row_of-inc old i r here) w.closing)

-- a change of row i: what was marked or shut is so still, what is doomed then is closing, and what is shut then is off and
-- idle, and was at or below a closing row
pub record IsFair (rows : List Row) (i : ℕ) (f : Row → Row) : Type 0 where
  pub inc : (r : Row) → (f r).inc ≡ r.inc
  pub lasts : (r : Row) → Lasts r (f r)
  pub closes : (r : Row) → row_of rows i ≡ Some r → (f r).doomed ≡ true → (f r).closing ≡ true
  pub shuts : (r : Row) → row_of rows i ≡ Some r → (f r).shut ≡ true → ((f r).on ≡ false) × ((f r).pending ≡ None) × IsTrue (is_closing rows i)

module _ (rows : List Row) (next i : ℕ) (f : Row → Row) (was : IsOrderly rows next) (is : IsOrderly (changed i f rows) next) (fair : IsFair rows i f) (well : AreClosedWell rows) where
  -- A row that is doomed after the change is closing.
  doomed_by : (j : ℕ) (r s : Row) → row_of rows j ≡ Some r → (s ≡ r) ⊎ ((j ≡ i) × (s ≡ f r)) → s.doomed ≡ true → s.closing ≡ true
  doomed_by j r s here (inl same) doomed =
      ap (λ z. z.closing) same ∙ well.doomed j r here (sym (ap (λ z. z.doomed) same) ∙ doomed)
  doomed_by j r s here (inr own) doomed =
      ap (λ z. z.closing) own.1
      ∙ fair.closes r (sym (ap (row_of rows) own.0) ∙ here) (sym (ap (λ z. z.doomed) own.1) ∙ doomed)

  -- The rows after the change follow those before.
  follows : Follows rows (changed i f rows) next
  follows = follows_changed rows i f fair.inc next fair.lasts

  -- A row that is shut after the change was shut down in order.
  shut_by : (j : ℕ) (r s : Row) → row_of rows j ≡ Some r → row_of (changed i f rows) j ≡ Some s → (s ≡ r) ⊎ ((j ≡ i) × (s ≡ f r)) → s.shut ≡ true → IsWellShut (changed i f rows) s
  shut_by j r s here lives (inl same) shut =
      still_shut rows (changed i f rows) next next next was is follows well j r s here lives same shut
  shut_by j r s here lives (inr own) shut =
      let w : ((f r).on ≡ false) × ((f r).pending ≡ None) × IsTrue (is_closing rows i) = fair.shuts r (sym (ap (row_of rows) own.0) ∙ here) (sym (ap (λ z. z.shut) own.1) ∙ shut) in
      well_shut rows (changed i f rows) next next next was is follows j s lives (ap (λ z. z.on) own.1 ∙ w.0) (ap (λ z. z.pending) own.1 ∙ w.1) (subst (λ m. IsTrue (is_closing rows m)) (sym own.0) w.2)

  -- Behind a fair change of one row, doomed rows are closing, and shut rows are well shut.
  pub closed_changed : AreClosedWell (changed i f rows)
  closed_changed = record {
    doomed = λ j s lives. let k : Kept rows i f j s = kept rows i f fair.inc j s lives in doomed_by j k.row s k.was k.is;
    shut = λ j s lives. let k : Kept rows i f j s = kept rows i f fair.inc j s lives in shut_by j k.row s k.was lives k.is;
  }

-- ---- children that are declared

-- as many rows pass a test that the change keeps
module _ (q : Row → Bool) (i : ℕ) (f : Row → Row) (same : (r : Row) → q (f r) ≡ q r) where
  -- As many rows pass after the change as before, row by row.
  count_at : (t : Bool) (x : Row) (xs : List Row) → count_by q (changed i f xs) ≡ count_by q xs → count_by q (cond t (f x ∷ xs) (x ∷ changed i f xs)) ≡ count_by q (x ∷ xs)
  count_at true x xs more = count-cons q (f x) xs ∙ ap (λ b. cond b 1 0 + count_by q xs) (same x) ∙ sym (count-cons q x xs)
  count_at false x xs more = count-cons q x (changed i f xs) ∙ ap (λ n. cond (q x) 1 0 + n) more ∙ sym (count-cons q x xs)

  -- Behind a change of one row that a test doesn't see, as many rows pass it as before.
  pub count_changed : (rows : List Row) → count_by q (changed i f rows) ≡ count_by q rows
  count_changed [] = refl
  count_changed (x ∷ xs) = count_at (x.inc == i) x xs (count_changed xs)

-- a name without a collection
abbrev pub is_static_name : Option ChildName → Bool
is_static_name o = option_map_or (λ c. is_none c.coll) o false

-- a change that keeps places and offers, and dooms no child that is declared
pub record KeepsStatic (rows : List Row) (i : ℕ) (f : Row → Row) : Type 0 where
  pub inc : (r : Row) → (f r).inc ≡ r.inc
  pub parent : (r : Row) → (f r).parent ≡ r.parent
  pub name : (r : Row) → (f r).name ≡ r.name
  pub gives : (r : Row) → (f r).gives ≡ r.gives
  pub spares : (r : Row) → row_of rows i ≡ Some r → IsTrue (is_static_name r.name) → r.doomed ≡ false → (f r).doomed ≡ false

module _ (rows : List Row) (i : ℕ) (f : Row → Row) (keeps : KeepsStatic rows i f) (p : ℕ) where
  -- The changed row is the child of a name exactly where it was.
  place_same : (r : Row) (c : ChildName) → (has_parent p (f r) && has_name c (f r)) ≡ (has_parent p r && has_name c r)
  place_same r c =
      ap (λ o. option_eq nat_eq o (Some p) && has_name c (f r)) (keeps.parent r)
      ∙ ap (λ o. has_parent p r && option_eq same_child o (Some c)) (keeps.name r)

  -- A row is a declared child of another exactly where it is behind a change that keeps places.
  pub static_same : (r : Row) → is_static_child p (f r) ≡ is_static_child p r
  static_same r =
      ap (λ o. option_eq nat_eq o (Some p) && is_static_name (f r).name) (keeps.parent r)
      ∙ ap (λ o. has_parent p r && is_static_name o) (keeps.name r)

  -- Behind a change that keeps places, a row has as many children of a declared name as before.
  pub places_same : (name : List ℕ) → count_by (λ r. has_parent p r && has_name (static_name name) r) (changed i f rows) ≡ count_by (λ r. has_parent p r && has_name (static_name name) r) rows
  places_same name =
      count_changed (λ r. has_parent p r && has_name (static_name name) r) i f (λ r. place_same r (static_name name)) rows

  module _ (d : Decl) (was : HasStatic rows p d) where
    -- A declared child, as before or changed, isn't doomed and was given nothing.
    kept_by : (j : ℕ) (r s : Row) → row_of rows j ≡ Some r → (s ≡ r) ⊎ ((j ≡ i) × (s ≡ f r)) → IsTrue (is_static_child p s) → (s.doomed ≡ false) × (s.gives ≡ [])
    kept_by j r s here (inl same) static =
        let k : (r.doomed ≡ false) × (r.gives ≡ []) = was.kept j r here (subst (λ z. IsTrue (is_static_child p z)) same static) in
        (ap (λ z. z.doomed) same ∙ k.0, ap (λ z. z.gives) same ∙ k.1)
    kept_by j r s here (inr own) static =
        let before : IsTrue (is_static_child p r) = sym (static_same r) ∙ subst (λ z. IsTrue (is_static_child p z)) own.1 static in
        let k : (r.doomed ≡ false) × (r.gives ≡ []) = was.kept j r here before in
        let named : IsTrue (is_static_name r.name) = second_so (has_parent p r) (is_static_name r.name) before in (
          ap (λ z. z.doomed) own.1 ∙ keeps.spares r (sym (ap (row_of rows) own.0) ∙ here) named k.0,
          ap (λ z. z.gives) own.1 ∙ keeps.gives r ∙ k.1,
        )

    -- After the change the declared children of a row stand as its declaration has them.
    pub static_changed : HasStatic (changed i f rows) p d
    static_changed = record {
      one_each = λ name. places_same name ∙ was.one_each name;
      kept = λ j s lives. let k : Kept rows i f j s = kept rows i f keeps.inc j s lives in kept_by j k.row s k.was k.is;
    }

-- ---- the tree as a whole

-- What holds only where another does doesn't hold where that one doesn't.
undoomed_by : (a b : Bool) → (b ≡ true → a ≡ true) → a ≡ false → b ≡ false
undoomed_by a true more e = absurd (true≢false (sym (more refl) ∙ e))
undoomed_by a false more e = refl

-- what keeps levels keeps rows orderly
keeping_levels : (f : Row → Row) → KeepsLevels f → IsKeeping f
keeping_levels f k = record {
  inc = k.inc;
  parent = k.parent;
  name = k.name;
  doomed = λ r h. undoomed_by (f r).doomed r.doomed (k.doomed r) h;
  resolved = λ r h. subst IsSome (sym (k.decl r)) h;
  valid = λ r d h. inl (sym (k.decl r) ∙ h);
}

-- A row, as before or changed, keeps its declaration.
decl_by : (f : Row → Row) (i j : ℕ) (r s : Row) → KeepsLevels f → (s ≡ r) ⊎ ((j ≡ i) × (s ≡ f r)) → s.decl ≡ r.decl
decl_by f i j r s k (inl same) = ap (λ z. z.decl) same
decl_by f i j r s k (inr own) = ap (λ z. z.decl) own.1 ∙ k.decl r

-- it stays sound behind a fair change that keeps levels and children that are declared
pub sound_changed : (rows : List Row) (next i : ℕ) (f : Row → Row) → IsSound rows next → KeepsLevels f → IsFair rows i f → KeepsStatic rows i f → IsSound (changed i f rows) next
sound_changed rows next i f sound levels fair statics =
    let orderly : IsOrderly (changed i f rows) next = orderly_changed f (keeping_levels f levels) i next rows sound.orderly in
    let well : AreClosedWell (changed i f rows) = closed_changed rows next i f sound.orderly orderly fair (record { doomed = sound.doomed; shut = sound.shut }) in
    record {
      orderly = orderly;
      acyclic = acyclic_changed rows next i f sound levels;
      doomed = well.doomed;
      shut = well.shut;
      static = λ j s d lives declared. let k : Kept rows i f j s = kept rows i f levels.inc j s lives in
          static_changed rows i f statics j d (sound.static j k.row d k.was (sym (decl_by f i j k.row s levels k.is) ∙ declared));
    }
