-- What becomes of the rows of a tree when rows go with one that stops: rows in collections are doomed, and nothing
-- else is changed.
use Rattle.std.proofs.Common.{◌≡◌, ℕ, ◌<◌, List, [], ◌∷◌, ◌++◌, Bool, true, false, cond, if◌then◌else◌, not}
use Rattle.std.proofs.Common.{◌&&◌, ◌==◌, Option, Some, None, IsSome, is_some, map, option_map}
use Rattle.std.proofs.Common.{option_and_then, IsTrue, refl, sym, ◌∙◌, ap, subst, arith, append_assoc, inl, inr, ◌⊎◌}
use Rattle.std.specs.Option.{option_map_or}
use Rattle.std.specs.Cmp.{unsigned_Decides, first_so, second_so}
use Rattle.std.proofs.lemmas.Bool.{false_from_ne_true}
use Rattle.cm_names.specs.declared.child.ChildName.{ChildName}
use Rattle.cm_decl.specs.declared.decl.Decl.{Decl}
use Rattle.cm_decl.proofs.lemmas.Sameness.{never}
use Rattle.cm_world.specs.declared.row.Row.{Row}
use Rattle.cm_world.specs.declared.action.Act.{Act}
use Rattle.cm_world.specs.declared.action.ActKind.{ActKind}
use Rattle.cm_world.specs.declared.action.Outcome.{Outcome}
use Rattle.cm_world.specs.Rows.{row_of, is_closed, has_parent}
use Rattle.cm_world.specs.Marks.{is_dynamic}
use Rattle.cm_world.specs.End.{changed, set_doomed}
use Rattle.cm_world.specs.Sound.{IncarnationsIncrease, IsSound}
use Rattle.cm_world.specs.Expiring.{coll_of, decl_above, is_once_by, runs_once, goes_with, expired, is_stopped, expired_by}
use Rattle.cm_world.proofs.lemmas.trees.Finding.{some_same, row_of-inc}
use Rattle.cm_trees.proofs.rows.Rows.{increasing_changed}
use Rattle.cm_laws.specs.Tasks.{HasRow, IsTasked}
use Rattle.cm_laws.proofs.lemmas.sound.Rows.{Lasts, Follows, lasts_itself}
use Rattle.cm_laws.proofs.lemmas.sound.Marks.{doomed_lasting, sound_doomed}
use Rattle.cm_trees.proofs.rows.Dooming.{doom_inc, doom_pending}

-- ---- rows that are each changed by their incarnations' leave

module _ (g : Row → Row) (inc : (r : Row) → (g r).inc ≡ r.inc) where
  -- What is found among changed rows is the change of what was found, row by row.
  mapped_by : (t : Bool) (x : Row) (o p : Option Row) → p ≡ option_map g o → cond t (Some (g x)) p ≡ option_map g (cond t (Some x) o)
  mapped_by true x o p later = refl
  mapped_by false x o p later = later

  -- a row is found where it was, changed
  row_of-mapped : (rows : List Row) (i : ℕ) → row_of (map g rows) i ≡ option_map g (row_of rows i)
  row_of-mapped [] i = refl
  row_of-mapped (x ∷ xs) i =
      ap (λ n. cond (n == i) (Some (g x)) (row_of (map g xs) i)) (inc x)
      ∙ mapped_by (x.inc == i) x (row_of xs i) (row_of (map g xs) i) (row_of-mapped xs i)

-- ---- what goes is in a collection

-- A row that runs once is in a collection.
once_dynamic : (d : Option Decl) (o : Option ChildName) → IsTrue (is_once_by d (option_and_then (λ c. c.coll) o)) → option_map_or (λ c. is_some c.coll) o false ≡ true
once_dynamic None o once = absurd (never once)
once_dynamic (Some d) None once = absurd (never once)
once_dynamic (Some d) (Some c) once = in_coll c.coll once where
  in_coll : (coll : Option (List ℕ)) → IsTrue (is_once_by (Some d) coll) → is_some coll ≡ true
  in_coll None once = absurd (never once)
  in_coll (Some k) once = refl

-- a row that runs once is in a collection
pub once_row : (rows : List Row) (i : ℕ) (r : Row) → row_of rows i ≡ Some r → runs_once rows i ≡ true → is_dynamic r ≡ true
once_row rows i r lives once =
    once_dynamic (decl_above rows r) r.name
    (sym (ap (λ o. option_map_or (λ s. is_once_by (decl_above rows s) (coll_of s)) o false) lives) ∙ once)

-- A row that goes with one that stops is in a collection, by why it goes.
goes_by : (rows : List Row) (i : ℕ) (r : Row) (closed once : Bool) → runs_once rows i ≡ once → row_of rows r.inc ≡ Some r → IsTrue (if closed then false else if once then r.inc == i else (has_parent i r && is_dynamic r)) → is_dynamic r ≡ true
goes_by rows i r true once is lives goes = absurd (never goes)
goes_by rows i r false true is lives goes =
    once_row rows i r (ap (row_of rows) (sym ((unsigned_Decides r.inc i).0 goes)) ∙ lives) is
goes_by rows i r false false is lives goes = second_so (has_parent i r) (is_dynamic r) goes

-- a row that goes, and isn't doomed yet, is in a collection
goes_dynamic : (rows : List Row) (i : ℕ) (r : Row) → row_of rows r.inc ≡ Some r → IsTrue (goes_with rows i r && not r.doomed) → is_dynamic r ≡ true
goes_dynamic rows i r lives goes =
    goes_by rows i r (is_closed rows i) (runs_once rows i) refl lives (first_so (goes_with rows i r) (not r.doomed) goes)

-- ---- the rows behind

-- a row as it was before, or, where it was in a collection, doomed
pub record Went (rows : List Row) (j : ℕ) (s : Row) : Type 0 where
  pub row : Row
  pub was : row_of rows j ≡ Some row
  pub is : (s ≡ row) ⊎ ((is_dynamic row ≡ true) × (s ≡ set_doomed row))

module _ (rows : List Row) (i : ℕ) where
  -- Whether a row goes with the one that stops.
  abbrev goes : Row → Bool
  goes r = goes_with rows i r && not r.doomed

  -- A row after the expiry: doomed if it goes, else as it was.
  abbrev going : Row → Row
  going r = cond (goes r) (set_doomed r) r

  -- a row that was there is there, and may be doomed now
  pub row_of-expired : (j : ℕ) → row_of (expired i rows) j ≡ option_map going (row_of rows j)
  row_of-expired j = row_of-mapped going (λ r. doom_inc (goes r) r) rows j

  -- A row that was there is still there where rows go with one that stops.
  pub there_still : (j : ℕ) (r : Row) → row_of rows j ≡ Some r → (s : Row) × (row_of (expired i rows) j ≡ Some s)
  there_still j r lives = (going r, row_of-expired j ∙ ap (option_map going) lives)

  -- A row after the expiry is as before, or is in a collection and doomed.
  went_is : (t : Bool) (r : Row) → (t ≡ true → is_dynamic r ≡ true) → (cond t (set_doomed r) r ≡ r) ⊎ ((is_dynamic r ≡ true) × (cond t (set_doomed r) r ≡ set_doomed r))
  went_is true r dynamic = inr (dynamic refl, refl)
  went_is false r dynamic = inl refl

  -- A row that is found after the expiry was there, and went or stayed.
  went_by : (j : ℕ) (s : Row) (o : Option Row) → row_of rows j ≡ o → option_map going o ≡ Some s → Went rows j s
  went_by j s None here e = absurd (cc)
  went_by j s (Some r) here e =
      let lives : row_of rows r.inc ≡ Some r = ap (row_of rows) (row_of-inc rows j r here) ∙ here in
      record {
        row = r;
        was = here;
        is = subst (λ z. (z ≡ r) ⊎ ((is_dynamic r ≡ true) × (z ≡ set_doomed r))) (some_same (going r) s e) (went_is (goes r) r (goes_dynamic rows i r lives));
      }

  -- A row behind a stop is as it was before, or it is one in a collection, and doomed now.
  pub went : (j : ℕ) (s : Row) → row_of (expired i rows) j ≡ Some s → Went rows j s
  went j s is = went_by j s (row_of rows j) refl (sym (row_of-expired j) ∙ is)

  -- each row lasts
  lasts_by : (r s : Row) → (s ≡ r) ⊎ ((is_dynamic r ≡ true) × (s ≡ set_doomed r)) → Lasts r s
  lasts_by r s (inl same) = lasts_itself r s same
  lasts_by r s (inr own) = subst (Lasts r) (sym own.1) (doomed_lasting r)

  -- A row behind a stop keeps its parent, and what it was marked with or shut it still is.
  pub went_lasts : (j : ℕ) (s : Row) → (w : Went rows j s) → Lasts w.row s
  went_lasts j s w = lasts_by w.row s w.is

  -- A row that lasts and then lasts again lasts.
  lasts_then : (r t s : Row) → Lasts r t → Lasts t s → Lasts r s
  lasts_then r t s first second = record {
    parent = second.parent ∙ first.parent;
    closing = λ h. second.closing (first.closing h);
    doomed = λ h. second.doomed (first.doomed h);
    shut = λ h. second.shut (first.shut h);
  }

  -- and the rows follow what the rows before them follow
  pub follows_expired : (old : List Row) (m : ℕ) → Follows old rows m → Follows old (expired i rows) m
  follows_expired old m follows = record {
    lasts = λ j r s was is. let w : Went rows j s = went j s is in
        lasts_then r w.row s (follows.lasts j r w.row was w.was) (went_lasts j s w);
    known = λ j s is. let w : Went rows j s = went j s is in follows.known j w.row w.was;
  }

  -- ---- what is pending

  -- What is pending at a row after the expiry was pending there.
  pending_by : (acts : List Act) (j a : ℕ) (kind : ActKind) (r s : Row) → (s ≡ r) ⊎ ((is_dynamic r ≡ true) × (s ≡ set_doomed r)) → s.pending ≡ Some (kind, a) → r.pending ≡ Some (kind, a)
  pending_by acts j a kind r s (inl same) e = sym (ap (λ z. z.pending) same) ∙ e
  pending_by acts j a kind r s (inr own) e = sym (ap (λ z. z.pending) own.1) ∙ e

  -- A row that may be doomed keeps its declaration.
  doom_decl : (t : Bool) (r : Row) → (cond t (set_doomed r) r).decl ≡ r.decl
  doom_decl true r = refl
  doom_decl false r = refl

  -- An action that had its row has it after the expiry.
  still_there : (x : Act) → HasRow rows x → HasRow (expired i rows) x
  still_there x it = record {
    row = going it.row;
    lives = row_of-expired x.inc ∙ ap (option_map going) it.lives;
    pending = doom_pending (goes it.row) it.row ∙ it.pending;
    unresolved = λ e. doom_decl (goes it.row) it.row ∙ it.unresolved e;
  }

  -- what is pending where is as before
  pub tasked_expired : (acts : List Act) → IsTasked rows acts → IsTasked (expired i rows) acts
  tasked_expired acts it = record {
    rows_of = λ a x there pending. still_there x (it.rows_of a x there pending);
    acts_of = λ j a kind s is pending.
        let w : Went rows j s = went j s is in
        it.acts_of j a kind w.row w.was (pending_by acts j a kind w.row s w.is pending);
  }

-- Rows and actions agree, whether there was an expiry or not.
tasked_if : (b : Bool) (i : ℕ) (rows : List Row) (acts : List Act) → IsTasked rows acts → IsTasked (cond b (expired i rows) rows) acts
tasked_if true i rows acts it = tasked_expired rows i acts it
tasked_if false i rows acts it = it

-- Rows and actions still agree where rows go with the row of an action that ended.
pub tasked_expired_by : (o : Outcome) (i : ℕ) (rows : List Row) (acts : List Act) → IsTasked rows acts → IsTasked (expired_by o i rows) acts
tasked_expired_by o i rows acts it = tasked_if (is_stopped o) i rows acts it

-- ---- one row after another

-- A row lower than all others has the incarnation of none of them.
apart : (y x : Row) (rest : List Row) → ((s : ℕ) → IsSome (row_of rest s) → y.inc < s) → row_of rest x.inc ≡ Some x → (y.inc == x.inc) ≡ false
apart y x rest low lives =
    let less : y.inc < x.inc = low x.inc (ap is_some lives) in
    false_from_ne_true (y.inc == x.inc) (λ same. let is : y.inc ≡ x.inc = (unsigned_Decides y.inc x.inc).0 same in absurd (omega arith))

-- a row of a list whose incarnations rise is found there
found_here : (pre : List Row) (x : Row) (xs : List Row) (next : ℕ) → IncarnationsIncrease next (pre ++ x ∷ xs) → row_of (pre ++ x ∷ xs) x.inc ≡ Some x
found_here [] x xs next increasing =
    ap (λ t. cond t (Some x) (row_of xs x.inc)) ((unsigned_Decides x.inc x.inc).1 refl)
found_here (y ∷ pre) x xs next increasing =
    let lives : row_of (pre ++ x ∷ xs) x.inc ≡ Some x = found_here pre x xs next increasing.1 in
    ap (λ t. cond t (Some y) (row_of (pre ++ x ∷ xs) x.inc)) (apart y x (pre ++ x ∷ xs) increasing.0.1 lives) ∙ lives

-- Where a row in the midst of others is changed, it alone is changed.
changed_here : (f : Row → Row) (pre : List Row) (x : Row) (xs : List Row) (next : ℕ) → IncarnationsIncrease next (pre ++ x ∷ xs) → changed x.inc f (pre ++ x ∷ xs) ≡ pre ++ f x ∷ xs
changed_here f [] x xs next increasing =
    ap (λ t. cond t (f x ∷ xs) (x ∷ changed x.inc f xs)) ((unsigned_Decides x.inc x.inc).1 refl)
changed_here f (y ∷ pre) x xs next increasing =
    let lives : row_of (pre ++ x ∷ xs) x.inc ≡ Some x = found_here pre x xs next increasing.1 in
    ap (λ t. cond t (f y ∷ (pre ++ x ∷ xs)) (y ∷ changed x.inc f (pre ++ x ∷ xs))) (apart y x (pre ++ x ∷ xs) increasing.0.1 lives)
    ∙ ap (λ ys. y ∷ ys) (changed_here f pre x xs next increasing.1)

-- what is kept wherever one of the rows that pass a test is changed is kept where all of them are
module _ (rows : List Row) (p : Row → Bool) (f : Row → Row) (keeps : (r : Row) → (f r).inc ≡ r.inc) (P : List Row → Type 0) (step : (now : List Row) (r : Row) → row_of rows r.inc ≡ Some r → row_of now r.inc ≡ Some r → IsTrue (p r) → P now → P (changed r.inc f now)) where
  -- The rows with each that passes changed.
  abbrev each : List Row → List Row
  each xs = map (λ r. if p r then f r else r) xs

  -- some were changed before; these are left
  abbrev Left : ℕ → List Row → Type 0
  Left next xs = (old pre : List Row) → IncarnationsIncrease next rows → rows ≡ old ++ xs → IncarnationsIncrease next (pre ++ xs) → P (pre ++ xs) → P (pre ++ each xs)

  -- What holds of rows, some changed and some left, holds with the next one changed too.
  each_by : (t : Bool) (old pre : List Row) (x : Row) (xs : List Row) (next : ℕ) → p x ≡ t → Left next xs → IncarnationsIncrease next rows → rows ≡ old ++ x ∷ xs → IncarnationsIncrease next (pre ++ x ∷ xs) → P (pre ++ x ∷ xs) → P (pre ++ cond t (f x) x ∷ each xs)
  each_by false old pre x xs next is more up whole increasing it =
      subst P (append_assoc pre (x ∷ []) (each xs))
      (more (old ++ x ∷ []) (pre ++ x ∷ []) up (whole ∙ sym (append_assoc old (x ∷ []) xs))
      (subst (IncarnationsIncrease next) (sym (append_assoc pre (x ∷ []) xs)) increasing)
      (subst P (sym (append_assoc pre (x ∷ []) xs)) it))
  each_by true old pre x xs next is more up whole increasing it =
      let here : changed x.inc f (pre ++ x ∷ xs) ≡ pre ++ f x ∷ xs = changed_here f pre x xs next increasing in
      let was : row_of rows x.inc ≡ Some x = ap (λ rs. row_of rs x.inc) whole ∙ found_here old x xs next (subst (IncarnationsIncrease next) whole up) in
      let done : P (pre ++ f x ∷ xs) = subst P here (step (pre ++ x ∷ xs) x was (found_here pre x xs next increasing) is it) in
      let still : IncarnationsIncrease next (pre ++ f x ∷ xs) = subst (IncarnationsIncrease next) here (increasing_changed x.inc next f keeps (pre ++ x ∷ xs) increasing) in
      subst P (append_assoc pre (f x ∷ []) (each xs))
      (more (old ++ x ∷ []) (pre ++ f x ∷ []) up (whole ∙ sym (append_assoc old (x ∷ []) xs))
      (subst (IncarnationsIncrease next) (sym (append_assoc pre (f x ∷ []) xs)) still)
      (subst P (sym (append_assoc pre (f x ∷ []) xs)) done))

  -- What holds of rows, some changed and some left, holds with all changed that pass.
  each_left : (xs : List Row) (next : ℕ) → Left next xs
  each_left [] next old pre up whole increasing it = it
  each_left (x ∷ xs) next old pre up whole increasing it =
      each_by (p x) old pre x xs next refl (each_left xs next) up whole increasing it

  -- What a change of one row keeps is kept with each that passes changed.
  each_keeps : (next : ℕ) → IncarnationsIncrease next rows → P rows → P (each rows)
  each_keeps next increasing it = each_left rows next [] [] increasing refl increasing it

-- a tree stays sound where rows of it expire
pub sound_expired : (rows : List Row) (next i : ℕ) → IsSound rows next → IsSound (expired i rows) next
sound_expired rows next i sound =
    each_keeps rows (λ r. goes_with rows i r && not r.doomed) set_doomed (λ r. refl) (λ now. IsSound now next)
    (λ now r was lives goes it. sound_doomed now next r.inc it r lives (goes_dynamic rows i r was goes)) next
    sound.orderly.increasing sound
