-- A purge leaves the tree sound: the rows at and below one are taken away, which is doomed and shut with all below it.
use Rattle.std.proofs.Common.{◌≡◌, ℕ, ◌+◌, List, [], ◌∷◌, Bool, true, false, cond, not, ◌&&◌, ◌||◌, true≢false, Some, IsSome, IsTrue, filter, refl, sym, ◌∙◌, ap, subst, arith, inl, inr}
use Rattle.std.specs.List.{count_by, list_all}
use Rattle.std.specs.Cmp.{first_so, second_so}
use Rattle.std.proofs.lemmas.Bool.{not-true}
use Rattle.cm_facts.proofs.Booleans.{not_or, true_and_false}
use Rattle.cm_facts.proofs.Options.{option_eq_some}
use Rattle.cm_decl.specs.declared.decl.Decl.{Decl}
use Rattle.cm_decl.specs.Graph.{static_name}
use Rattle.cm_decl.proofs.lemmas.Sameness.{never}
use Rattle.cm_world.specs.declared.row.Row.{Row}
use Rattle.cm_world.specs.Rows.{row_of, is_below, has_parent, has_name}
use Rattle.cm_world.specs.After.{others_than}
use Rattle.cm_world.specs.Sound.{IsOrderly, IsParent, is_static_child, HasStatic, IsSound}
use Rattle.cm_world.proofs.lemmas.trees.Finding.{some_same, row_of-inc}
use Rattle.cm_trees.proofs.trees.Trees.{all_rows, and_pair, not_true, not_flip, below_up, below_cases}
use Rattle.cm_laws.proofs.lemmas.sound.Rows.{was_left, is_left, increasing_left, Follows, follows_left}
use Rattle.cm_laws.proofs.lemmas.sound.Changes.{count-cons, AreClosedWell, still_shut, is_static_name}
use Rattle.cm_laws.proofs.lemmas.sound.Growth.{static_named}
use Rattle.cm_laws.proofs.lemmas.levels.Acyclic.{acyclic_purged}

-- ---- how many are left

-- As many rows pass as before, where each that does is left, row by row.
left_by : (q keep : Row → Bool) (t : Bool) (x : Row) (xs : List Row) → keep x ≡ t → IsTrue (not (q x) || t) → count_by q (filter keep xs) ≡ count_by q xs → count_by q (cond t (x ∷ filter keep xs) (filter keep xs)) ≡ count_by q (x ∷ xs)
left_by q keep true x xs e kept more =
    count-cons q x (filter keep xs) ∙ ap (λ n. cond (q x) 1 0 + n) more ∙ sym (count-cons q x xs)
left_by q keep false x xs e kept more = fails (q x) refl kept where
  fails : (b : Bool) → q x ≡ b → IsTrue (not b || false) → count_by q (filter keep xs) ≡ count_by q (x ∷ xs)
  fails true hit h = never h
  fails false miss h =
      more ∙ sym (count-cons q x xs ∙ ap (λ b. cond b 1 0 + count_by q xs) miss ∙ omega arith)

-- as many pass as before where each that passes is left
pub count_left : (q keep : Row → Bool) (xs : List Row) → IsTrue (list_all (λ r. not (q r) || keep r) xs) → count_by q (filter keep xs) ≡ count_by q xs
count_left q keep [] all = refl
count_left q keep (x ∷ xs) all =
    left_by q keep (keep x) x xs refl (first_so (not (q x) || keep x) (list_all (λ r. not (q r) || keep r) xs) all)
    (count_left q keep xs (second_so (not (q x) || keep x) (list_all (λ r. not (q r) || keep r) xs) all))

-- ---- rows that are left

module _ (rows : List Row) (next top : ℕ) (was : IsOrderly rows next) where
  -- a row that is left lived and isn't below the top
  pub stood : (i : ℕ) (r : Row) → row_of (others_than rows top) i ≡ Some r → (row_of rows i ≡ Some r) × (is_below rows top i ≡ false)
  stood i r lives =
      let both : (row_of rows i ≡ Some r) × (not (is_below rows top i) ≡ true) = was_left (λ j. not (is_below rows top j)) rows i r lives in
      (both.0, not-true (is_below rows top i) both.1)

  -- A row that was there and isn't below the purged one is left by a purge.
  pub stands : (i : ℕ) (r : Row) → row_of rows i ≡ Some r → is_below rows top i ≡ false → row_of (others_than rows top) i ≡ Some r
  stands i r lives outside = is_left (λ j. not (is_below rows top j)) rows i r lives (not_flip (is_below rows top i) outside)

  -- its parent is left too
  parent_outside : (i p : ℕ) (r : Row) → row_of rows i ≡ Some r → r.parent ≡ Some p → is_below rows top i ≡ false → is_below rows top p ≡ false
  parent_outside i p r lives up outside =
      not_true (is_below rows top p) (λ below. true_and_false (is_below rows top i) (below_up rows next was top i p r lives up below) outside)

  -- A row that is left has its parent, which is left too, and has a name.
  left_parents : (i p : ℕ) (r : Row) → row_of (others_than rows top) i ≡ Some r → r.parent ≡ Some p → IsParent (others_than rows top) p i × IsSome r.name
  left_parents i p r lives up =
      let s : (row_of rows i ≡ Some r) × (is_below rows top i ≡ false) = stood i r lives in
      let q : IsParent rows p i × IsSome r.name = was.parents i p r s.0 up in
      (record { row = q.0.row; lives = stands p q.0.row q.0.lives (parent_outside i p r s.0 up s.1); resolved = q.0.resolved; lower = q.0.lower }, q.1)

  -- The rows that a purge leaves are orderly.
  pub orderly_purged : IsOrderly (others_than rows top) next
  orderly_purged = record {
    increasing = increasing_left (λ j. not (is_below rows top j)) next rows was.increasing;
    root = λ i r lives. was.root i r (stood i r lives).0;
    parents = left_parents;
    one_name = λ i j r s here there. was.one_name i j r s (stood i r here).0 (stood j s there).0;
    valid = λ i r d lives. was.valid i r d (stood i r lives).0;
  }

  -- The rows that a purge leaves follow those before.
  follows : Follows rows (others_than rows top) next
  follows = follows_left (λ j. not (is_below rows top j)) rows next

  -- In what a purge leaves, doomed rows are closing and shut rows are well shut, as they were.
  pub closed_purged : AreClosedWell rows → AreClosedWell (others_than rows top)
  closed_purged well = record {
    doomed = λ i r lives. well.doomed i r (stood i r lives).0;
    shut = λ i r lives shut. still_shut rows (others_than rows top) next next next was orderly_purged follows well i r r (stood i r lives).0 lives refl shut;
  }

  -- a child that goes while its parent stays is the top itself
  pub goes_alone : (i p : ℕ) (r : Row) → row_of rows i ≡ Some r → r.parent ≡ Some p → is_below rows top p ≡ false → IsTrue (is_below rows top i) → i ≡ top
  goes_alone i p r lives up outside below = elim (below_cases rows next was top i r lives below) [
    | inl same ↦ same
    | inr above ↦
        let same : above.0 ≡ p = some_same above.0 p (sym above.1 ∙ up) in
        true_and_false (is_below rows top p) (subst (λ j. IsTrue (is_below rows top j)) same above.2) outside
  ]

-- ---- the tree as a whole

module _ (rows : List Row) (next top : ℕ) (sound : IsSound rows next) (t : Row) (lives : row_of rows top ≡ Some t) (doomed : t.doomed ≡ true) where
  -- a child that is declared stays with its parent
  static_stays : (p : ℕ) (d : Decl) → HasStatic rows p d → is_below rows top p ≡ false → (i : ℕ) (r : Row) → row_of rows i ≡ Some r → IsTrue (is_static_child p r) → is_below rows top i ≡ false
  static_stays p d was outside i r here static =
      not_true (is_below rows top i)
      (λ below. let up : r.parent ≡ Some p = option_eq_some r.parent p (first_so (has_parent p r) (is_static_name r.name) static) in
      let same : i ≡ top = goes_alone rows next top sound.orderly i p r here up outside below in
      let one : r ≡ t = some_same r t (sym here ∙ ap (row_of rows) same ∙ lives) in
      true≢false (sym doomed ∙ sym (ap (λ z. z.doomed) one) ∙ (was.kept i r here static).0))

  -- A child of a declared name is a declared child.
  named_child : (p : ℕ) (name : List ℕ) (r : Row) → IsTrue (has_parent p r && has_name (static_name name) r) → IsTrue (is_static_child p r)
  named_child p name r h =
      and_pair (has_parent p r) (is_static_name r.name) (first_so (has_parent p r) (has_name (static_name name) r) h)
      (static_named r.name name (second_so (has_parent p r) (has_name (static_name name) r) h))

  -- Declared children of a row that isn't below the purged one are left.
  each_left : (p : ℕ) (d : Decl) (name : List ℕ) → HasStatic rows p d → is_below rows top p ≡ false → IsTrue (list_all (λ r. not (has_parent p r && has_name (static_name name) r) || not (is_below rows top r.inc)) rows)
  each_left p d name was outside =
      all_rows rows next (λ r. not (has_parent p r && has_name (static_name name) r) || not (is_below rows top r.inc)) sound.orderly.increasing
      (λ i r here. not_or (has_parent p r && has_name (static_name name) r) (not (is_below rows top r.inc))
      (λ named. not_flip (is_below rows top r.inc)
      (ap (is_below rows top) (row_of-inc rows i r here) ∙ static_stays p d was outside i r here (named_child p name r named))))

  -- The declared children of a row that is left stand as its declaration has them.
  static_purged : (p : ℕ) (r : Row) (d : Decl) → row_of (others_than rows top) p ≡ Some r → r.decl ≡ Some d → HasStatic (others_than rows top) p d
  static_purged p r d here declared =
      let s : (row_of rows p ≡ Some r) × (is_below rows top p ≡ false) = stood rows next top sound.orderly p r here in
      let was : HasStatic rows p d = sound.static p r d s.0 declared in
      record {
        one_each = λ name.
            count_left (λ r. has_parent p r && has_name (static_name name) r) (λ r. not (is_below rows top r.inc)) rows (each_left p d name was s.1)
            ∙ was.one_each name;
        kept = λ i q there. was.kept i q (stood rows next top sound.orderly i q there).0;
      }

  -- What a purge leaves is sound, where the purged row was doomed.
  pub sound_purged : IsSound (others_than rows top) next
  sound_purged =
      let well : AreClosedWell (others_than rows top) = closed_purged rows next top sound.orderly (record { doomed = sound.doomed; shut = sound.shut }) in
      record {
        orderly = orderly_purged rows next top sound.orderly;
        acyclic = acyclic_purged rows next top sound;
        doomed = well.doomed;
        shut = well.shut;
        static = static_purged;
      }
