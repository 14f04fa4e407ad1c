-- What a reap names is doomed.
use Rattle.std.proofs.Common.{◌≡◌, ℕ, List, [], ◌∷◌, filter, Bool, true, false, cond, not, ◌&&◌, ◌||◌, true≢false}
use Rattle.std.proofs.Common.{Option, Some, None, is_some, IsTrue, refl, sym, ◌∙◌, ap, subst}
use Rattle.std.specs.Prelude.{Contains}
use Rattle.std.specs.List.{list_all}
use Rattle.std.specs.Option.{option_map_or}
use Rattle.std.proofs.lemmas.List.Elements.{All-contains}
use Rattle.std.proofs.lemmas.List.Sums.{AllPass-from_list_all}
use Rattle.std.proofs.lemmas.List.Folds.{list_all-map}
use Rattle.std.specs.Cmp.{first_so, second_so}
use Rattle.cm_world.specs.declared.row.Row.{Row}
use Rattle.cm_world.specs.Rows.{row_of, is_live, has_doomed, has_parent}
use Rattle.cm_world.specs.Sound.{IsOrderly}
use Rattle.cm_world.specs.Expiring.{doomed_children, reaped}
use Rattle.cm_world.proofs.lemmas.trees.Finding.{row_of-inc}
use Rattle.cm_trees.proofs.trees.Trees.{all_rows, and_pair}

-- where each item that passes one test passes another, all that are left by the one pass the other
all_filtered : {A : Type 0} (p q : A → Bool) (xs : List A) → IsTrue (list_all (λ x. not (p x) || q x) xs) → IsTrue (list_all q (filter p xs))
all_filtered p q [] all = refl
all_filtered p q (x ∷ xs) all =
    left_by (p x) (first_so (not (p x) || q x) (list_all (λ y. not (p y) || q y) xs) all)
    (all_filtered p q xs (second_so (not (p x) || q x) (list_all (λ y. not (p y) || q y) xs) all))
  where
    left_by : (b : Bool) → IsTrue (not b || q x) → IsTrue (list_all q (filter p xs)) → IsTrue (list_all q (cond b (x ∷ filter p xs) (filter p xs)))
    left_by true here more = and_pair (q x) (list_all q (filter p xs)) here more
    left_by false here more = more

-- Two tests aren't both so without the second.
both_so : (a b : Bool) → IsTrue (not (a && b) || b)
both_so true true = refl
both_so true false = refl
both_so false b = refl

-- a row that is doomed lives
pub doomed_row : (rows : List Row) (j : ℕ) → IsTrue (has_doomed rows j) → (r : Row) × (row_of rows j ≡ Some r) × (r.doomed ≡ true)
doomed_row rows j doomed = row_by (row_of rows j) refl doomed where
  row_by : (o : Option Row) → row_of rows j ≡ o → IsTrue (option_map_or (λ r. r.doomed) o false) → (r : Row) × (row_of rows j ≡ Some r) × (r.doomed ≡ true)
  row_by None here doomed = absurd (true≢false (sym doomed))
  row_by (Some r) here doomed = (r, here, doomed)

-- A row that is doomed lives.
pub doomed_live : (rows : List Row) (j : ℕ) → IsTrue (has_doomed rows j) → IsTrue (is_live rows j)
doomed_live rows j doomed = ap is_some (doomed_row rows j doomed).1

module _ (rows : List Row) (next : ℕ) (orderly : IsOrderly rows next) where
  -- a row is found as it is
  same_doomed : (i : ℕ) (r : Row) → row_of rows i ≡ Some r → has_doomed rows r.inc ≡ r.doomed
  same_doomed i r lives =
      ap (λ o. option_map_or (λ z. z.doomed) o false) (ap (row_of rows) (row_of-inc rows i r lives) ∙ lives)

  -- The doomed children of a row are doomed.
  children_doomed : (p : ℕ) → IsTrue (list_all (has_doomed rows) (doomed_children rows p))
  children_doomed p =
      list_all-map (has_doomed rows) (λ r. r.inc) (filter (λ r. has_parent p r && r.doomed) rows)
      ∙ all_filtered (λ r. has_parent p r && r.doomed) (λ r. has_doomed rows r.inc) rows
      (all_rows rows next (λ r. not (has_parent p r && r.doomed) || has_doomed rows r.inc) orderly.increasing
      (λ i r lives. subst (λ b. IsTrue (not (has_parent p r && r.doomed) || b)) (sym (same_doomed i r lives)) (both_so (has_parent p r) r.doomed)))

  -- In a list of one doomed row all are doomed.
  one_doomed : (i : ℕ) (b : Bool) → IsTrue b → has_doomed rows i ≡ b → IsTrue (list_all (has_doomed rows) (i ∷ []))
  one_doomed i b doomed is = and_pair (has_doomed rows i) true (is ∙ doomed) refl

  -- What a reap names, a doomed row or its doomed children, is doomed.
  row_doomed : (i : ℕ) (r : Row) (b : Bool) → r.doomed ≡ b → row_of rows i ≡ Some r → IsTrue (list_all (has_doomed rows) (cond b (i ∷ []) (doomed_children rows i)))
  row_doomed i r true is lives =
      one_doomed i true refl (ap (λ o. option_map_or (λ z. z.doomed) o false) lives ∙ is)
  row_doomed i r false is lives = children_doomed i

  -- What a reap names, whether its row is there or not, is doomed.
  reaped_by : (i : ℕ) (o : Option Row) → row_of rows i ≡ o → IsTrue (list_all (has_doomed rows) (elim o as (λ _. List ℕ) [ None ↦ [] | Some r ↦ cond r.doomed (i ∷ []) (doomed_children rows i) ]))
  reaped_by i None here = refl
  reaped_by i (Some r) here = row_doomed i r r.doomed refl here

  -- all that it names is doomed
  pub reaped_doomed : (i : ℕ) → IsTrue (list_all (has_doomed rows) (reaped rows i))
  reaped_doomed i = reaped_by i (row_of rows i) refl

  -- and each of them lives
  pub reaped_row : (i j : ℕ) → Contains (reaped rows i) j → (r : Row) × (row_of rows j ≡ Some r) × (r.doomed ≡ true)
  reaped_row i j there =
      doomed_row rows j
      (All-contains (λ k. IsTrue (has_doomed rows k)) (reaped rows i) j (AllPass-from_list_all (has_doomed rows) (reaped rows i) (reaped_doomed i)) there)

-- what passes one test of each item passes another that follows from it
pub all_more : (p q : ℕ → Bool) → ((j : ℕ) → IsTrue (p j) → IsTrue (q j)) → (xs : List ℕ) → IsTrue (list_all p xs) → IsTrue (list_all q xs)
all_more p q more [] all = refl
all_more p q more (x ∷ xs) all =
    and_pair (q x) (list_all q xs) (more x (first_so (p x) (list_all p xs) all)) (all_more p q more xs (second_so (p x) (list_all p xs) all))
