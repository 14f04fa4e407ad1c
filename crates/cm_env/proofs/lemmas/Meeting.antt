-- Rows that have the text of an earlier one, found one by one.
use Rattle.std.proofs.Common.{◌≡◌, ℕ, zero, suc, ◌+◌, ◌<◌, ◌≤◌, List, [], ◌∷◌, Bool, true, false, ◌||◌, ◌==◌, Option, Some, None, is_some, IsTrue, length, take, get_or, true≢false, refl, sym, ◌∙◌, ap, subst, arith, below_more, bytes_eq}
use Rattle.std.specs.Prelude.{slice_get}
use Rattle.std.specs.List.{list_any, range_with_len}
use Rattle.std.specs.Option.{option_map_or}
use Rattle.std.specs.Cmp.{unsigned_Decides}
use Rattle.std.proofs.lemmas.List.Folds.{list_any_more, list_any_at}
use Rattle.std.proofs.lemmas.List.{take_all}
use Rattle.cm_decl.specs.Breaks.{passes_at}
use Rattle.std.proofs.lemmas.Option.{slice_get-get_or, slice_get_past}
use Rattle.std.proofs.Math.Bool.{or_comm, or_assoc, or-false}
use Rattle.std.proofs.lemmas.Bool.{or_left, or_right, or_from}
use Rattle.cm_valid.specs.Lookup.{has}
use Rattle.cm_valid.proofs.lemmas.Name.{flipped}
use Rattle.cm_env.specs.FirstInside.{IsFirstAt}
use Rattle.cm_env.specs.Repeats.{has_key, meets_at, repeats_at, has_repeats}

-- ---- the row at an index

-- The row at an index within the list is there to be got.
row_at : {B : Type 0} (rows : List B) (i : ℕ) (row : B) → i < length rows → row ≡ get_or rows i row → slice_get rows i ≡ Some row
row_at rows i row below at = slice_get-get_or rows i row below ∙ ap Some (sym at)

-- A row at an index meets one exactly where the others, or the rows before it, have its text.
pub meets_row : {A B : Type 0} (key : A → List ℕ) (own : B → List ℕ) (others : List A) (rows : List B) (i : ℕ) (row : B) → i < length rows → row ≡ get_or rows i row → meets_at key own others rows i ≡ (has_key key others (own row) || has_key own (take i rows) (own row))
meets_row key own others rows i row below at =
    ap (λ o. option_map_or (λ r. has_key key others (own r) || has_key own (take i rows) (own r)) o false) (row_at rows i row below at)

-- From the end of the rows on, no row has the text of an earlier one.
pub no_more : {A B : Type 0} (key : A → List ℕ) (own : B → List ℕ) (others : List A) (rows : List B) (i : ℕ) → length rows ≤ i → IsTrue (meets_at key own others rows i) → ⊥
no_more key own others rows i past h =
    true≢false (sym h ∙ ap (λ o. option_map_or (λ r. has_key key others (own r) || has_key own (take i rows) (own r)) o false) (slice_get_past rows i past))

-- ---- none so far

-- none of the rows before this one has such a text
abbrev pub NoneBefore : (ℕ → Bool) → ℕ → Type 0
NoneBefore test i = (j : ℕ) → j < i → IsTrue (test j) → ⊥

-- Before the first row, none passes a test.
pub none_first : (test : ℕ → Bool) → NoneBefore test 0
none_first test j low h = absurd (omega arith)

-- Where none before an index passes a test, and it doesn't either, none before the next one does.
pub none_more : (test : ℕ → Bool) (i : ℕ) → NoneBefore test i → test i ≡ false → NoneBefore test (i + 1)
none_more test i before here = below_more (λ j. IsTrue (test j) → ⊥) i before (λ h. true≢false (sym h ∙ here))

-- An index past the end of the rows has no text of an earlier row or of the others.
none_by : {A B : Type 0} (key : A → List ℕ) (own : B → List ℕ) (others : List A) (rows : List B) (j : ℕ) → NoneBefore (meets_at key own others rows) (length rows) → (j < length rows → ⊥) → IsTrue (meets_at key own others rows j) → ⊥
none_by key own others rows j before past h = no_more key own others rows j (omega arith) h

-- Where none passes before the end of the rows, no row has the text of an earlier one.
pub none_at_all : {A B : Type 0} (key : A → List ℕ) (own : B → List ℕ) (others : List A) (rows : List B) (i : ℕ) → length rows ≤ i → NoneBefore (meets_at key own others rows) i → IsFirstAt (meets_at key own others rows) None
none_at_all key own others rows i all before j h =
    none_by key own others rows j (λ k low. before k (omega arith)) (λ low. before j (omega arith) h) h

-- A row with the text of one of the others is the first, where none before it has such a text.
pub met_other : {A B : Type 0} (key : A → List ℕ) (own : B → List ℕ) (others : List A) (rows : List B) (i : ℕ) (row : B) (text : List ℕ) (found : Bool) → i < length rows → row ≡ get_or rows i row → text ≡ own row → found ≡ has_key key others text → found ≡ true → NoneBefore (meets_at key own others rows) i → IsFirstAt (meets_at key own others rows) (Some i)
met_other key own others rows i row text found below at is told met before = (
  meets_row key own others rows i row below at
      ∙ or_left (has_key key others (own row)) (has_key own (take i rows) (own row)) (ap (has_key key others) (sym is) ∙ sym told ∙ met),
  before,
)

-- A row with the text of an earlier one is the first, where none before it has such a text.
pub met_earlier : {A B : Type 0} (key : A → List ℕ) (own : B → List ℕ) (others : List A) (rows : List B) (i : ℕ) (row : B) (text : List ℕ) (found : Bool) → i < length rows → row ≡ get_or rows i row → text ≡ own row → found ≡ has_key own (take i rows) text → found ≡ true → NoneBefore (meets_at key own others rows) i → IsFirstAt (meets_at key own others rows) (Some i)
met_earlier key own others rows i row text found below at is told met before = (
  meets_row key own others rows i row below at
      ∙ or_right (has_key key others (own row)) (has_key own (take i rows) (own row)) (ap (has_key own (take i rows)) (sym is) ∙ sym told ∙ met),
  before,
)

-- Where a row has neither the text of the others nor of an earlier one, there is none so far.
pub met_none : {A B : Type 0} (key : A → List ℕ) (own : B → List ℕ) (others : List A) (rows : List B) (i : ℕ) (row : B) (text same : List ℕ) (first later : Bool) → i < length rows → row ≡ get_or rows i row → text ≡ own row → first ≡ has_key key others text → first ≡ false → same ≡ own row → later ≡ has_key own (take i rows) same → later ≡ false → NoneBefore (meets_at key own others rows) i → NoneBefore (meets_at key own others rows) (i + 1)
met_none key own others rows i row text same first later below at is told misses again said passes before =
    none_more (meets_at key own others rows) i before
    (meets_row key own others rows i row below at
    ∙ or_from (has_key key others (own row)) (has_key own (take i rows) (own row)) (ap (has_key key others) (sym is) ∙ sym told ∙ misses) (ap (has_key own (take i rows)) (sym again) ∙ sym said ∙ passes))

-- ---- by a set

-- the set has the texts of the others, and of the first i rows
abbrev pub HasSeen : {A B : Type 0} → (A → List ℕ) → (B → List ℕ) → List A → List B → ℕ → List (List ℕ) → Type 0
HasSeen key own others rows i seen = (text : List ℕ) → has seen text ≡ (has_key key others text || has_key own (take i rows) text)

-- The set of the texts of the others has all that were seen before the first row.
pub seen_first : {A B : Type 0} (key : A → List ℕ) (own : B → List ℕ) (others : List A) (rows : List B) (seen : List (List ℕ)) → ((text : List ℕ) → has seen text ≡ has_key key others text) → HasSeen key own others rows 0 seen
seen_first key own others rows seen has_others text = has_others text ∙ sym (or-false (has_key key others text))

-- Three tests, one of which has to hold, may be told in another order.
swapped : (p q r : Bool) → (p || (q || r)) ≡ (q || (r || p))
swapped p q r = or_comm p (q || r) ∙ or_assoc q r p

-- With the text of the next row in it, the set has all that were seen up to that row.
pub seen_more : {A B : Type 0} (key : A → List ℕ) (own : B → List ℕ) (others : List A) (rows : List B) (i : ℕ) (row : B) (text : List ℕ) (seen more : List (List ℕ)) → i < length rows → row ≡ get_or rows i row → text ≡ own row → HasSeen key own others rows i seen → ((other : List ℕ) → has more other ≡ (bytes_eq other text || has seen other)) → HasSeen key own others rows (i + 1) more
seen_more key own others rows i row text seen more below at is before added other =
    added other
    ∙ ap (λ v. v || has seen other) (flipped other text ∙ ap (λ t. bytes_eq t other) is ∙ ap (λ r. bytes_eq (own r) other) at)
    ∙ ap (λ v. bytes_eq (own (get_or rows i row)) other || v) (before other)
    ∙ swapped (bytes_eq (own (get_or rows i row)) other) (has_key key others other) (has_key own (take i rows) other)
    ∙ ap (λ v. has_key key others other || v) (sym (list_any_more (λ r. bytes_eq (own r) other) rows i row below))

-- The set has the text of the next row exactly where this meets one of the others or an earlier row.
pub seen_met : {A B : Type 0} (key : A → List ℕ) (own : B → List ℕ) (others : List A) (rows : List B) (i : ℕ) (row : B) (text : List ℕ) (found : Bool) (seen : List (List ℕ)) → i < length rows → row ≡ get_or rows i row → text ≡ own row → HasSeen key own others rows i seen → found ≡ has seen text → found ≡ meets_at key own others rows i
seen_met key own others rows i row text found seen below at is before told =
    told ∙ ap (has seen) is ∙ before (own row) ∙ sym (meets_row key own others rows i row below at)

-- ---- whether some row repeats another

-- Where no index from a place on passes a test, no index of the range is found to.
any_from : (test : ℕ → Bool) (a n : ℕ) → ((j : ℕ) → a ≤ j → j < a + n → IsTrue (test j) → ⊥) → list_any test (range_with_len a n) ≡ false
any_from test a zero none = refl
any_from test a (suc n) none = by (test a) refl (any_from test (a + 1) n (λ j low high h. none j (omega arith) (omega arith) h)) where
  by : (t : Bool) → test a ≡ t → list_any test (range_with_len (a + 1) n) ≡ false → (t || list_any test (range_with_len (a + 1) n)) ≡ false
  by true here rest = absurd (none a (omega arith) (omega arith) here)
  by false here rest = rest

-- Where an index within a range passes a test, one of the range is found to.
any_here : (test : ℕ → Bool) (a n i : ℕ) → a ≤ i → i < a + n → IsTrue (test i) → list_any test (range_with_len a n) ≡ true
any_here test a zero i low high here = absurd (omega arith)
any_here test a (suc n) i low high here = by (i == a) refl (λ up. any_here test (a + 1) n i (omega arith) (omega arith) here) where
  by : (t : Bool) → (i == a) ≡ t → (a < i → list_any test (range_with_len (a + 1) n) ≡ true) → (test a || list_any test (range_with_len (a + 1) n)) ≡ true
  by true same later = or_left (test a) (list_any test (range_with_len (a + 1) n)) (subst (λ k. IsTrue (test k)) ((unsigned_Decides i a).0 same) here)
  by false same later =
      let apart : i ≡ a → ⊥ = λ e. true≢false (sym ((unsigned_Decides i a).1 e) ∙ same) in
      or_right (test a) (list_any test (range_with_len (a + 1) n)) (later (omega arith))

-- Past the end of the rows no index has the text of an earlier row.
past_none : {B : Type 0} (own : B → List ℕ) (rows : List B) (i : ℕ) → length rows ≤ i → IsTrue (repeats_at own rows i) → ⊥
past_none own rows i past h = true≢false (sym h ∙ ap (λ o. option_map_or (λ r. has_key own (take i rows) (own r)) o false) (slice_get_past rows i past))

-- An index that repeats an earlier row's text and isn't past the end is within the rows.
within : {B : Type 0} (own : B → List ℕ) (rows : List B) (i : ℕ) → IsTrue (repeats_at own rows i) → (length rows ≤ i → ⊥) → i < length rows
within own rows i h past = omega arith

-- a row repeats an earlier one exactly where a first one does
pub repeats_found : {B : Type 0} (own : B → List ℕ) (rows : List B) (o : Option ℕ) → IsFirstAt (repeats_at own rows) o → is_some o ≡ has_repeats own rows
repeats_found own rows None none = sym (any_from (repeats_at own rows) 0 (length rows) (λ j low high h. none j h))
repeats_found own rows (Some i) first =
    let low : i < length rows = within own rows i first.0 (λ past. past_none own rows i past first.0) in
    sym (any_here (repeats_at own rows) 0 (length rows) i (omega arith) (omega arith) first.0)

-- ---- rows that pass a test

-- An index within the rows passes a test exactly where the row there does.
passes_row : {A : Type 0} (p : A → Bool) (rows : List A) (i : ℕ) (row : A) → i < length rows → row ≡ get_or rows i row → passes_at p rows i ≡ p row
passes_row p rows i row below at = ap (λ o. option_map_or p o false) (row_at rows i row below at)

-- A row that passes a test is the first that does, where none before it does.
pub passes_here : {A : Type 0} (p : A → Bool) (rows : List A) (i : ℕ) (row : A) (found : Bool) → i < length rows → row ≡ get_or rows i row → found ≡ p row → found ≡ true → NoneBefore (passes_at p rows) i → IsFirstAt (passes_at p rows) (Some i)
passes_here p rows i row found below at told hits before = (passes_row p rows i row below at ∙ sym told ∙ hits, before)

-- Where a row doesn't pass a test and none before it does, none up to there does.
pub passes_more : {A : Type 0} (p : A → Bool) (rows : List A) (i : ℕ) (row : A) (found : Bool) → i < length rows → row ≡ get_or rows i row → found ≡ p row → found ≡ false → NoneBefore (passes_at p rows) i → NoneBefore (passes_at p rows) (i + 1)
passes_more p rows i row found below at told misses before =
    none_more (passes_at p rows) i before (passes_row p rows i row below at ∙ sym told ∙ misses)

-- Past the end of the rows no index passes a test.
past_passes : {A : Type 0} (p : A → Bool) (rows : List A) (i : ℕ) → length rows ≤ i → IsTrue (passes_at p rows i) → ⊥
past_passes p rows i past h = true≢false (sym h ∙ ap (λ o. option_map_or p o false) (slice_get_past rows i past))

-- Where none passes a test before the end of the rows, none passes it at all.
pub passes_none : {A : Type 0} (p : A → Bool) (rows : List A) (i : ℕ) → length rows ≤ i → NoneBefore (passes_at p rows) i → IsFirstAt (passes_at p rows) None
passes_none p rows i all before j h = by (λ low. before j low h) (λ past. past_passes p rows j past h) where
  by : (j < i → ⊥) → (length rows ≤ j → ⊥) → ⊥
  by early late = absurd (omega arith)

-- whether some row does, row by row
pub any_here_at : {A : Type 0} (p : A → Bool) (rows : List A) (i : ℕ) (row : A) (found : Bool) → i < length rows → row ≡ get_or rows i row → found ≡ p row → found ≡ true → true ≡ list_any p rows
any_here_at p rows i row found below at told hits = sym (list_any_at p rows i row below (ap p (sym at) ∙ sym told ∙ hits))

-- Where none of the first rows passes a test, and the next doesn't, none of one row more does.
pub any_not_yet : {A : Type 0} (p : A → Bool) (rows : List A) (i : ℕ) (row : A) (found : Bool) → i < length rows → row ≡ get_or rows i row → found ≡ p row → found ≡ false → list_any p (take i rows) ≡ false → list_any p (take (i + 1) rows) ≡ false
any_not_yet p rows i row found below at told misses before =
    list_any_more p rows i row below ∙ or_from (list_any p (take i rows)) (p (get_or rows i row)) before (ap p (sym at) ∙ sym told ∙ misses)

-- Where none passes of as many first rows as there are, no row passes.
pub any_none : {A : Type 0} (p : A → Bool) (rows : List A) (i : ℕ) → length rows ≤ i → list_any p (take i rows) ≡ false → false ≡ list_any p rows
any_none p rows i all before = sym (ap (list_any p) (sym (take_all i rows all)) ∙ before)
