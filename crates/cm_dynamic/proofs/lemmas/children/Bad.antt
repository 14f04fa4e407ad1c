-- The first bad offer to a new child.
use Rattle.std.proofs.Common.{◌≡◌, ℕ, zero, suc, ◌+◌, ◌-◌, ◌<◌, List, [], ◌∷◌, ◌++◌, Bool, Option, Some, None, length, take, get_or, option_map, option_and_then, refl, sym, ◌∙◌, ap, arith}
use Rattle.std.specs.List.{filter_map, cons_option, range_with_len, slice_get}
use Rattle.std.proofs.lemmas.List.Elements.{filter_map-append}
use Rattle.std.proofs.lemmas.Option.{slice_get-get_or}
use Rattle.cm_names.specs.declared.child.ChildName.{ChildName}
use Rattle.cm_decl.specs.declared.decl.Decl.{Decl}
use Rattle.cm_decl.specs.declared.rows.Give.{Give}
use Rattle.cm_decl.specs.Rules.{Rule, number_of}
use Rattle.cm_decl.specs.Dynamic.{give_fault, bad_give_at, bad_give}
use Rattle.cm_dynamic.specs.Offers.{NoneBad}

-- ---- numbers in a row

-- A range is its first numbers, the next one, and those behind it.
range_cut : (a n m : ℕ) → range_with_len a (n + suc m) ≡ range_with_len a n ++ (a + n) ∷ range_with_len (a + n + 1) m
range_cut a zero m =
    let all : 0 + suc m ≡ suc m = omega arith in
    let first : a + 0 ≡ a = omega arith in rw (all, first) refl
range_cut a (suc n) m =
    let all : suc n + suc m ≡ suc (n + suc m) = omega arith in
    let place : a + suc n ≡ a + 1 + n = omega arith in rw (all, place) (ap (λ l. a ∷ l) (range_cut (a + 1) n m))

-- ---- the first of numbers that gives something

-- Where nothing is given before a number and something at it, that is the first in the range.
first_given : {B : Type 0} (h : ℕ → Option B) (n m : ℕ) (b : B) → filter_map h (range_with_len 0 n) ≡ [] → h n ≡ Some b → slice_get (filter_map h (range_with_len 0 (n + suc m))) 0 ≡ Some b
first_given {B} h n m b none here =
    let zeros : 0 + n ≡ n = omega arith in
    ap (λ l. slice_get (filter_map h l) 0) (range_cut 0 n m)
    ∙ ap (λ l. slice_get l 0) (
    filter_map-append h (range_with_len 0 n) ((0 + n) ∷ range_with_len (0 + n + 1) m)
    ∙ ap (λ l. l ++ filter_map h ((0 + n) ∷ range_with_len (0 + n + 1) m)) none
    ∙ ap (λ k. cons_option (h k) (filter_map h (range_with_len (0 + n + 1) m))) zeros
    ∙ ap (λ o. cons_option o (filter_map h (range_with_len (0 + n + 1) m))) here
    )

-- Where nothing is given before a number nor at it, nothing is given up to behind it.
none_given : {B : Type 0} (h : ℕ → Option B) (n : ℕ) → filter_map h (range_with_len 0 n) ≡ [] → h n ≡ None → filter_map h (range_with_len 0 (n + 1)) ≡ []
none_given h n none here =
    let zeros : 0 + n ≡ n = omega arith in
    ap (filter_map h) (range_cut 0 n 0)
    ∙ filter_map-append h (range_with_len 0 n) ((0 + n) ∷ [])
    ∙ ap (λ l. l ++ filter_map h ((0 + n) ∷ [])) none
    ∙ ap (λ k. cons_option (h k) []) zeros
    ∙ ap (λ o. cons_option o []) here

-- ---- the fault of one offer

-- A rule that a give breaks, beside its place, is told by the rule's number.
as_pair : (i : ℕ) (o : Option ℕ) (f : Option Rule) → o ≡ option_map number_of f → option_map {U = ℕ × ℕ} (λ rule. (i, number_of rule)) f ≡ option_map (λ n. (i, n)) o
as_pair i o None e = sym (ap (option_map {U = ℕ × ℕ} (λ n. (i, n))) e)
as_pair i o (Some rule) e = sym (ap (option_map {U = ℕ × ℕ} (λ n. (i, n))) e)

-- What is bad about the give at a place is told by the number of the rule that it breaks.
judged : (d : Decl) (there : ChildName → Bool) (coll : List ℕ) (gives : List Give) (i : ℕ) (g : Give) (o : Option ℕ) → i < length gives → g ≡ get_or gives i g → o ≡ option_map number_of (give_fault d there coll (take i gives) g) → bad_give_at d there coll gives i ≡ option_map (λ n. (i, n)) o
judged d there coll gives i g o low is e =
    ap (λ s. option_map {U = ℕ × ℕ} (λ rule. (i, number_of rule)) (option_and_then (give_fault d there coll (take i gives)) s)) (slice_get-get_or gives i g low ∙ ap Some (sym is))
    ∙ as_pair i o (give_fault d there coll (take i gives) g) e

-- ---- the loop over the offers

-- behind offers that aren't bad, a bad one is the first
pub first_bad : (d : Decl) (there : ChildName → Bool) (coll : List ℕ) (gives : List Give) (i : ℕ) (g : Give) (number : ℕ) → NoneBad d there coll gives i → i < length gives → g ≡ get_or gives i g → Some number ≡ option_map number_of (give_fault d there coll (take i gives) g) → bad_give d there coll gives ≡ Some (i, number)
first_bad d there coll gives i g number none low is e =
    let rest : length gives ≡ i + suc (length gives - i - 1) = omega arith in
    ap (λ n. slice_get (filter_map (bad_give_at d there coll gives) (range_with_len 0 n)) 0) rest
    ∙ first_given (bad_give_at d there coll gives) i (length gives - i - 1) (i, number) none (judged d there coll gives i g (Some number) low is e)

-- With one offer more that isn't bad, none of those so far is.
pub none_more : (d : Decl) (there : ChildName → Bool) (coll : List ℕ) (gives : List Give) (i : ℕ) (g : Give) → NoneBad d there coll gives i → i < length gives → g ≡ get_or gives i g → None ≡ option_map number_of (give_fault d there coll (take i gives) g) → NoneBad d there coll gives (i + 1)
none_more d there coll gives i g none low is e =
    none_given (bad_give_at d there coll gives) i none (judged d there coll gives i g None low is e)
