-- A text without a fault, and a name.
use Rattle.std.proofs.Common.{◌≡◌, ◌≢◌, ℕ, zero, suc, get_or, ◌+◌, ◌≤◌, List, [], ◌∷◌, length, Bool, true, false, cond, not, ◌&&◌, Option, Some, None, refl, sym, ap, true≢false, ◌∙◌, arith, nat_lt, rules, ◌==◌}
use Rattle.std.specs.List.{All}
use Rattle.std.specs.Option.{is_some}
use Rattle.std.specs.Prelude.{position, option_map, IsTrue}
use Rattle.std.proofs.lemmas.Bool.{and_parts}
use Rattle.std.proofs.lemmas.List.Quantifiers.{position-Some}
use Rattle.std.specs.List.{position_or_len, list_all}
use Rattle.cm_names.specs.Name.{IsName, name_fault, first_bad, begins_name, continues_name}
use Rattle.cm_names.specs.declared.name.NameFault.{NameFault}
use Rattle.cm_names.specs.declared.name.NameFault.TheVariants.{Empty, TooLong, BadByte}

-- With one more item in front, none fails exactly where it passes and none of the rest fails.
one_more : (b all : Bool) (n m : ℕ) → not (nat_lt n m) ≡ all → not (nat_lt (cond (not (not b)) (1 + n) 0) (suc m)) ≡ (b && all)
one_more true all n m h = rw (← h) (grind (arith, rules))
one_more false all n m h = grind (arith, rules)

-- no byte fails the test exactly where all pass it
pub none_fails : (p : ℕ → Bool) (xs : List ℕ) → not (nat_lt (position_or_len (λ b. not (p b)) xs) (length xs)) ≡ list_all p xs
none_fails p [] = refl
none_fails p (x ∷ xs) = one_more (p x) (list_all p xs) (position_or_len (λ b. not (p b)) xs) (length xs) (none_fails p xs)

-- Where all items of a list pass a test, each of them passes it.
each_passes : (p : ℕ → Bool) (xs : List ℕ) → list_all p xs ≡ true → All (λ x. IsTrue (p x)) xs
each_passes p (x ∷ xs) h zero d lt = (and_parts (p x) (list_all p xs) h).0
each_passes p (x ∷ xs) h (suc k) d lt = each_passes p xs (and_parts (p x) (list_all p xs) h).1 k d (omega arith)
each_passes p [] h k d lt = absurd (omega arith)

-- Where a place that is told if a test passes isn't told, the test doesn't pass.
none_is_false : (b : Bool) (i : ℕ) → cond {A = Option ℕ} b (Some i) None ≡ None → b ≡ false
none_is_false true i h = absurd (true≢false (ap is_some h))
none_is_false false i h = refl

-- what holds where none of the tests finds a fault
record Faultless (long begins : Bool) (place : Option ℕ) : Type 0 where
  short : long ≡ false
  first : begins ≡ true
  rest : place ≡ None

-- Where no fault is found, the text isn't long, begins well and has no bad byte.
no_fault : (long begins : Bool) (place : Option ℕ) → cond {A = Option NameFault} long (Some TooLong) (option_map BadByte (cond begins (option_map (λ i. i + 1) place) (Some 0))) ≡ None → Faultless long begins place
no_fault true begins place h = absurd (true≢false (ap is_some h))
no_fault false false place h = absurd (true≢false (ap is_some h))
no_fault false true None h = record { short = refl; first = refl; rest = refl }
no_fault false true (Some i) h = absurd (true≢false (ap is_some h))

-- A text that has a byte isn't empty.
pub not_empty : (b : ℕ) (bs : List ℕ) → (length (b ∷ bs) == 0) ≡ false
not_empty b bs = grind (arith, rules)

-- A length that isn't found to be above 255 is at most 255.
within : (n : ℕ) → nat_lt 255 n ≡ false → n ≤ 255
within n h = grind (arith, rules)

-- A length of at most 255 isn't found to be above 255.
not_long : (n : ℕ) → n ≤ 255 → nat_lt 255 n ≡ false
not_long n h = grind (arith, rules)

-- The place of the first byte that doesn't continue a name, if there is one.
abbrev bad_rest : List ℕ → Option ℕ
bad_rest bs = position (λ c. not (continues_name c)) bs

-- A text without a fault of a name is a name.
pub faultless_name : (t : List ℕ) → name_fault t ≡ None → IsName t
faultless_name [] h = absurd (true≢false (ap is_some h))
faultless_name (b ∷ bs) h =
    let f : Faultless (nat_lt 255 (length (b ∷ bs))) (begins_name b) (bad_rest bs) = no_fault (nat_lt 255 (length (b ∷ bs))) (begins_name b) (bad_rest bs) (sym (ap (λ empty. cond {A = Option NameFault} empty (Some Empty) (cond (nat_lt 255 (length (b ∷ bs))) (Some TooLong) (option_map BadByte (first_bad (b ∷ bs))))) (not_empty b bs)) ∙ h) in
    let none : nat_lt (position_or_len (λ c. not (continues_name c)) bs) (length bs) ≡ false = none_is_false (nat_lt (position_or_len (λ c. not (continues_name c)) bs) (length bs)) (position_or_len (λ c. not (continues_name c)) bs) f.rest in
    (within (length (b ∷ bs)) f.short, f.first, each_passes continues_name bs (sym (none_fails continues_name bs) ∙ ap not none))

-- Where all bytes continue names, there is no place of a bad one.
no_bad_rest : (bs : List ℕ) → All (λ c. IsTrue (continues_name c)) bs → bad_rest bs ≡ None
no_bad_rest bs h = by (bad_rest bs) refl
  where
    clash : (b : Bool) → b ≡ true → not b ≡ true → ⊥
    clash true e f = true≢false (sym f)
    clash false e f = true≢false (sym e)

    by : (o : Option ℕ) → bad_rest bs ≡ o → bad_rest bs ≡ None
    by None e = e
    by (Some i) e = let f = position-Some (λ c. not (continues_name c)) bs i 0 e in absurd (clash (continues_name (get_or bs i 0)) (h i 0 f.0) f.1)

-- A name is a text without a fault of a name.
pub name_faultless : (t : List ℕ) → IsName t → name_fault t ≡ None
name_faultless [] h = absurd h
name_faultless (b ∷ bs) h = rw (not_empty b bs) (rw (not_long (length (b ∷ bs)) h.0) (rw h.1 (rw (no_bad_rest bs h.2) refl)))

-- ---- the first byte of a name

-- A byte that may begin a name may follow in one too.
pub begins_continues : (b : ℕ) → IsTrue (begins_name b) → IsTrue (continues_name b)
begins_continues b h = grind (arith, rules)

-- A byte that may begin a name is no dot.
pub not_dot : (b : ℕ) → IsTrue (begins_name b) → (b == 46) ≡ false
not_dot b h = grind (arith, rules)
