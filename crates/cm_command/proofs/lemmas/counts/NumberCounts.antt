-- Numbers, digit by digit.
use Rattle.std.proofs.Common.{◌≡◌, ◌≢◌, ℕ, zero, suc, ◌+◌, ◌-◌, ◌*◌, ◌<◌, ◌≤◌, ◌^◌, List, [], ◌∷◌, ◌++◌, length, take, get_or, IsTrue, refl, sym, ap, subst, ◌∙◌, arith, rules, append_assoc, append-nil, length-append}
use Rattle.std.proofs.Math.Seq.{get_or-append_seam}
use Rattle.std.proofs.lemmas.List.{take_more}
use Rattle.std.proofs.lemmas.List.Elements.{All-cons, All-nil, All-append}
use Rattle.cm_names.specs.Prefixes.{HasCompletion}
use Rattle.cm_command.specs.Counts.{CountsPrefixes}
use Rattle.cm_command.specs.Numbers.{is_digit, value_behind, IsDecimal}
use Rattle.cm_command.specs.NumbersInside.{IsU64Text}
use Rattle.cm_command.proofs.lemmas.counts.Count.{take_none}
use Rattle.cm_command.proofs.lemmas.counts.Kind.{counts_stop, counts_all}
use Rattle.cm_command.proofs.lemmas.bytes.Pieces.{value_snoc}

-- the digits so far, and the number that they stand for
pub record IsSoFar (w : List ℕ) (i n : ℕ) : Type 0 where
  pub number : n ≡ value_behind 0 (take i w)
  pub digits : 0 < i → IsDecimal (take i w)
  pub small : n < 2 ^ 64

-- The value of digits and more behind them is that of more behind the value of the first.
value_append : (n : ℕ) (xs ys : List ℕ) → value_behind n (xs ++ ys) ≡ value_behind (value_behind n xs) ys
value_append n [] ys = refl
value_append n (x ∷ xs) ys = value_append (n * 10 + (x - 48)) xs ys

-- The value of more digits behind a number is no lower than the number.
value_grows : (n : ℕ) (ds : List ℕ) → n ≤ value_behind n ds
value_grows n [] = omega arith
value_grows n (d ∷ ds) = let rest = value_grows (n * 10 + (d - 48)) ds in omega arith

-- A digit's byte is 48 at least.
digit_low : (b : ℕ) → IsTrue (is_digit b) → 48 ≤ b
digit_low b h = grind (arith, rules)

-- only one zero stands for zero
zero_alone : (t : List ℕ) → IsDecimal t → value_behind 0 t ≡ 0 → t ≡ 48 ∷ []
zero_alone [] h e = absurd h
zero_alone (d ∷ ds) h e =
    let low : 48 ≤ d = digit_low d h.0 in
    let grows : 0 * 10 + (d - 48) ≤ value_behind (0 * 10 + (d - 48)) ds = value_grows (0 * 10 + (d - 48)) ds in
    let is : d ≡ 48 = omega arith in
    ap (λ x. x ∷ ds) is ∙ ap (λ xs. 48 ∷ xs) (h.2 is)

-- The empty text can be completed to a number of 64 bits.
pub number_begins : HasCompletion IsU64Text []
number_begins = (48 ∷ [], (0, ((refl, All-nil (λ b. IsTrue (is_digit b)), λ _. refl), refl), omega arith))

-- The digits so far can be completed to a number of 64 bits.
pub number_prefix : (w : List ℕ) (i n : ℕ) → IsSoFar w i n → HasCompletion IsU64Text (take i w)
number_prefix w zero n far = subst (HasCompletion IsU64Text) (sym (take_none w)) number_begins
number_prefix w (suc i) n far =
    ([], subst IsU64Text (sym (append-nil (take (suc i) w))) (n, (far.digits (omega arith), sym far.number), far.small))

-- No number goes on behind a zero at its start.
zero_ends : (b : ℕ) (r : List ℕ) → IsDecimal (((48 ∷ []) ++ b ∷ []) ++ r) → ⊥
zero_ends b r h = let none : b ∷ r ≡ [] = h.2 refl in absurd (cc none)

-- a zero is not followed by anything
pub zero_stops : (w : List ℕ) (i n : ℕ) → i < length w → IsSoFar w i n → 0 < i → n ≡ 0 → CountsPrefixes IsU64Text w (i + 1)
zero_stops w i n lt far some e =
    let zero_is : take i w ≡ 48 ∷ [] = zero_alone (take i w) (far.digits some) (sym far.number ∙ e) in
    counts_stop w i lt (number_prefix w i n far) (λ more. zero_ends (get_or w i 0) more.0 (subst IsDecimal (ap (λ t. t ++ more.0) (take_more w i 0 lt ∙ ap (λ t. t ++ get_or w i 0 ∷ []) zero_is)) more.1.1.0))

-- A byte in a number is a digit.
digit_at : (xs r : List ℕ) (b : ℕ) → IsDecimal (xs ++ b ∷ r) → IsTrue (is_digit b)
digit_at [] r b h = h.0
digit_at (x ∷ xs) r b h =
    subst (λ d. IsTrue (is_digit d)) (get_or-append_seam xs b r 0) (h.1 (length xs) 0 (omega (arith, length-append xs (b ∷ r))))

-- A number isn't below the limit, where its digits up to one reach it.
too_great : (xs r : List ℕ) (b n m limit : ℕ) → n ≡ value_behind 0 xs → (IsTrue (is_digit b) → limit ≤ n * 10 + (b - 48)) → IsDecimal (xs ++ b ∷ r) → value_behind 0 (xs ++ b ∷ r) ≡ m → m < limit → ⊥
too_great xs r b n m limit e great h is lt =
    let over : limit ≤ n * 10 + (b - 48) = great (digit_at xs r b h) in
    let grows : n * 10 + (b - 48) ≤ value_behind (n * 10 + (b - 48)) r = value_grows (n * 10 + (b - 48)) r in
    let whole : value_behind (n * 10 + (b - 48)) r ≡ m = ap (λ k. value_behind k (b ∷ r)) e ∙ sym (value_append 0 xs (b ∷ r)) ∙ is in
    absurd (omega arith)

-- the next byte is no digit, or the number would be too great
pub digit_stops : (w : List ℕ) (i n : ℕ) → i < length w → IsSoFar w i n → (IsTrue (is_digit (get_or w i 0)) → 2 ^ 64 ≤ n * 10 + (get_or w i 0 - 48)) → CountsPrefixes IsU64Text w (i + 1)
digit_stops w i n lt far great =
    counts_stop w i lt (number_prefix w i n far) (λ more. let cut : take (i + 1) w ++ more.0 ≡ take i w ++ get_or w i 0 ∷ more.0 = ap (λ t. t ++ more.0) (take_more w i 0 lt) ∙ append_assoc (take i w) (get_or w i 0 ∷ []) more.0 in too_great (take i w) more.0 (get_or w i 0) n more.1.0 (2 ^ 64) far.number great (subst IsDecimal cut more.1.1.0) (ap (value_behind 0) (sym cut) ∙ more.1.1.1) more.1.2)

-- A decimal number that isn't zero, with one digit more, is a decimal number.
pub decimal_more : (t : List ℕ) (b : ℕ) → IsDecimal t → value_behind 0 t ≢ 0 → IsTrue (is_digit b) → IsDecimal (t ++ b ∷ [])
decimal_more [] b h some digit = absurd h
decimal_more (d ∷ ds) b h some digit =
    (h.0, All-append (λ c. IsTrue (is_digit c)) ds (b ∷ []) h.1 (All-cons (λ c. IsTrue (is_digit c)) b [] digit (All-nil (λ c. IsTrue (is_digit c)))), λ is. let alone : ds ≡ [] = h.2 is in let value : value_behind (0 * 10 + (d - 48)) ds ≡ 0 * 10 + (d - 48) = ap (value_behind (0 * 10 + (d - 48))) alone in absurd (some (value ∙ omega arith)))

-- With one digit more, which fits in 64 bits, the number so far is that of the digits so far.
pub digit_more : (w : List ℕ) (i n m : ℕ) → i < length w → IsSoFar w i n → (0 < i → n ≢ 0) → IsTrue (is_digit (get_or w i 0)) → m ≡ n * 10 + (get_or w i 0 - 48) → m < 2 ^ 64 → IsSoFar w (i + 1) m
digit_more w zero n m lt far some digit e small =
    let cut : take (0 + 1) w ≡ take 0 w ++ get_or w 0 0 ∷ [] = take_more w 0 0 lt in
    record {
      number = e ∙ ap (λ k. k * 10 + (get_or w 0 0 - 48)) far.number ∙ sym (ap (value_behind 0) cut ∙ value_snoc 0 (take 0 w) (get_or w 0 0));
      digits = λ _. subst IsDecimal (sym (cut ∙ ap (λ t. t ++ get_or w 0 0 ∷ []) (take_none w))) (digit, All-nil (λ c. IsTrue (is_digit c)), λ _. refl);
      small = small;
    }
digit_more w (suc i) n m lt far some digit e small =
    let cut : take (suc i + 1) w ≡ take (suc i) w ++ get_or w (suc i) 0 ∷ [] = take_more w (suc i) 0 lt in
    record {
      number = e ∙ ap (λ k. k * 10 + (get_or w (suc i) 0 - 48)) far.number ∙ sym (ap (value_behind 0) cut ∙ value_snoc 0 (take (suc i) w) (get_or w (suc i) 0));
      digits = λ _. subst IsDecimal (sym cut) (decimal_more (take (suc i) w) (get_or w (suc i) 0) (far.digits (omega arith)) (λ z. some (omega arith) (far.number ∙ z)) digit);
      small = small;
    }

-- The empty text is no number.
pub nothing_is_no_number : (w : List ℕ) → length w ≡ 0 → IsU64Text w → ⊥
nothing_is_no_number [] e h = h.1.0
nothing_is_no_number (b ∷ bs) e h = absurd (omega arith)

-- Of the empty text just the empty prefix can be completed to a number of 64 bits.
pub nothing_counts : (w : List ℕ) → length w ≡ 0 → CountsPrefixes IsU64Text w 1
nothing_counts w e = counts_all w 0 (sym e) (subst (HasCompletion IsU64Text) (sym (take_none w)) number_begins)
