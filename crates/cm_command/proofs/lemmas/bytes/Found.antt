-- The first place of a byte, as a search tells it.
use Rattle.std.proofs.Common.{◌≡◌, ℕ, ◌<◌, List, false, nat_lt, cond, ◌==◌, Option, Some, None, All, length, get_or, sym, ◌∙◌, ap, arith}
use Rattle.std.specs.Prelude.{position, IfSome, IfNone}
use Rattle.std.specs.List.{position_or_len}
use Rattle.std.proofs.lemmas.Bool.{lt-ltb, le-ltb, false_from_ne_true}
use Rattle.std.proofs.lemmas.List.{get_or_default}
use Rattle.std.proofs.lemmas.List.Sums.{position_or_len_is}
use Rattle.memchr.specs.Find.{IsFirstByte, is_byte}

-- the place is that of the first byte
pub found_place : (k : ℕ) (xs : List ℕ) (r : Option ℕ) → IsFirstByte (is_byte k) xs r → r ≡ position (λ b. b == k) xs
found_place k xs (Some i) found =
    let inside : i < length xs = found.0.high in
    let at : position_or_len (λ b. b == k) xs ≡ i = position_or_len_is (λ b. b == k) xs i 0 (omega arith) (λ j lt. false_from_ne_true (get_or xs j 0 == k) (λ yes. found.0.before j (omega arith) lt yes)) (λ _. found.1) in
    sym (ap (λ n. cond (nat_lt n (length xs)) (Some n) None) at ∙ ap (λ b. cond b (Some i) None) (lt-ltb i (length xs) inside))
found_place k xs None found =
    let at : position_or_len (λ b. b == k) xs ≡ length xs = position_or_len_is (λ b. b == k) xs (length xs) 0 (omega arith) (λ j lt. false_from_ne_true (get_or xs j 0 == k) (λ yes. found j (omega arith) lt yes)) (λ lt. absurd (omega arith)) in
    sym (ap (λ n. cond (nat_lt n (length xs)) (Some n) None) at ∙ ap (λ b. cond b (Some (length xs)) None) (le-ltb (length xs) (length xs) (omega arith)))

-- where there is none, no byte is it
pub found_none : (k : ℕ) (xs : List ℕ) (r : Option ℕ) → IsFirstByte (is_byte k) xs r → IfNone r (All (λ b. (b == k) ≡ false) xs)
found_none k xs (Some i) found = tt
found_none k xs None found = λ j d lt. false_from_ne_true (get_or xs j d == k) (λ yes. found j (omega arith) lt (ap (λ b. b == k) (get_or_default xs j 0 d lt) ∙ yes))

-- Where a byte is found, it stands among those that were looked through.
pub found_bound : (k : ℕ) (xs : List ℕ) (r : Option ℕ) → IsFirstByte (is_byte k) xs r → IfSome r (λ i. i < length xs)
found_bound k xs (Some i) found = found.0.high
found_bound k xs None found = tt
