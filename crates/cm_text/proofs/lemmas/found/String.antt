-- Where a string's closing quote stands, and which characters stand before it.
use Rattle.std.proofs.Common.{◌≡◌, ℕ, suc, ◌<◌, List, [], ◌∷◌, length, Bool, true, false, ◌==◌, Option, Some, None, option_map, refl, sym, ap, ◌∙◌, arith, eqb-true, get_or, take}
use Rattle.std.proofs.lemmas.Option.{none-some}
use Rattle.std.specs.List.{flat_map}
use Rattle.cm_text.specs.Token.{Char, plain, taken, char_bytes}
use Rattle.cm_text.specs.Pieces.{chars}
use Rattle.cm_text.specs.Scan.{close_place, within}
use Rattle.cm_text.proofs.lemmas.pieces.Fault.{some, behind, chars_quote, chars_slash, chars_plain, chars_taken, chars_none}

-- A place that is there.
abbrev pub some_place : ℕ → Option ℕ
some_place n = Some n

-- ---- within

-- A backslash between quotes makes the byte behind it one that is taken.
within_slash : (b : ℕ) (bs : List ℕ) → (b == 92) ≡ true → within false (b ∷ bs) ≡ within true bs
within_slash b bs e = rw (within, e) refl

-- Between quotes a byte that isn't a backslash is a plain character before the others.
pub within_plain : (b : ℕ) (bs : List ℕ) → (b == 92) ≡ false → within false (b ∷ bs) ≡ plain b ∷ within false bs
within_plain b bs e = rw (within, e) refl

-- The characters from a byte on spell its bytes, where those behind it do.
spelled_by_test : (b : ℕ) (bs : List ℕ) (t : Bool) → (b == 92) ≡ t → ((e : Bool) → flat_map char_bytes (within e bs) ≡ behind e bs) → flat_map char_bytes (within false (b ∷ bs)) ≡ b ∷ bs
spelled_by_test b bs true e f = ap (flat_map char_bytes) (within_slash b bs e) ∙ f true ∙ ap (λ x. x ∷ bs) (sym (eqb-true b 92 e))
spelled_by_test b bs false e f = ap (flat_map char_bytes) (within_plain b bs e) ∙ ap (λ xs. b ∷ xs) (f false)

-- The characters within quotes spell the bytes there.
pub within_spells : (e : Bool) (bs : List ℕ) → flat_map char_bytes (within e bs) ≡ behind e bs
within_spells false [] = refl
within_spells true [] = refl
within_spells true (b ∷ bs) = ap (λ xs. 92 ∷ b ∷ xs) (within_spells false bs)
within_spells false (b ∷ bs) = spelled_by_test b bs (b == 92) refl (λ e. within_spells e bs)

-- ---- the closing quote

-- the quote stands at the place
pub record ClosesAt (q : ℕ) (e : Bool) (bs : List ℕ) (n : ℕ) : Type 0 where
  pub within_text : n < length bs
  pub quote : get_or bs n 0 ≡ q
  pub chars : chars q e bs ≡ some (within e (take n bs))

-- Where a string closes at a place, it closes at one that is the same.
moved_place : (q : ℕ) (e : Bool) (bs : List ℕ) (m n : ℕ) → some_place m ≡ some_place n → ClosesAt q e bs m → ClosesAt q e bs n
moved_place q e bs m n h c =
    let same : m ≡ n = ap (λ o. elim o as (λ _. ℕ) [ None ↦ m | Some x ↦ x ]) h in
    let P : ℕ → Type 0 = λ x. ClosesAt q e bs x in
    rw same at c

-- Behind a backslash that isn't the quote, the closing quote stands one further, past a taken byte.
close_slash : (q b : ℕ) (bs : List ℕ) → (b == q) ≡ false → (b == 92) ≡ true → close_place q false (b ∷ bs) ≡ option_map suc (close_place q true bs)
close_slash q b bs e f = rw (close_place, e) (rw f refl)

-- Behind a plain byte that isn't the quote, the closing quote stands one further.
close_plain : (q b : ℕ) (bs : List ℕ) → (b == q) ≡ false → (b == 92) ≡ false → close_place q false (b ∷ bs) ≡ option_map suc (close_place q false bs)
close_plain q b bs e f = rw (close_place, e) (rw f refl)

-- A quote that closes a string stands at the place 0.
close_here : (q b : ℕ) (bs : List ℕ) → (b == q) ≡ true → close_place q false (b ∷ bs) ≡ Some 0
close_here q b bs e = rw (close_place, e) refl

-- A string that closes behind a taken byte closes one place further with it.
past_taken : (q b : ℕ) (bs : List ℕ) (m : ℕ) → ClosesAt q false bs m → ClosesAt q true (b ∷ bs) (suc m)
past_taken q b bs m c = record {
  within_text = let h = c.within_text in omega arith;
  quote = c.quote;
  chars = chars_taken q b bs ∙ ap (option_map (λ cs. taken b ∷ cs)) c.chars;
}

-- A string that closes behind a backslash and its byte closes one place further with the backslash.
past_slash : (q b : ℕ) (bs : List ℕ) (m : ℕ) → (b == q) ≡ false → (b == 92) ≡ true → ClosesAt q true bs m → ClosesAt q false (b ∷ bs) (suc m)
past_slash q b bs m e f c = record {
  within_text = let h = c.within_text in omega arith;
  quote = c.quote;
  chars = chars_slash q b bs e f ∙ c.chars ∙ ap some (sym (within_slash b (take m bs) f));
}

-- A string that closes behind a plain byte closes one place further with it.
past_plain : (q b : ℕ) (bs : List ℕ) (m : ℕ) → (b == q) ≡ false → (b == 92) ≡ false → ClosesAt q false bs m → ClosesAt q false (b ∷ bs) (suc m)
past_plain q b bs m e f c = record {
  within_text = let h = c.within_text in omega arith;
  quote = c.quote;
  chars = chars_plain q b bs e f ∙ ap (option_map (λ cs. plain b ∷ cs)) c.chars ∙ ap some (sym (within_plain b (take m bs) f));
}

-- a place found behind a byte is one further
one_more : (q : ℕ) (e f : Bool) (b : ℕ) (bs : List ℕ) (n : ℕ) (o : Option ℕ) → ((m : ℕ) → o ≡ some_place m → ClosesAt q f bs m) → ((m : ℕ) → ClosesAt q f bs m → ClosesAt q e (b ∷ bs) (suc m)) → option_map suc o ≡ some_place n → ClosesAt q e (b ∷ bs) n
one_more q e f b bs n None found further h = absurd (none-some n h)
one_more q e f b bs n (Some m) found further h = moved_place q e (b ∷ bs) (suc m) n h (further m (found m refl))

-- The place found for the closing quote from a byte on closes the string, where that behind it does.
close_by_byte : (q b : ℕ) (bs : List ℕ) (n : ℕ) (t u : Bool) → (b == q) ≡ t → (b == 92) ≡ u → ((e : Bool) (m : ℕ) → close_place q e bs ≡ some_place m → ClosesAt q e bs m) → close_place q false (b ∷ bs) ≡ some_place n → ClosesAt q false (b ∷ bs) n
close_by_byte q b bs n true u e f found h =
    moved_place q false (b ∷ bs) 0 n (sym (close_here q b bs e) ∙ h) (record { within_text = omega arith; quote = eqb-true b q e; chars = chars_quote q b bs e })
close_by_byte q b bs n false true e f found h = one_more q false true b bs n (close_place q true bs) (found true) (λ m c. past_slash q b bs m e f c) (sym (close_slash q b bs e f) ∙ h)
close_by_byte q b bs n false false e f found h = one_more q false false b bs n (close_place q false bs) (found false) (λ m c. past_plain q b bs m e f c) (sym (close_plain q b bs e f) ∙ h)

-- In no bytes there is no place of a closing quote.
close_nowhere : (q : ℕ) (e : Bool) → close_place q e [] ≡ None
close_nowhere q true = refl
close_nowhere q false = refl

-- Where a closing quote is found, it stands at that place, behind the characters of the string.
pub closes_at : (q : ℕ) (e : Bool) (bs : List ℕ) (n : ℕ) → close_place q e bs ≡ some_place n → ClosesAt q e bs n
closes_at q e [] n h = absurd (none-some n (sym (close_nowhere q e) ∙ h))
closes_at q true (b ∷ bs) n h = one_more q true false b bs n (close_place q false bs) (λ m g. closes_at q false bs m g) (λ m c. past_taken q b bs m c) h
closes_at q false (b ∷ bs) n h = close_by_byte q b bs n (b == q) (b == 92) refl refl (λ e m g. closes_at q e bs m g) h

-- ---- no closing quote

-- No characters of a string, since it never closes.
abbrev no_chars : Option (List Char)
no_chars = None

-- Where no place further on is told, none was.
none_further : (o : Option ℕ) → option_map suc o ≡ None → o ≡ None
none_further None h = refl
none_further (Some n) h = absurd (none-some (suc n) (sym h))

-- Where no quote is found from a byte on, no characters are, if that holds behind the byte.
open_by_byte : (q b : ℕ) (bs : List ℕ) (t u : Bool) → (b == q) ≡ t → (b == 92) ≡ u → ((e : Bool) → close_place q e bs ≡ None → chars q e bs ≡ no_chars) → close_place q false (b ∷ bs) ≡ None → chars q false (b ∷ bs) ≡ no_chars
open_by_byte q b bs true u e f never h = absurd (none-some 0 (sym h ∙ close_here q b bs e))
open_by_byte q b bs false true e f never h = chars_slash q b bs e f ∙ never true (none_further (close_place q true bs) (sym (close_slash q b bs e f) ∙ h))
open_by_byte q b bs false false e f never h = chars_plain q b bs e f ∙ ap (option_map (λ cs. plain b ∷ cs)) (never false (none_further (close_place q false bs) (sym (close_plain q b bs e f) ∙ h)))

-- Where no closing quote is found, a string has no characters that end at one.
pub never_closes : (q : ℕ) (e : Bool) (bs : List ℕ) → close_place q e bs ≡ None → chars q e bs ≡ no_chars
never_closes q e [] h = chars_none q e
never_closes q true (b ∷ bs) h = chars_taken q b bs ∙ ap (option_map (λ cs. taken b ∷ cs)) (never_closes q false bs (none_further (close_place q false bs) h))
never_closes q false (b ∷ bs) h = open_by_byte q b bs (b == q) (b == 92) refl refl (λ e g. never_closes q e bs g) h
