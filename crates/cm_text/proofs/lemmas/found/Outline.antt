-- The first piece of a text, as the code finds it.
use Rattle.std.proofs.Common.{◌≡◌, ℕ, suc, ◌+◌, ◌-◌, ◌<◌, ◌≤◌, List, [], ◌∷◌, length, true, false, Option, Some, None, option_map, Result, Ok, Err, refl, sym, ap, ◌∙◌, arith, rules, get_or, take, drop, subst, take_while}
use Rattle.std.proofs.lemmas.Option.{none-some}
use Rattle.std.specs.Str.{IsUtf8, IsCharBoundary}
use Rattle.std.proofs.lemmas.Str.{IsCharBoundary-after_ascii, IsCharBoundary-before_ascii}
use Rattle.std.specs.List.{flat_map, slice_range}
use Rattle.std.proofs.lemmas.List.{length-append, take_rest, take-append-le, take_all, length-take-le}
use Rattle.cm_text.specs.Bytes.{is_quote, is_word_byte, begins_with}
use Rattle.cm_text.specs.Token.{Token, quoted, word, Piece, token, char_bytes, piece_bytes, piece_token}
use Rattle.cm_text.specs.Pieces.{First, stray, unclosed, piece, string_piece, comment, first_piece}
use Rattle.cm_text.specs.Scan.{close_place, within, outline, first_of_text}
use Rattle.cm_text.specs.declared.fault.TextFault.{TextFault}
use Rattle.cm_text.specs.declared.fault.TextFault.TheVariants.{Unclosed}
use Rattle.cm_text.proofs.lemmas.Byte.{quote_class, word_class}
use Rattle.cm_text.proofs.lemmas.pieces.Piece.{run_more}
use Rattle.cm_text.proofs.lemmas.pieces.Sound.{Stands, first_stands, comment_closes, runs}
use Rattle.cm_text.proofs.lemmas.found.String.{closes_at, never_closes, within_spells, some_place}
use Rattle.cm_text.proofs.lemmas.pieces.Cut.{stands_cut, quote_ascii}

-- A piece was found: its token, if it is one, and its length.
abbrev pub found : Option Token → ℕ → Result (Option Token × ℕ) TextFault
found t n = Ok (t, n)

-- In the place of a piece a fault was found.
abbrev pub fault : TextFault → Result (Option Token × ℕ) TextFault
fault e = Err e

-- ---- marks and spaces

-- ---- words

-- As many first bytes of a text as its leading run of word bytes has are that run.
taken_run : (text : List ℕ) → take (length (take_while is_word_byte text)) text ≡ take_while is_word_byte text
taken_run text =
    let r = runs is_word_byte text in
    ap (take (length (take_while is_word_byte text))) r.bytes ∙ take-append-le (length (take_while is_word_byte text)) (take_while is_word_byte text) r.rest (omega arith) ∙ take_all (length (take_while is_word_byte text)) (take_while is_word_byte text) (omega arith)

-- The first piece of a text that begins with a byte of a word is the run of such bytes.
pub word_outline : (text : List ℕ) (at : ℕ) → begins_with is_word_byte text ≡ true → found (Some (word (take_while is_word_byte text))) (length (take_while is_word_byte text)) ≡ outline at (first_of_text text)
word_outline [] at h = absurd (grind (arith, rules))
word_outline (b ∷ bs) at h = rw (word_class b h) (ap (λ xs. found (Some (word xs)) (length xs)) (run_more is_word_byte b bs h))

-- Where a text begins with a word's byte, its run of such bytes is found as its first piece.
word_found : (text inside : List ℕ) (at n : ℕ) → begins_with is_word_byte text ≡ true → n ≡ length (take_while is_word_byte text) → inside ≡ take n text → found (Some (word inside)) n ≡ outline at (first_of_text text)
word_found text inside at n h size bytes =
    let whole : inside ≡ take_while is_word_byte text = bytes ∙ ap (λ k. take k text) size ∙ taken_run text in
    ap (λ xs. found (Some (word xs)) n) whole ∙ ap (λ k. found (Some (word (take_while is_word_byte text))) k) size ∙ word_outline text at h

-- The first piece of a text that begins with a byte of a word is what is cut out as that run.
pub word_in : (bytes text inside : List ℕ) (at n : ℕ) → bytes ≡ text → begins_with is_word_byte text ≡ true → n ≡ length (take_while is_word_byte bytes) → inside ≡ slice_range text 0 n → found (Some (word inside)) n ≡ outline at (first_of_text text)
word_in bytes text inside at n v h size value =
    let same : n - 0 ≡ n = omega arith in
    word_found text inside at n h (size ∙ ap (λ xs. length (take_while is_word_byte xs)) v) (value ∙ ap (λ k. take k text) same)

-- ---- strings

-- A quoted string has two bytes more than there are between its quotes.
quoted_size : (q : ℕ) (bs : List ℕ) (n : ℕ) → n ≤ length bs → 2 + n ≡ length (piece_bytes (token (quoted q (within false (take n bs)))))
quoted_size q bs n h =
    let inside : length (flat_map char_bytes (within false (take n bs))) ≡ n = ap length (within_spells false (take n bs)) ∙ length-take-le n bs h in
    rw (length-append (flat_map char_bytes (within false (take n bs))) (q ∷ [])) (omega arith)

-- Where a string closes behind its first byte, by slices of bytes that are a text's, it closes there in the
-- text.
pub close_in : (bytes text : List ℕ) (o : Option ℕ) → bytes ≡ text → o ≡ close_place (get_or bytes 0 0) false (take (length bytes - 1) (drop 1 bytes)) → close_place (get_or text 0 0) false (drop 1 text) ≡ o
close_in bytes text o v h = ap (λ xs. close_place (get_or xs 0 0) false (drop 1 xs)) (sym v) ∙ ap (close_place (get_or bytes 0 0) false) (sym (take_rest bytes 1)) ∙ sym h

-- A string whose closing quote is found is the first piece of the text that its quote begins.
string_outline : (text inside : List ℕ) (at n : ℕ) → begins_with is_quote text ≡ true → close_place (get_or text 0 0) false (drop 1 text) ≡ some_place n → inside ≡ take n (drop 1 text) → found (Some (quoted (get_or text 0 0) (within false inside))) (2 + n) ≡ outline at (first_of_text text)
string_outline [] inside at n h close value = absurd (grind (arith, rules))
string_outline (b ∷ bs) inside at n h close value =
    let c = closes_at b false bs n close in
    let size : 2 + n ≡ length (piece_bytes (token (quoted b (within false (take n bs))))) = quoted_size b bs n (let k = c.within_text in omega arith) in
    rw (quote_class b h) (ap (λ xs. found (Some (quoted b (within false xs))) (2 + n)) value ∙ ap (λ k. found (Some (quoted b (within false (take n bs)))) k) size ∙ ap (λ o. outline at (string_piece b o)) (sym c.chars))

-- The first piece of a text that begins with a quote is a string, where a closing quote is found.
pub string_found : (bytes text inside : List ℕ) (at n : ℕ) → bytes ≡ text → begins_with is_quote text ≡ true → close_place (get_or text 0 0) false (drop 1 text) ≡ some_place n → inside ≡ slice_range text 1 (1 + n) → found (Some (quoted (get_or bytes 0 0) (within false inside))) (2 + n) ≡ outline at (first_of_text text)
string_found bytes text inside at n v h close value =
    let size : 1 + n - 1 ≡ n = omega arith in
    ap (λ xs. found (Some (quoted (get_or xs 0 0) (within false inside))) (2 + n)) v ∙ string_outline text inside at n h close (value ∙ ap (λ k. take k (drop 1 text)) size)

-- A text that begins with a quote has an unclosed string, where no closing quote is found.
pub string_unclosed : (text : List ℕ) (at : ℕ) → begins_with is_quote text ≡ true → close_place (get_or text 0 0) false (drop 1 text) ≡ None → fault (Unclosed at) ≡ outline at (first_of_text text)
string_unclosed [] at h close = absurd (grind (arith, rules))
string_unclosed (b ∷ bs) at h close = rw (quote_class b h) (ap (λ o. outline at (string_piece b o)) (sym (never_closes b false bs close)))

-- The closing quote that is found is in the text, and is the same as the one that it begins with.
pub string_place : (text : List ℕ) (n : ℕ) → close_place (get_or text 0 0) false (drop 1 text) ≡ some_place n → (n + 1 < length text) × (get_or text (1 + n) 0 ≡ get_or text 0 0)
string_place [] n close = absurd (let c = closes_at 0 false [] n close in let k = c.within_text in omega arith)
string_place (b ∷ bs) n close =
    let c = closes_at b false bs n close in
    let k = c.within_text in
    let there : n + 1 < length (b ∷ bs) = omega arith in
    let next : 1 + n ≡ suc n = omega arith in
    (there, ap (λ i. get_or (b ∷ bs) i 0) next ∙ c.quote)

-- ---- comments

-- A comment that ends has two bytes behind its length, within the bytes.
fits_by_comment : (bs : List ℕ) (n : ℕ) (o : Option (List ℕ)) → comment bs ≡ o → option_map length o ≡ some_place n → n + 2 ≤ length bs
fits_by_comment bs n None e h = absurd (none-some n h)
fits_by_comment bs n (Some cs) e h =
    let size : length cs ≡ n = ap (λ o. elim o as (λ _. ℕ) [ None ↦ n | Some x ↦ x ]) h in
    let c = comment_closes bs cs e in
    omega (arith, ap length c.bytes ∙ length-append cs (42 ∷ 47 ∷ c.rest))

-- Behind the bytes of a comment there is room for the star and the slash that end it.
pub comment_fits : (bs : List ℕ) (n : ℕ) → option_map length (comment bs) ≡ some_place n → n + 2 ≤ length bs
comment_fits bs n h = fits_by_comment bs n (comment bs) refl h

-- ---- a found piece

-- its length is that of a piece that stands there
pub record Found (text : List ℕ) (t : Option Token) (n : ℕ) : Type 0 where
  pub p : Piece
  pub stands : Stands p text
  pub token : piece_token p ≡ t
  pub size : length (piece_bytes p) ≡ n
  pub first : first_of_text text ≡ piece p

-- The same found pieces have the same token.
found_token : (t u : Option Token) (m n : ℕ) → found t m ≡ found u n → t ≡ u
found_token t u m n h = ap (λ r. elim r as (λ _. Option Token) [ Ok x ↦ x.0 | Err e ↦ t ]) h

-- The same found pieces have the same length.
found_size : (t u : Option Token) (m n : ℕ) → found t m ≡ found u n → m ≡ n
found_size t u m n h = ap (λ r. elim r as (λ _. ℕ) [ Ok x ↦ x.1 | Err e ↦ m ]) h

-- The piece that stands first in a text, as the code outlines it, is found there.
by_first : (b : ℕ) (bs : List ℕ) (t : Option Token) (at n : ℕ) (f : First) → first_piece b bs ≡ f → outline at f ≡ found t n → Found (b ∷ bs) t n
by_first b bs t at n stray e h = absurd (grind (arith, rules))
by_first b bs t at n unclosed e h = absurd (grind (arith, rules))
by_first b bs t at n (piece p) e h = record {
  p = p;
  stands = first_stands b bs p e;
  token = found_token (piece_token p) t (length (piece_bytes p)) n h;
  size = found_size (piece_token p) t (length (piece_bytes p)) n h;
  first = e;
}

-- The token and the length that were found are those of a piece that stands there.
pub is_found : (text : List ℕ) (t : Option Token) (at n : ℕ) → found t n ≡ outline at (first_of_text text) → Found text t n
is_found [] t at n h = absurd (grind (arith, rules))
is_found (b ∷ bs) t at n h = by_first b bs t at n (first_piece b bs) refl (sym h)

-- a text may be cut behind a found piece
pub found_cut : (text : List ℕ) (t : Option Token) (at n : ℕ) → IsUtf8 text → found t n ≡ outline at (first_of_text text) → IsCharBoundary text n
found_cut text t at n u h = let f = is_found text t at n h in subst (λ k. IsCharBoundary text k) f.size (stands_cut f.p text u f.stands)

-- A text may be cut behind a word that it begins with.
pub word_cut : (bytes text : List ℕ) (n : ℕ) → bytes ≡ text → IsUtf8 text → begins_with is_word_byte text ≡ true → n ≡ length (take_while is_word_byte bytes) → IsCharBoundary text n
word_cut bytes text n v u h size = found_cut text (Some (word (take n text))) 0 n u (word_found text (take n text) 0 n h (size ∙ ap (λ xs. length (take_while is_word_byte xs)) v) refl)

-- A text may be cut behind a quote that it begins with.
pub quote_start : (text : List ℕ) → IsUtf8 text → begins_with is_quote text ≡ true → IsCharBoundary text 1
quote_start [] u h = absurd (grind (arith, rules))
quote_start (b ∷ bs) u h = IsCharBoundary-after_ascii (b ∷ bs) 0 u (omega arith) (quote_ascii b h)

-- A text that begins with a quote may be cut before the closing one.
pub quote_end : (text : List ℕ) (n : ℕ) → begins_with is_quote text ≡ true → close_place (get_or text 0 0) false (drop 1 text) ≡ some_place n → IsCharBoundary text (1 + n)
quote_end [] n h close = absurd (grind (arith, rules))
quote_end (b ∷ bs) n h close =
    let p = string_place (b ∷ bs) n close in
    let there : 1 + n < length (b ∷ bs) = let k = p.0 in omega arith in
    let small : get_or (b ∷ bs) (1 + n) 0 < 128 = rw p.1 (quote_ascii b h) in
    IsCharBoundary-before_ascii (b ∷ bs) (1 + n) there small
