-- The pieces of a text are the ones that are computed.
use Rattle.std.proofs.Common.{◌≡◌, ℕ, ◌+◌, ◌-◌, List, [], ◌∷◌, ◌++◌, length, Bool, true, false, not, ◌&&◌, ◌==◌, Option, Some, None, option_map, Result, Ok, Err, refl, sym, ap, ◌∙◌, arith, rules, take_while, one-add}
use Rattle.std.specs.List.{list_all, flat_map}
use Rattle.std.proofs.lemmas.List.{append_assoc, length-append}
use Rattle.std.specs.Cmp.{first_so, second_so}
use Rattle.std.proofs.lemmas.Bool.{not-true}
use Rattle.cm_facts.proofs.Numbers.{eq_self}
use Rattle.cm_facts.proofs.Booleans.{or_false_first, or_false_second}
use Rattle.cm_text.specs.Bytes.{is_quote, is_word_byte, is_in_line, begins_with, closes_comment}
use Rattle.cm_text.specs.Token.{Char, plain, taken, Token, mark, quoted, word, Piece, token, space, line_comment, block_comment, char_bytes, piece_bytes}
use Rattle.cm_text.specs.TokenInside.{bytes_of}
use Rattle.cm_text.specs.Split.{is_char, has_end, is_piece, may_follow, are_pieces}
use Rattle.cm_text.specs.Pieces.{chars, comment, piece, first_piece, with_piece, pieces, tokens_result}
use Rattle.cm_text.specs.Facts.{TokensAreUnique, TokensAreComputed}
use Rattle.cm_text.specs.declared.fault.TextFault.{TextFault}
use Rattle.cm_text.proofs.lemmas.Byte.{mark_class, space_class, quote_class, word_class, slash_no_quote}

-- ---- what stands in front

-- a run ends at the first byte that fails the test
pub run_more : (p : ℕ → Bool) (b : ℕ) (bs : List ℕ) → p b ≡ true → take_while p (b ∷ bs) ≡ b ∷ take_while p bs
run_more p b bs h = rw h (rw one-add refl)

-- Where the first byte fails a test, the run of bytes that pass it is empty.
pub run_ends : (p : ℕ → Bool) (bs : List ℕ) → begins_with p bs ≡ false → take_while p bs ≡ []
run_ends p [] h = refl
run_ends p (b ∷ bs) h = rw h refl

-- Bytes that all pass a test are the run, where the byte behind them doesn't pass it.
pub run_of : (p : ℕ → Bool) (bs rest : List ℕ) → list_all p bs ≡ true → begins_with p rest ≡ false → take_while p (bs ++ rest) ≡ bs
run_of p [] rest h e = run_ends p rest e
run_of p (b ∷ bs) rest h e = run_more p b (bs ++ rest) (first_so (p b) (list_all p bs) h) ∙ ap (λ xs. b ∷ xs) (run_of p bs rest (second_so (p b) (list_all p bs) h) e)

-- no byte is put in front
pub same_option : (o : Option (List Char)) → option_map (λ cs. [] ++ cs) o ≡ o
same_option None = refl
same_option (Some cs) = refl

-- The characters that are found up to a quote are those that were written before it.
pub chars_of : (q : ℕ) (cs : List Char) (rest : List ℕ) → is_quote q ≡ true → list_all (is_char q) cs ≡ true → chars q false (flat_map char_bytes cs ++ q ∷ rest) ≡ Some cs
unfolding chars
chars_of q [] rest quote h = rw (chars, eq_self q) refl
chars_of q (plain b ∷ cs) rest quote h =
    let here : (not (b == q) && not (b == 92)) ≡ true = first_so (not (b == q) && not (b == 92)) (list_all (is_char q) cs) h in
    let no_quote : (b == q) ≡ false = not-true (b == q) (first_so (not (b == q)) (not (b == 92)) here) in
    let no_slash : (b == 92) ≡ false = not-true (b == 92) (second_so (not (b == q)) (not (b == 92)) here) in
    rw (chars, no_quote) (rw no_slash (ap (option_map (λ xs. plain b ∷ xs)) (chars_of q cs rest quote (second_so (not (b == q) && not (b == 92)) (list_all (is_char q) cs) h))))
chars_of q (taken b ∷ cs) rest quote h =
    rw (chars, slash_no_quote q quote) (same_option (chars q true (b ∷ (flat_map char_bytes cs ++ q ∷ rest))) ∙ ap (option_map (λ xs. taken b ∷ xs)) (chars_of q cs rest quote h))

-- How a text begins that has a byte somewhere doesn't depend on what stands behind that byte.
pub begins_same : (p : ℕ → Bool) (bs : List ℕ) (c : ℕ) (xs ys : List ℕ) → begins_with p (bs ++ c ∷ xs) ≡ begins_with p (bs ++ c ∷ ys)
begins_same p [] c xs ys = refl
begins_same p (b ∷ bs) c xs ys = refl

-- Where a star and a slash come first, the comment has no bytes.
pub comment_here : (b : ℕ) (bs : List ℕ) → closes_comment (b ∷ bs) ≡ true → comment (b ∷ bs) ≡ Some []
unfolding comment
comment_here b bs e = rw (comment, e) refl

-- Where no star and slash come first, the comment has the first byte, and then the others.
pub comment_later : (b : ℕ) (bs : List ℕ) → closes_comment (b ∷ bs) ≡ false → comment (b ∷ bs) ≡ option_map (λ cs. b ∷ cs) (comment bs)
unfolding comment
comment_later b bs e = rw (comment, e) refl

-- The comment that is found is the bytes before its first star and slash.
pub comment_of : (bs rest : List ℕ) → has_end (bs ++ 42 ∷ []) ≡ false → comment (bs ++ 42 ∷ 47 ∷ rest) ≡ Some bs
unfolding comment
comment_of [] rest h = refl
comment_of (b ∷ bs) rest h =
    let here : ((b == 42) && begins_with (λ c. c == 47) (bs ++ 42 ∷ [])) ≡ false = or_false_first _ (has_end (bs ++ 42 ∷ [])) h in
    let there : ((b == 42) && begins_with (λ c. c == 47) (bs ++ 42 ∷ 47 ∷ rest)) ≡ false = ap (λ t. (b == 42) && t) (begins_same (λ c. c == 47) bs 42 (47 ∷ rest) []) ∙ here in
    rw (comment, there) (ap (option_map (λ cs. b ∷ cs)) (comment_of bs rest (or_false_second ((b == 42) && begins_with (λ c. c == 47) (bs ++ 42 ∷ [])) (has_end (bs ++ 42 ∷ [])) h)))

-- ---- passing over a piece

-- Behind bytes that belong to the last piece the pieces are those of the rest, so much further on.
pub passed_over : (xs ys : List ℕ) (at : ℕ) → pieces (length xs) at (xs ++ ys) ≡ pieces 0 (at + length xs) ys
unfolding pieces
passed_over [] ys at = ap (λ n. pieces 0 n ys) (omega arith)
passed_over (x ∷ xs) ys at =
    let moved : at + 1 + length xs ≡ at + length (x ∷ xs) = omega arith in
    passed_over xs ys (at + 1) ∙ ap (λ n. pieces 0 n ys) moved

-- The first piece that is found in a text comes first, and then the pieces of the rest.
pub one_piece : (b : ℕ) (tail rest : List ℕ) (p : Piece) (at : ℕ) → piece_bytes p ≡ b ∷ tail → first_piece b (tail ++ rest) ≡ piece p → pieces 0 at (b ∷ (tail ++ rest)) ≡ with_piece p (pieces 0 (at + length (piece_bytes p)) rest)
unfolding pieces
one_piece b tail rest p at bytes first =
    let size : length (piece_bytes p) - 1 ≡ length tail = rw bytes (omega arith) in
    let moved : at + 1 + length tail ≡ at + length (piece_bytes p) = rw bytes (omega arith) in
    rw first (ap (with_piece p) (ap (λ n. pieces n (at + 1) (tail ++ rest)) size ∙ passed_over tail rest (at + 1) ∙ ap (λ n. pieces 0 n rest) moved))

-- a piece is the first one of a text that it begins
pub first_one : (p : Piece) (rest : List ℕ) (at : ℕ) → is_piece p ≡ true → may_follow p rest ≡ true → pieces 0 at (piece_bytes p ++ rest) ≡ with_piece p (pieces 0 (at + length (piece_bytes p)) rest)
first_one (token (mark b)) rest at h f = one_piece b [] rest (token (mark b)) at refl (rw (mark_class b h) refl)
first_one (token (quoted q cs)) rest at h f =
    let quote : is_quote q ≡ true = first_so (is_quote q) (list_all (is_char q) cs) h in
    let found : chars q false ((flat_map char_bytes cs ++ q ∷ []) ++ rest) ≡ Some cs = ap (chars q false) (append_assoc (flat_map char_bytes cs) (q ∷ []) rest) ∙ chars_of q cs rest quote (second_so (is_quote q) (list_all (is_char q) cs) h) in
    one_piece q (flat_map char_bytes cs ++ q ∷ []) rest (token (quoted q cs)) at refl (rw (quote_class q quote) (rw found refl))
first_one (token (word [])) rest at h f = absurd (grind (arith, rules))
first_one (token (word (b ∷ bs))) rest at h f =
    let all : list_all is_word_byte (b ∷ bs) ≡ true = second_so (not (length (b ∷ bs) == 0)) (list_all is_word_byte (b ∷ bs)) h in
    let found : take_while is_word_byte (bs ++ rest) ≡ bs = run_of is_word_byte bs rest (second_so (is_word_byte b) (list_all is_word_byte bs) all) (not-true (begins_with is_word_byte rest) f) in
    one_piece b bs rest (token (word (b ∷ bs))) at refl (rw (word_class b (first_so (is_word_byte b) (list_all is_word_byte bs) all)) (rw found refl))
first_one (space b) rest at h f = one_piece b [] rest (space b) at refl (rw (space_class b h) refl)
first_one (line_comment bs) rest at h f =
    let found : take_while is_in_line (bs ++ rest) ≡ bs = run_of is_in_line bs rest h (not-true (begins_with is_in_line rest) f) in
    one_piece 47 (47 ∷ bs) rest (line_comment bs) at refl (rw found refl)
first_one (block_comment bs) rest at h f =
    let found : comment ((bs ++ 42 ∷ 47 ∷ []) ++ rest) ≡ Some bs = ap comment (append_assoc bs (42 ∷ 47 ∷ []) rest) ∙ comment_of bs rest (not-true (has_end (bs ++ 42 ∷ [])) h) in
    one_piece 47 (42 ∷ (bs ++ 42 ∷ 47 ∷ [])) rest (block_comment bs) at refl (rw found refl)

-- the pieces before a rest are computed first
abbrev pub with_pieces : List Piece → Result (List Piece) TextFault → Result (List Piece) TextFault
with_pieces [] r = r
with_pieces (p ∷ ps) r = with_piece p (with_pieces ps r)

-- Pieces that a text begins with come first, and then the pieces of the rest.
pub first_ones : (ps : List Piece) (rest : List ℕ) (at : ℕ) → are_pieces ps rest ≡ true → pieces 0 at (bytes_of ps ++ rest) ≡ with_pieces ps (pieces 0 (at + length (bytes_of ps)) rest)
first_ones [] rest at h = ap (λ n. pieces 0 n rest) (omega arith)
first_ones (p ∷ ps) rest at h =
    let two : (is_piece p && may_follow p (bytes_of ps ++ rest)) ≡ true = first_so (is_piece p && may_follow p (bytes_of ps ++ rest)) (are_pieces ps rest) h in
    let more : are_pieces ps rest ≡ true = second_so (is_piece p && may_follow p (bytes_of ps ++ rest)) (are_pieces ps rest) h in
    let moved : at + length (piece_bytes p) + length (bytes_of ps) ≡ at + length (bytes_of (p ∷ ps)) = rw (length-append (piece_bytes p) (bytes_of ps)) (omega arith) in
    ap (pieces 0 at) (append_assoc (piece_bytes p) (bytes_of ps) rest)
    ∙ first_one p (bytes_of ps ++ rest) at (first_so (is_piece p) (may_follow p (bytes_of ps ++ rest)) two) (second_so (is_piece p) (may_follow p (bytes_of ps ++ rest)) two)
    ∙ ap (with_piece p) (first_ones ps rest (at + length (piece_bytes p)) more ∙ ap (λ n. with_pieces ps (pieces 0 n rest)) moved)

-- Pieces, with nothing left behind them, are the pieces computed.
all_pieces : (ps : List Piece) (at : ℕ) → with_pieces ps (pieces 0 at []) ≡ Ok ps
unfolding pieces
all_pieces [] at = refl
all_pieces (p ∷ ps) at = ap (with_piece p) (all_pieces ps at)

-- a text's tokens are the computed ones
pub are_computed : TokensAreComputed
are_computed text ts h =
    let bytes : text ≡ bytes_of h.ps ++ [] = sym h.whole.bytes in
    let found : pieces 0 0 text ≡ Ok h.ps = ap (pieces 0 0) bytes ∙ first_ones h.ps [] 0 h.whole.pieces ∙ all_pieces h.ps (0 + length (bytes_of h.ps)) in
    ap tokens_result found ∙ ap Ok h.tokens

-- The tokens of a text as a result.
abbrev ok : List Token → Result (List Token) TextFault
ok ts = Ok ts

-- Results that are the same have the same tokens.
ok_injective : (ts us : List Token) → ok ts ≡ ok us → ts ≡ us
ok_injective ts us e = ap (λ r. elim r as (λ _. List Token) [ Ok xs ↦ xs | Err f ↦ ts ]) e

-- A text has one list of tokens at most.
pub are_unique : TokensAreUnique
are_unique text ts us h g = ok_injective ts us (sym (are_computed text ts h) ∙ are_computed text us g)
