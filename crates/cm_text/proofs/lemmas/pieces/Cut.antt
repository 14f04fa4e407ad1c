-- A text may be cut behind each of its pieces.
use Rattle.std.proofs.Common.{◌≡◌, ℕ, ◌+◌, ◌<◌, List, [], ◌∷◌, ◌++◌, length, Bool, true, not, ◌==◌, refl, sym, ap, arith, rules, get_or, subst}
use Rattle.std.specs.Str.{IsUtf8, IsCharBoundary}
use Rattle.std.proofs.lemmas.Str.{IsCharBoundary-after_ascii, IsCharBoundary-before_ascii, IsCharBoundary-end}
use Rattle.std.specs.List.{list_all, flat_map}
use Rattle.std.proofs.lemmas.List.{append-nil, append_assoc, length-append}
use Rattle.std.specs.Cmp.{first_so, second_so}
use Rattle.cm_text.specs.Bytes.{is_mark, is_space, is_quote, is_word_byte, is_in_line, begins_with}
use Rattle.cm_text.specs.Token.{mark, quoted, word, Piece, token, space, line_comment, block_comment, char_bytes, piece_bytes}
use Rattle.cm_text.specs.Split.{is_char, is_piece, may_follow}
use Rattle.cm_text.proofs.lemmas.pieces.Sound.{Stands}

-- ---- ASCII

-- A byte that is a mark is ASCII.
pub mark_ascii : (b : ℕ) → is_mark b ≡ true → b < 128
mark_ascii b h = grind (arith, rules)

-- A byte that is a space is ASCII.
pub space_ascii : (b : ℕ) → is_space b ≡ true → b < 128
space_ascii b h = grind (arith, rules)

-- A byte that is a quote is ASCII.
pub quote_ascii : (b : ℕ) → is_quote b ≡ true → b < 128
quote_ascii b h = grind (arith, rules)

-- A byte that a word may have is ASCII.
pub word_ascii : (b : ℕ) → is_word_byte b ≡ true → b < 128
word_ascii b h = grind (arith, rules)

-- ---- cuts

-- At the place of its length behind a text stands the byte that was put there, before a rest.
at_last : (xs : List ℕ) (c : ℕ) (rest : List ℕ) → get_or ((xs ++ c ∷ []) ++ rest) (length xs) 0 ≡ c
at_last [] c rest = refl
at_last (x ∷ xs) c rest = at_last xs c rest

-- A text may be cut behind an ASCII byte.
pub behind_byte : (xs : List ℕ) (c : ℕ) (rest : List ℕ) → IsUtf8 ((xs ++ c ∷ []) ++ rest) → c < 128 → IsCharBoundary ((xs ++ c ∷ []) ++ rest) (length (xs ++ c ∷ []))
behind_byte xs c rest u h =
    let text : List ℕ = (xs ++ c ∷ []) ++ rest in
    let size : length (xs ++ c ∷ []) ≡ length xs + 1 = length-append xs (c ∷ []) in
    let whole : length text ≡ length (xs ++ c ∷ []) + length rest = length-append (xs ++ c ∷ []) rest in
    let there : length xs < length text = omega arith in
    let small : get_or text (length xs) 0 < 128 = rw (at_last xs c rest) h in
    subst (λ n. IsCharBoundary text n) (sym size) (IsCharBoundary-after_ascii text (length xs) u there small)

-- the last of some bytes that all pass a test
last_of : (p : ℕ → Bool) (b : ℕ) (bs : List ℕ) → list_all p (b ∷ bs) ≡ true → (xs : List ℕ) × (c : ℕ) × (b ∷ bs ≡ xs ++ c ∷ []) × (p c ≡ true)
last_of p b [] h = ([], b, refl, first_so (p b) true h)
last_of p b (d ∷ bs) h = let l = last_of p d bs (second_so (p b) (list_all p (d ∷ bs)) h) in (b ∷ l.0, l.1, ap (λ ys. b ∷ ys) l.2, l.3)

-- A UTF-8 text may be cut behind a word that it begins with.
behind_word : (b : ℕ) (bs rest : List ℕ) → list_all is_word_byte (b ∷ bs) ≡ true → IsUtf8 ((b ∷ bs) ++ rest) → IsCharBoundary ((b ∷ bs) ++ rest) (length (b ∷ bs))
behind_word b bs rest h u =
    let l = last_of is_word_byte b bs h in
    subst (λ ys. IsCharBoundary (ys ++ rest) (length ys)) (sym l.2) (behind_byte l.0 l.1 rest (subst (λ ys. IsUtf8 (ys ++ rest)) l.2 u) (word_ascii l.1 l.3))

-- A byte that may not stand within a line is below 128.
feed : (c : ℕ) → not (is_in_line c) ≡ true → c < 128
feed c h = grind (arith, rules)

-- At the seam of a text and a rest stands the first byte of the rest.
at_seam : (xs : List ℕ) (c : ℕ) (rest : List ℕ) → get_or (xs ++ c ∷ rest) (length xs) 0 ≡ c
at_seam [] c rest = refl
at_seam (x ∷ xs) c rest = at_seam xs c rest

-- A text may be cut where the rest doesn't begin with a byte that may stand within a line.
behind_line : (xs rest : List ℕ) → not (begins_with is_in_line rest) ≡ true → IsCharBoundary (xs ++ rest) (length xs)
behind_line xs [] h = subst (λ ys. IsCharBoundary ys (length xs)) (sym (append-nil xs)) (IsCharBoundary-end xs)
behind_line xs (c ∷ rest) h =
    let size : length (xs ++ c ∷ rest) ≡ length xs + length (c ∷ rest) = length-append xs (c ∷ rest) in
    let there : length xs < length (xs ++ c ∷ rest) = omega arith in
    IsCharBoundary-before_ascii (xs ++ c ∷ rest) (length xs) there (rw (at_seam xs c rest) (feed c h))

-- a text may be cut behind a piece that it begins with
pub cut_behind : (p : Piece) (rest : List ℕ) → is_piece p ≡ true → may_follow p rest ≡ true → IsUtf8 (piece_bytes p ++ rest) → IsCharBoundary (piece_bytes p ++ rest) (length (piece_bytes p))
cut_behind (token (mark b)) rest h f u = behind_byte [] b rest u (mark_ascii b h)
cut_behind (token (quoted q cs)) rest h f u = behind_byte (q ∷ flat_map char_bytes cs) q rest u (quote_ascii q (first_so (is_quote q) (list_all (is_char q) cs) h))
cut_behind (token (word [])) rest h f u = absurd (grind (arith, rules))
cut_behind (token (word (b ∷ bs))) rest h f u = behind_word b bs rest (second_so (not (length (b ∷ bs) == 0)) (list_all is_word_byte (b ∷ bs)) h) u
cut_behind (space b) rest h f u = behind_byte [] b rest u (space_ascii b h)
cut_behind (line_comment bs) rest h f u = behind_line (47 ∷ 47 ∷ bs) rest f
cut_behind (block_comment bs) rest h f u =
    let P : List ℕ → Type 0 = λ ys. IsCharBoundary (ys ++ rest) (length ys) in
    let same : (47 ∷ 42 ∷ (bs ++ 42 ∷ [])) ++ 47 ∷ [] ≡ 47 ∷ 42 ∷ (bs ++ 42 ∷ 47 ∷ []) = ap (λ ys. 47 ∷ 42 ∷ ys) (append_assoc bs (42 ∷ []) (47 ∷ [])) in
    subst P same (behind_byte (47 ∷ 42 ∷ (bs ++ 42 ∷ [])) 47 rest (subst (λ ys. IsUtf8 (ys ++ rest)) (sym same) u) (omega arith))

-- A text may be cut behind a piece that stands at its beginning.
pub stands_cut : (p : Piece) (text : List ℕ) → IsUtf8 text → Stands p text → IsCharBoundary text (length (piece_bytes p))
stands_cut p text u s = subst (λ ys. IsCharBoundary ys (length (piece_bytes p))) (sym s.bytes) (cut_behind p s.rest s.piece s.follows (subst IsUtf8 s.bytes u))
