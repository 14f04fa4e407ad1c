-- Texts of marks, plain strings and spaces: their JSON has the same lexemes.
use Rattle.std.proofs.Common.{◌≡◌, ℕ, List, [], ◌∷◌, ◌++◌, length, drop, map}
use Rattle.std.proofs.Common.{Bool, true, false, cond, not, ◌&&◌, ◌||◌, ◌==◌, nat_lt, if◌then◌else◌, Option, Some, None}
use Rattle.std.proofs.Common.{option_and_then, refl, sym, ap, ◌∙◌, append_assoc, append-nil}
use Rattle.std.proofs.Common.{arith, rules}
use Rattle.std.proofs.lemmas.Bool.{and_parts, or_parts, not-true, eqb-true}
use Rattle.std.specs.List.{list_all, flat_map, join_with_byte}
use Rattle.json.specs.Token.{string}
use Rattle.json.specs.Json.{value, if_last}
use Rattle.json.specs.Lex.{Lexeme, token, class, operator, operator_lexeme, lex, between, fresh, punctuate}
use Rattle.json.specs.Lex as of_lex
use Rattle.serde_json.specs.Data.{Data}
use Rattle.serde_json.specs.Read.{of_json}
use Rattle.std.proofs.lemmas.List.{nil_from_length}
use Rattle.cm_text.specs.Bytes.{is_mark, is_space, is_quote, begins_with}
use Rattle.cm_text.specs.Token.{Char, plain, taken, Token, mark, quoted, word, Piece, space, line_comment}
use Rattle.cm_text.specs.Token.{block_comment, char_bytes, token_bytes, piece_bytes, tokens_of}
use Rattle.cm_text.specs.TokenInside.{bytes_of}
use Rattle.cm_text.specs.Token.{token as piece}
use Rattle.cm_text.specs.Split.{is_char, are_pieces, AreTokensOf}
use Rattle.cm_text.specs.Json.{is_comma, is_colon, is_closing, keeps_comma, is_mark_of, is_some_token, head_of}
use Rattle.cm_text.specs.Json.{is_needless, token_json, spellings, json_of_tokens, json_result}
use Rattle.cm_text.proofs.lemmas.pieces.Piece.{are_computed}
use Rattle.cm_plain.specs.Plain.{is_plain, is_plain_char, comma_behind, comma_behind_all, PassesPieces, ReadsAsJson}
use Rattle.cm_plain.proofs.lemmas.Plain.{at_mark, at_string, at_space, behind_a_space}
use Rattle.cm_plain.proofs.lemmas.Value.{pick}

-- ---- a piece

-- Where something given if a test passes is there, the test passes and it is that.
some_if : {A : Type 0} (b : Bool) (x d : A) → (if b then Some x else None) ≡ Some d → (b ≡ true) × (x ≡ d)
some_if true x d e = (refl, ap (pick x) e)
some_if false x d e = absurd (cc)

-- Where what is made of something that may be there is there, something was, and made it.
then_some : {A B : Type 0} (f : A → Option B) (o : Option A) (d : B) → option_and_then f o ≡ Some d
    → (e : A) × (o ≡ Some e) × (f e ≡ Some d)
then_some f None d h = absurd (cc)
then_some f (Some e) d h = (e, refl, h)

-- what a piece gives in JSON
abbrev token_lexeme : Token → Lexeme
token_lexeme (mark b) = operator_lexeme b
token_lexeme (quoted q cs) = token (string (flat_map char_bytes cs))
token_lexeme (word bs) = of_lex.comma

-- A byte that is a mark is of the class of operators.
mark_class : (b : ℕ) → is_mark b ≡ true → class b ≡ operator
mark_class b h =
    let no_quote : (b == 34) ≡ false = grind (arith, rules) in
    let no_backslash : (b == 92) ≡ false = grind (arith, rules) in
    rw (no_quote, no_backslash, h)

-- The bytes of plain characters are plain.
plain_bytes : (cs : List Char) → list_all is_plain_char cs ≡ true → list_all is_plain (flat_map char_bytes cs) ≡ true
plain_bytes [] h = refl
plain_bytes (plain b ∷ cs) h =
    let both = and_parts (is_plain b) (list_all is_plain_char cs) h in
    rw (both.0) (plain_bytes cs both.1)
plain_bytes (taken b ∷ cs) h = absurd (cc)

-- Plain characters may all stand in double quotes.
are_chars : (cs : List Char) → list_all is_plain_char cs ≡ true → list_all (is_char 34) cs ≡ true
are_chars [] h = refl
are_chars (plain b ∷ cs) h =
    let both = and_parts (is_plain b) (list_all is_plain_char cs) h in
    let none = or_parts ((b == 34) || (b == 92)) (nat_lt b 32) (not-true _ both.0) in
    let tests = or_parts (b == 34) (b == 92) none.0 in
    rw (tests.0, tests.1) (are_chars cs both.1)
are_chars (taken b ∷ cs) h = absurd (cc)

-- A quoted string before a rest is its quote, the characters' bytes, and the quote before the rest.
quoted_bytes : (cs : List Char) (rest : List ℕ)
    → token_bytes (quoted 34 cs) ++ rest ≡ 34 ∷ (flat_map char_bytes cs ++ 34 ∷ rest)
quoted_bytes cs rest = ap (λ l. 34 ∷ l) (append_assoc (flat_map char_bytes cs) (34 ∷ []) rest)

-- A quoted plain string is lexed as a string of its bytes, and then the rest is.
lexed_string : (cs : List Char) (rest : List ℕ) → list_all is_plain_char cs ≡ true
    → lex between (token_bytes (quoted 34 cs) ++ rest) ≡ token (string (flat_map char_bytes cs)) ∷ lex between rest
lexed_string cs rest h =
    ap (lex between) (quoted_bytes cs rest) ∙ at_string (flat_map char_bytes cs) rest (plain_bytes cs h)

-- ---- all pieces

-- each piece may stand where it stands
are_all_pieces : (ps : List Piece) (c d : Bool) → comma_behind_all c ps ≡ Some d → are_pieces ps [] ≡ true
are_all_pieces [] c d e = refl
are_all_pieces (piece (mark b) ∷ ps) c d e =
    let s = then_some (λ g. comma_behind_all g ps) (comma_behind c (piece (mark b))) d e in
    let h = some_if (is_mark b && not (c && is_closing b)) (is_comma b) s.0 s.1 in
    let m = and_parts (is_mark b) (not (c && is_closing b)) h.0 in
    rw (m.0, are_all_pieces ps s.0 d s.2)
are_all_pieces (piece (quoted q cs) ∷ ps) c d e =
    let s = then_some (λ g. comma_behind_all g ps) (comma_behind c (piece (quoted q cs))) d e in
    let h = some_if ((q == 34) && list_all is_plain_char cs) false s.0 s.1 in
    let m = and_parts (q == 34) (list_all is_plain_char cs) h.0 in
    let quote : is_quote q ≡ true = ap is_quote (eqb-true q 34 m.0) in
    let chars : list_all (is_char q) cs ≡ true =
    ap (λ k. list_all (is_char k) cs) (eqb-true q 34 m.0) ∙ are_chars cs m.1 in
    rw (quote, chars, are_all_pieces ps s.0 d s.2)
are_all_pieces (piece (word bs) ∷ ps) c d e = absurd (cc)
are_all_pieces (space b ∷ ps) c d e =
    let s = then_some (λ g. comma_behind_all g ps) (comma_behind c (space b)) d e in
    let h = some_if (is_space b) c s.0 s.1 in
    rw (h.0, are_all_pieces ps s.0 d s.2)
are_all_pieces (line_comment bs ∷ ps) c d e = absurd (cc)
are_all_pieces (block_comment bs ∷ ps) c d e = absurd (cc)

-- the text's lexemes are its tokens'
lexed : (ps : List Piece) (c d : Bool) → comma_behind_all c ps ≡ Some d
    → lex between (bytes_of ps) ≡ map token_lexeme (tokens_of ps)
unfolding lex
lexed [] c d e = refl
lexed (piece (mark b) ∷ ps) c d e =
    let s = then_some (λ g. comma_behind_all g ps) (comma_behind c (piece (mark b))) d e in
    let h = some_if (is_mark b && not (c && is_closing b)) (is_comma b) s.0 s.1 in
    let m = and_parts (is_mark b) (not (c && is_closing b)) h.0 in
    at_mark b (bytes_of ps) (mark_class b m.0) ∙ ap (λ ls. operator_lexeme b ∷ ls) (lexed ps s.0 d s.2)
lexed (piece (quoted q cs) ∷ ps) c d e =
    let s = then_some (λ g. comma_behind_all g ps) (comma_behind c (piece (quoted q cs))) d e in
    let h = some_if ((q == 34) && list_all is_plain_char cs) false s.0 s.1 in
    let m = and_parts (q == 34) (list_all is_plain_char cs) h.0 in
    ap (λ k. lex between (token_bytes (quoted k cs) ++ bytes_of ps)) (eqb-true q 34 m.0)
    ∙ lexed_string cs (bytes_of ps) m.1
    ∙ ap (λ ls. token (string (flat_map char_bytes cs)) ∷ ls) (lexed ps s.0 d s.2)
lexed (piece (word bs) ∷ ps) c d e = absurd (cc)
lexed (space b ∷ ps) c d e =
    let s = then_some (λ g. comma_behind_all g ps) (comma_behind c (space b)) d e in
    let h = some_if (is_space b) c s.0 s.1 in
    at_space b (bytes_of ps) h.0 ∙ lexed ps s.0 d s.2
lexed (line_comment bs ∷ ps) c d e = absurd (cc)
lexed (block_comment bs ∷ ps) c d e = absurd (cc)

-- ---- the spellings

-- no closing mark is next behind a comma
no_closing : (ps : List Piece) (c d : Bool) → c ≡ true → comma_behind_all c ps ≡ Some d
    → is_mark_of is_closing (head_of (tokens_of ps)) ≡ false
no_closing [] c d t e = refl
no_closing (piece (mark b) ∷ ps) c d t e =
    let s = then_some (λ g. comma_behind_all g ps) (comma_behind c (piece (mark b))) d e in
    let h = some_if (is_mark b && not (c && is_closing b)) (is_comma b) s.0 s.1 in
    let m = and_parts (is_mark b) (not (c && is_closing b)) h.0 in
    sym (ap (λ g. g && is_closing b) t) ∙ not-true (c && is_closing b) m.1
no_closing (piece (quoted q cs) ∷ ps) c d t e = refl
no_closing (piece (word bs) ∷ ps) c d t e = absurd (cc)
no_closing (space b ∷ ps) c d t e =
    let s = then_some (λ g. comma_behind_all g ps) (comma_behind c (space b)) d e in
    let h = some_if (is_space b) c s.0 s.1 in
    no_closing ps s.0 d (sym h.1 ∙ t) s.2
no_closing (line_comment bs ∷ ps) c d t e = absurd (cc)
no_closing (block_comment bs ∷ ps) c d t e = absurd (cc)

-- Where one test passes only if another fails, they don't pass together, whatever else there is.
not_all : (x y z w : Bool) → (x ≡ true → y ≡ false) → (x && y && z && w) ≡ false
not_all false y z w h = refl
not_all true y z w h = rw (h refl)

-- With one spelling more in front, the lexemes are its own and those of the others.
joined : (x : List ℕ) (xs : List (List ℕ)) (l : Lexeme)
    → ((rest : List ℕ) → lex between (x ++ rest) ≡ l ∷ lex between rest)
    → lex between (join_with_byte 32 (x ∷ xs)) ≡ l ∷ lex between (join_with_byte 32 xs)
joined x [] l h = ap (lex between) (sym (append-nil x)) ∙ h []
joined x (y ∷ ys) l h = h (32 ∷ join_with_byte 32 (y ∷ ys)) ∙ ap (λ ls. l ∷ ls) (behind_a_space _)

-- the JSON's lexemes are the tokens', too
spelled : (ps : List Piece) (before : Option Token) (c d : Bool) → comma_behind_all c ps ≡ Some d
    → lex between (join_with_byte 32 (spellings before (tokens_of ps))) ≡ map token_lexeme (tokens_of ps)
unfolding lex
spelled [] before c d e = refl
spelled (piece (mark b) ∷ ps) before c d e =
    let s = then_some (λ g. comma_behind_all g ps) (comma_behind c (piece (mark b))) d e in
    let h = some_if (is_mark b && not (c && is_closing b)) (is_comma b) s.0 s.1 in
    let m = and_parts (is_mark b) (not (c && is_closing b)) h.0 in
    let stays : is_needless before (mark b) (head_of (tokens_of ps)) ≡ false =
    not_all (is_comma b) (is_mark_of is_closing (head_of (tokens_of ps))) (is_some_token before)
    (not (is_mark_of keeps_comma before)) (λ t. no_closing ps s.0 d (sym h.1 ∙ t) s.2) in
    ap (λ g. lex between (join_with_byte 32 ((if g then [] else (b ∷ []) ∷ []) ++ spellings (Some (mark b)) (tokens_of ps)))) stays
    ∙ joined (b ∷ []) (spellings (Some (mark b)) (tokens_of ps)) (operator_lexeme b) (λ r. at_mark b r (mark_class b m.0))
    ∙ ap (λ ls. operator_lexeme b ∷ ls) (spelled ps (Some (mark b)) s.0 d s.2)
spelled (piece (quoted q cs) ∷ ps) before c d e =
    let s = then_some (λ g. comma_behind_all g ps) (comma_behind c (piece (quoted q cs))) d e in
    let h = some_if ((q == 34) && list_all is_plain_char cs) false s.0 s.1 in
    let m = and_parts (q == 34) (list_all is_plain_char cs) h.0 in
    let more = spellings (Some (quoted q cs)) (tokens_of ps) in
    let colon = is_mark_of is_colon (head_of (tokens_of ps)) in
    let same : token_json colon (quoted q cs) ≡ token_bytes (quoted 34 cs) =
    ap (λ k. token_json colon (quoted k cs)) (eqb-true q 34 m.0) in
    ap (λ x. lex between (join_with_byte 32 (x ∷ more))) same
    ∙ joined (token_bytes (quoted 34 cs)) more (token (string (flat_map char_bytes cs))) (λ r. lexed_string cs r m.1)
    ∙ ap (λ ls. token (string (flat_map char_bytes cs)) ∷ ls) (spelled ps (Some (quoted q cs)) s.0 d s.2)
spelled (piece (word bs) ∷ ps) before c d e = absurd (cc)
spelled (space b ∷ ps) before c d e =
    let s = then_some (λ g. comma_behind_all g ps) (comma_behind c (space b)) d e in
    spelled ps before s.0 d s.2
spelled (line_comment bs ∷ ps) before c d e = absurd (cc)
spelled (block_comment bs ∷ ps) before c d e = absurd (cc)

-- ---- one piece after another

-- The bytes of two lists of pieces before a rest are those of the first, and then of the second.
pub then_bytes : (ps qs : List Piece) (rest : List ℕ)
    → bytes_of (ps ++ qs) ++ rest ≡ bytes_of ps ++ (bytes_of qs ++ rest)
then_bytes [] qs rest = refl
then_bytes (p ∷ ps) qs rest =
    append_assoc (piece_bytes p) (bytes_of (ps ++ qs)) rest ∙ ap (λ l. piece_bytes p ++ l) (then_bytes ps qs rest)
    ∙ sym (append_assoc (piece_bytes p) (bytes_of ps) (bytes_of qs ++ rest))

-- Whether a comma is last after pieces and others is so after the others, from that after the first.
then_comma : (ps qs : List Piece) (c d e : Bool) → comma_behind_all c ps ≡ Some d → comma_behind_all d qs ≡ Some e
    → comma_behind_all c (ps ++ qs) ≡ Some e
then_comma [] qs c d e h k =
    let same : c ≡ d = (some_if true c d h).1 in
    ap (λ g. comma_behind_all g qs) same ∙ k
then_comma (p ∷ ps) qs c d e h k =
    let s = then_some (λ g. comma_behind_all g ps) (comma_behind c p) d h in
    ap (option_and_then (λ f. comma_behind_all f (ps ++ qs))) s.1 ∙ then_comma ps qs s.0 d e s.2 k

-- Where no piece was passed, the text is left as it is.
pub passes_nothing : (c : Bool) (text : List ℕ) → PassesPieces c text c text
passes_nothing c text = record { passed = []; bytes = refl; comma = refl }

-- Pieces that were passed one after the other were passed together.
pub passes_then : (c d e : Bool) (text mid rest : List ℕ) → PassesPieces c text d mid → PassesPieces d mid e rest
    → PassesPieces c text e rest
passes_then c d e text mid rest first next = record {
  passed = first.passed ++ next.passed;
  bytes = then_bytes first.passed next.passed rest ∙ ap (λ l. bytes_of first.passed ++ l) next.bytes ∙ first.bytes;
  comma = then_comma first.passed next.passed c d e first.comma next.comma;
}

-- A piece before a rest, with a comma's state behind it, is one passed piece.
passes_one : (c d : Bool) (p : Piece) (text rest : List ℕ) → piece_bytes p ++ rest ≡ text
    → comma_behind c p ≡ Some d → PassesPieces c text d rest
passes_one c d p text rest bytes comma = record {
  passed = p ∷ [];
  bytes = ap (λ l. l ++ rest) (append-nil (piece_bytes p)) ∙ bytes;
  comma = ap (option_and_then (λ f. comma_behind_all f [])) comma;
}

-- A space at the beginning of a text is passed, and the last token stays.
pub passes_space : (c : Bool) (t rest : List ℕ) → begins_with is_space t ≡ true → rest ≡ drop 1 t
    → PassesPieces c t c rest
passes_space c [] rest h e = absurd (cc)
passes_space c (x ∷ xs) rest h e =
    let is : is_space x ≡ true = h in
    passes_one c c (space x) (x ∷ xs) rest (ap (λ l. x ∷ l) e) (rw is)

-- A byte of the operators' class is a mark.
of_class : (q k m s : Bool)
    → cond q of_lex.quote (cond k of_lex.backslash (cond m operator (cond s of_lex.space of_lex.other))) ≡ operator
    → m ≡ true
of_class true k m s h = absurd (cc)
of_class false true m s h = absurd (cc)
of_class false false true s h = refl
of_class false false false true h = absurd (cc)
of_class false false false false h = absurd (cc)

-- A byte of the class of operators is a mark.
pub class_mark : (b : ℕ) → class b ≡ operator → is_mark b ≡ true
class_mark b h = of_class (b == 34) (b == 92) (is_mark b) (is_space b) h

-- A mark at the beginning of a text is passed, unless it closes something after a comma.
pub passes_mark : (c : Bool) (b : ℕ) (t rest : List ℕ) → class b ≡ operator → t ≡ b ∷ rest
    → (c && is_closing b) ≡ false → PassesPieces c t (is_comma b) rest
passes_mark c b t rest h e stays =
    let is : is_mark b ≡ true = class_mark b h in
    passes_one c (is_comma b) (piece (mark b)) t rest (sym e) (rw (is, stays))

-- Characters that stand for themselves have the bytes of which they were made.
pub chars_back : (s : List ℕ) → flat_map char_bytes (map plain s) ≡ s
chars_back [] = refl
chars_back (b ∷ bs) = ap (λ l. b ∷ l) (chars_back bs)

-- Plain bytes as characters are plain characters.
chars_plain : (s : List ℕ) → list_all is_plain s ≡ true → list_all is_plain_char (map plain s) ≡ true
chars_plain [] h = refl
chars_plain (b ∷ bs) h =
    let both = and_parts (is_plain b) (list_all is_plain bs) h in
    rw (both.0) (chars_plain bs both.1)

-- A quoted string of plain bytes at the beginning of a text is passed.
pub passes_string : (c : Bool) (text inside plain rest : List ℕ) → text ≡ 34 ∷ inside → inside ≡ plain ++ 34 ∷ rest
    → list_all is_plain plain ≡ true → PassesPieces c text false rest
passes_string c text inside s rest o e h =
    passes_one c false (piece (quoted 34 (map plain s))) text rest
    (quoted_bytes (map plain s) rest ∙ ap (λ l. 34 ∷ (l ++ 34 ∷ rest)) (chars_back s) ∙ sym (o ∙ ap (λ l. 34 ∷ l) e))
    (rw (chars_plain s h))

-- ---- the whole text

-- The value that lexemes are, if they are one.
abbrev pub of_lexemes : List Lexeme → Option Data
of_lexemes ls = option_and_then of_json (option_and_then (λ p. if_last p.0 p.1) (value 127 (punctuate fresh ls)))

-- A text all of whose pieces were passed can be read as if it were JSON.
pub reads_as_json : (text rest : List ℕ) (c : Bool) → PassesPieces false text c rest → length rest ≡ 0 → ReadsAsJson text
reads_as_json text rest c all none =
    let ps = all.passed in
    let bytes : bytes_of ps ++ [] ≡ text = ap (λ l. bytes_of ps ++ l) (sym (nil_from_length rest none)) ∙ all.bytes in
    let has : AreTokensOf text (tokens_of ps) = record {
      ps = ps;
      whole = record { bytes = bytes; pieces = are_all_pieces ps false c all.comma };
      tokens = refl;
    } in
    record {
      json = json_of_tokens (tokens_of ps);
      is_json = ap json_result (are_computed text (tokens_of ps) has);
      same = ap of_lexemes (spelled ps None false c all.comma ∙ sym (lexed ps false c all.comma)
          ∙ ap (lex between) (sym (append-nil (bytes_of ps)) ∙ bytes));
    }
