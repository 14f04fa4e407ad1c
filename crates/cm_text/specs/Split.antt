-- Inside.
-- The grammar of the relaxed spelling: which tokens a text has, or its first fault.
use Rattle.std.specs.Prelude.{◌≡◌, ◌≢◌, ◌⊎◌, ℕ, List, [], ◌∷◌, ◌++◌, length, Bool, true, false, not, ◌&&◌}
use Rattle.std.specs.Prelude.{◌||◌, ◌==◌, IsTrue}
use Rattle.std.specs.List.{list_all, flat_map}
use Rattle.cm_text.specs.Bytes.{is_mark, is_space, is_quote, is_word_byte, is_in_line, begins_with}
use Rattle.cm_text.specs.Bytes.{closes_comment}
use Rattle.cm_text.specs.Token.{Char, plain, taken, Token, mark, quoted, word, Piece, token, space}
use Rattle.cm_text.specs.Token.{line_comment, block_comment, char_bytes, tokens_of}
use Rattle.cm_text.specs.TokenInside.{bytes_of}
use Rattle.cm_text.specs.declared.fault.TextFault.{TextFault}
use Rattle.cm_text.specs.declared.fault.TextFault.TheVariants.{BadToken, Unclosed, Memory}

-- ---- which pieces may stand

-- whether a character may stand in a string with this quote: plain, it is neither the quote nor a
-- backslash
abbrev pub is_char : ℕ → Char → Bool
is_char q (plain b) = not (b == q) && not (b == 92)
is_char q (taken b) = true

-- whether a star and a slash follow each other somewhere in the bytes
abbrev pub has_end : List ℕ → Bool
has_end [] = false
has_end (b ∷ bs) = closes_comment (b ∷ bs) || has_end bs

-- whether a text may stand in a comment between stars, whose first star and slash end it
abbrev pub is_comment : List ℕ → Bool
is_comment bs = not (has_end (bs ++ 42 ∷ []))

-- whether it is a token: a mark, a string that its first closing quote ends, or a word of one byte or
-- more
abbrev pub is_token : Token → Bool
is_token (mark b) = is_mark b
is_token (quoted q cs) = is_quote q && list_all (is_char q) cs
is_token (word bs) = not (length bs == 0) && list_all is_word_byte bs

-- whether it is a piece: a token, a space or a comment
abbrev pub is_piece : Piece → Bool
is_piece (token t) = is_token t
is_piece (space b) = is_space b
is_piece (line_comment bs) = list_all is_in_line bs
is_piece (block_comment bs) = is_comment bs

-- whether this rest may follow the piece; words and comments to the line's end are as long as they can
-- be
abbrev pub may_follow : Piece → List ℕ → Bool
may_follow (token (mark b)) rest = true
may_follow (token (quoted q cs)) rest = true
may_follow (token (word bs)) rest = not (begins_with is_word_byte rest)
may_follow (space b) rest = true
may_follow (line_comment bs) rest = not (begins_with is_in_line rest)
may_follow (block_comment bs) rest = true

-- whether these can be the pieces of a text before the rest
abbrev pub are_pieces : List Piece → List ℕ → Bool
are_pieces [] rest = true
are_pieces (p ∷ ps) rest = is_piece p && may_follow p (bytes_of ps ++ rest) && are_pieces ps rest

-- the text is these pieces, and then the rest
pub record SplitsInto (text : List ℕ) (ps : List Piece) (rest : List ℕ) : Type 0 where
  pub bytes : bytes_of ps ++ rest ≡ text
  pub pieces : IsTrue (are_pieces ps rest)

-- ---- the tokens

-- these are the text's tokens
pub record AreTokensOf (text : List ℕ) (ts : List Token) : Type 0 where
  pub ps : List Piece
  pub whole : SplitsInto text ps []
  pub tokens : tokens_of ps ≡ ts

-- ---- the faults

-- whether no piece begins with this byte and these further ones
abbrev pub begins_nothing : ℕ → List ℕ → Bool
begins_nothing b bs =
    not (is_mark b) && not (is_space b) && not (is_quote b) && not (is_word_byte b)
    && not ((b == 47) && begins_with (λ c. (c == 47) || (c == 42)) bs)

-- no string with this quote ends within the bytes
abbrev pub NeverCloses : ℕ → List ℕ → Type 0
NeverCloses q bs =
    (cs : List Char) (rest : List ℕ) → IsTrue (list_all (is_char q) cs)
    → bs ≢ flat_map char_bytes cs ++ q ∷ rest

-- a string or a comment begins here, and never ends
abbrev pub NeverEnds : List ℕ → Type 0
NeverEnds [] = ⊥
NeverEnds (b ∷ bs) =
    (IsTrue (is_quote b) × NeverCloses b bs)
    ⊎ ((cs : List ℕ) × (b ∷ bs ≡ 47 ∷ 42 ∷ cs) × IsTrue (not (has_end cs)))

-- something stands here, and no piece begins with it
abbrev pub BeginsNothing : List ℕ → Type 0
BeginsNothing [] = ⊥
BeginsNothing (b ∷ bs) = IsTrue (begins_nothing b bs)

-- the text's first fault: after some pieces stands what begins no piece, or what never ends
abbrev pub IsTextFault : List ℕ → TextFault → Type 0
IsTextFault text (BadToken at) =
    (ps : List Piece) × (rest : List ℕ) × SplitsInto text ps rest × (at ≡ length (bytes_of ps))
    × BeginsNothing rest
IsTextFault text (Unclosed at) =
    (ps : List Piece) × (rest : List ℕ) × SplitsInto text ps rest × (at ≡ length (bytes_of ps))
    × NeverEnds rest
IsTextFault text Memory = ⊥
