-- Promised.
-- The pieces of a text, computed: tokens, spaces and comments.
use Rattle.std.specs.Prelude.{ℕ, zero, suc, ◌+◌, ◌-◌, List, [], ◌∷◌, ◌++◌, length, Bool, true, false, ◌==◌}
use Rattle.std.specs.Prelude.{if◌then◌else◌, Option, Some, None, option_map, Result, Ok, Err, take_while}
use Rattle.cm_text.specs.Bytes.{is_mark, is_space, is_quote, is_word_byte, is_in_line, closes_comment}
use Rattle.cm_text.specs.Token.{Char, plain, taken, Token, mark, quoted, word, Piece, token, space}
use Rattle.cm_text.specs.Token.{line_comment, block_comment, piece_bytes, tokens_of}
use Rattle.cm_text.specs.declared.fault.TextFault.{TextFault}
use Rattle.cm_text.specs.declared.fault.TextFault.TheVariants.{BadToken, Unclosed}

-- a byte of a string as a character; a backslash is none, since it belongs to the byte after it
abbrev pub plain_byte : ℕ → List Char
plain_byte b = if b == 92 then [] else plain b ∷ []

-- the characters of a string up to its closing quote, if it has one; `behind` says whether a backslash
-- came before
unfoldable pub chars : ℕ → Bool → List ℕ → Option (List Char)
chars q behind [] = None
chars q true (b ∷ bs) = option_map (λ cs. taken b ∷ cs) (chars q false bs)
chars q false (b ∷ bs) =
    if b == q then Some [] else option_map (λ cs. plain_byte b ++ cs) (chars q (b == 92) bs)

-- the bytes of a comment up to its first star and slash, if it has them
unfoldable pub comment : List ℕ → Option (List ℕ)
comment [] = None
comment (b ∷ bs) =
    if closes_comment (b ∷ bs) then Some [] else option_map (λ cs. b ∷ cs) (comment bs)

-- ---- the first piece

-- what a text begins with: nothing that is a piece, a string or a comment that never ends, or a piece
pub data First : Type 0 where
  stray : First
  unclosed : First
  piece : Piece → First

-- the classes of bytes, by the kind of piece that they begin
pub data Class : Type 0 where
  mark_byte : Class
  space_byte : Class
  quote_byte : Class
  word_byte : Class
  slash : Class
  other : Class

-- the class of a byte, which tells what kind of piece it begins
abbrev pub class : ℕ → Class
class b =
    if is_mark b then mark_byte
    else if is_space b then space_byte
    else if is_quote b then quote_byte
    else if is_word_byte b then word_byte
    else if b == 47 then slash
    else other

-- a string as a piece, by its quote and its characters, if it ends
abbrev pub string_piece : ℕ → Option (List Char) → First
string_piece q None = unclosed
string_piece q (Some cs) = piece (token (quoted q cs))

-- a comment between stars as a piece, if it ends
abbrev pub block_piece : Option (List ℕ) → First
block_piece None = unclosed
block_piece (Some bs) = piece (block_comment bs)

-- the comment that begins with a slash and these bytes
abbrev pub comment_piece : List ℕ → First
comment_piece [] = stray
comment_piece (b ∷ bs) =
    if b == 47 then piece (line_comment (take_while is_in_line bs))
    else if b == 42 then block_piece (comment bs)
    else stray

-- the piece that begins with a byte of this class and these further bytes
abbrev pub first_of : Class → ℕ → List ℕ → First
first_of mark_byte b bs = piece (token (mark b))
first_of space_byte b bs = piece (space b)
first_of quote_byte b bs = string_piece b (chars b false bs)
first_of word_byte b bs = piece (token (word (b ∷ take_while is_word_byte bs)))
first_of slash b bs = comment_piece bs
first_of other b bs = stray

-- the piece that begins with this byte and these further bytes
abbrev pub first_piece : ℕ → List ℕ → First
first_piece b bs = first_of (class b) b bs

-- ---- all pieces

-- a piece and then others, or their fault
abbrev pub with_piece : Piece → Result (List Piece) TextFault → Result (List Piece) TextFault
with_piece p (Ok ps) = Ok (p ∷ ps)
with_piece p (Err e) = Err e

-- the piece that was read and those after it, or its fault; the others are read after so many bytes
abbrev pub piece_then : ℕ → First → (ℕ → Result (List Piece) TextFault) → Result (List Piece) TextFault
piece_then at stray more = Err (BadToken at)
piece_then at unclosed more = Err (Unclosed at)
piece_then at (piece p) more = with_piece p (more (length (piece_bytes p) - 1))

-- the pieces of a text that begins at this place, after some bytes of it that belong to the last piece
unfoldable pub pieces : ℕ → ℕ → List ℕ → Result (List Piece) TextFault
pieces passed at [] = Ok []
pieces zero at (b ∷ bs) = piece_then at (first_piece b bs) (λ n. pieces n (at + 1) bs)
pieces (suc n) at (b ∷ bs) = pieces n (at + 1) bs

-- the tokens among pieces, or the fault
abbrev pub tokens_result : Result (List Piece) TextFault → Result (List Token) TextFault
tokens_result (Ok ps) = Ok (tokens_of ps)
tokens_result (Err e) = Err e

-- the tokens of a text that begins at this place, or its first fault
abbrev pub tokens_from : ℕ → List ℕ → Result (List Token) TextFault
tokens_from at text = tokens_result (pieces 0 at text)

-- the tokens of a text, or its first fault
abbrev pub tokens : List ℕ → Result (List Token) TextFault
tokens text = tokens_from 0 text
