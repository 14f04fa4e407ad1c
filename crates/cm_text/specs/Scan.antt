-- Inside.
-- What the reader finds of a text's first piece, as the definitions have it.
use Rattle.std.specs.Prelude.{ℕ, suc, List, [], ◌∷◌, ◌++◌, length, Bool, true, false, ◌==◌, if◌then◌else◌}
use Rattle.std.specs.Prelude.{Option, Some, None, Result, Ok, Err}
use Rattle.std.specs.Option.{option_map}
use Rattle.cm_text.specs.Token.{Char, plain, taken, Token, mark, quoted, word, piece_bytes, piece_token}
use Rattle.cm_text.specs.Pieces.{plain_byte, First, stray, unclosed, piece, first_piece}
use Rattle.cm_text.specs.declared.token.Token.{Token as CodeToken}
use Rattle.cm_text.specs.declared.token.Token.TheVariants.{Mark, Quoted, Word}
use Rattle.cm_text.specs.declared.token.Piece.{Piece as CodePiece}
use Rattle.cm_text.specs.declared.fault.TextFault.{TextFault}
use Rattle.cm_text.specs.declared.fault.TextFault.TheVariants.{BadToken, Unclosed}

-- the place of the closing quote in these bytes; `behind` says whether a backslash came before
abbrev pub close_place : ℕ → Bool → List ℕ → Option ℕ
close_place q behind [] = None
close_place q true (b ∷ bs) = option_map suc (close_place q false bs)
close_place q false (b ∷ bs) =
    if b == q then Some 0 else option_map suc (close_place q (b == 92) bs)

-- the characters between two quotes; a backslash at their end stands for itself
abbrev pub within : Bool → List ℕ → List Char
within false [] = []
within true [] = plain 92 ∷ []
within true (b ∷ bs) = taken b ∷ within false bs
within false (b ∷ bs) = plain_byte b ++ within (b == 92) bs

-- the token that the code's token stands for
abbrev pub token_of : CodeToken → Token
token_of (Mark b) = mark b
token_of (Quoted q inside) = quoted q (within false inside.now)
token_of (Word bs) = word bs.now

-- a piece's token, if it is one, and its length; or the fault at its place
abbrev pub outline : ℕ → First → Result (Option Token × ℕ) TextFault
outline at stray = Err (BadToken at)
outline at unclosed = Err (Unclosed at)
outline at (piece p) = Ok (piece_token p, length (piece_bytes p))

-- what a whole text begins with
abbrev pub first_of_text : List ℕ → First
first_of_text [] = stray
first_of_text (b ∷ bs) = first_piece b bs

-- the token and the length of a piece, as the code's reader tells them
abbrev pub piece_outline : CodePiece → Result (Option Token × ℕ) TextFault
piece_outline p = Ok (option_map token_of p.token, p.len)

-- the token and the length of the first piece, or its fault, as the code's reader returned them
abbrev pub result_outline : Result CodePiece TextFault → Result (Option Token × ℕ) TextFault
result_outline (Ok p) = piece_outline p
result_outline (Err e) = Err e
