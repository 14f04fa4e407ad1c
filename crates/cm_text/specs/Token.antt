-- Promised.
-- The tokens of a text in the relaxed spelling of JSON, and what stands between them.
use Rattle.std.specs.Prelude.{ℕ, List, [], ◌∷◌, ◌++◌, Option, Some, None}
use Rattle.std.specs.List.{flat_map, filter_map}

-- a character of a string: a byte that stands for itself, or one after a backslash, which belongs to
-- it
pub data Char : Type 0 where
  plain : ℕ → Char
  taken : ℕ → Char

-- a token: a mark, a string by its quote and its characters, or a word
pub data Token : Type 0 where
  mark : ℕ → Token
  quoted : ℕ → List Char → Token
  word : List ℕ → Token

-- a piece of a text: a token, a space, or a comment by what follows its opening, up to its end
pub data Piece : Type 0 where
  token : Token → Piece
  space : ℕ → Piece
  line_comment : List ℕ → Piece
  block_comment : List ℕ → Piece

-- the bytes of a character: one, or two after a backslash
abbrev pub char_bytes : Char → List ℕ
char_bytes (plain b) = b ∷ []
char_bytes (taken b) = 92 ∷ b ∷ []

-- the bytes of a token, with the quotes of a string
abbrev pub token_bytes : Token → List ℕ
token_bytes (mark b) = b ∷ []
token_bytes (quoted q cs) = q ∷ (flat_map char_bytes cs ++ q ∷ [])
token_bytes (word bs) = bs

-- the bytes of a piece, with the marks of a comment
abbrev pub piece_bytes : Piece → List ℕ
piece_bytes (token t) = token_bytes t
piece_bytes (space b) = b ∷ []
piece_bytes (line_comment bs) = 47 ∷ 47 ∷ bs
piece_bytes (block_comment bs) = 47 ∷ 42 ∷ (bs ++ 42 ∷ 47 ∷ [])

-- the token that a piece is, if it is one
abbrev pub piece_token : Piece → Option Token
piece_token (token t) = Some t
piece_token (space b) = None
piece_token (line_comment bs) = None
piece_token (block_comment bs) = None

-- the tokens among pieces, without spaces and comments
abbrev pub tokens_of : List Piece → List Token
tokens_of ps = filter_map piece_token ps
