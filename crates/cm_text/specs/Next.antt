-- Inside.
-- What a text begins with: a space or a comment, or a key without quotes.
use Rattle.std.specs.Prelude.{◌≡◌, ℕ, List, [], ◌∷◌, true, None}
use Rattle.cm_text.specs.Token.{Piece, token, word, piece_token}
use Rattle.cm_text.specs.Split.{SplitsInto}
use Rattle.cm_text.specs.Json.{is_bare_key}

-- the text begins with a space or a comment, and this rest follows
pub record BehindBlank (text rest : List ℕ) : Type 0 where
  pub blank : Piece
  pub no_token : piece_token blank ≡ None
  pub splits : SplitsInto text (blank ∷ []) rest

-- the text begins with this key without quotes, and this rest follows
pub record BehindKey (text key rest : List ℕ) : Type 0 where
  pub bare : is_bare_key key ≡ true
  pub splits : SplitsInto text (token (word key) ∷ []) rest
