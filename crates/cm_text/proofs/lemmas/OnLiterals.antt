-- What an answer unfolds to compute the tokens of a literal.
use Rattle.std.specs.Prelude.{⊤}
use Rattle.cm_text.specs.Pieces.{chars, comment, pieces}

-- What is unfolded where the tokens of a literal are computed.
unfoldable pub text_on_literals : ⊤
unfolding chars comment pieces
text_on_literals = tt
