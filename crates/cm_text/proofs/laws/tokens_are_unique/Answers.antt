use Rattle.cm_text.proofs.lemmas.pieces.Piece.{are_unique}
use Rattle.cm_text.proofs.laws.tokens_are_unique.Goals as goal

pub returns : goal.returns
returns c = are_unique
