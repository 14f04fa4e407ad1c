use Rattle.cm_text.proofs.lemmas.pieces.Piece.{are_computed}
use Rattle.cm_text.proofs.laws.tokens_are_computed.Goals as goal

pub returns : goal.returns
returns c = are_computed
