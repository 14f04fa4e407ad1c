use Rattle.cm_text.proofs.lemmas.pieces.Cover.{are_covered}
use Rattle.cm_text.proofs.laws.texts_are_covered.Goals as goal

pub returns : goal.returns
returns c = are_covered
