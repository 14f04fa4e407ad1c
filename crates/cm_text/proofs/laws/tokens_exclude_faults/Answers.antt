use Rattle.cm_text.proofs.lemmas.pieces.Cover.{tokens_exclude_faults}
use Rattle.cm_text.proofs.laws.tokens_exclude_faults.Goals as goal

pub returns : goal.returns
returns c = tokens_exclude_faults
