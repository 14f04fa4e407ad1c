use Rattle.cm_valid.proofs.lemmas.Judging.{judged}
use Rattle.cm_valid.proofs.laws.each_is_valid_or_has_a_fault.Goals as goal

pub returns : goal.returns
returns c = judged
