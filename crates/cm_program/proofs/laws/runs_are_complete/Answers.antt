use Rattle.cm_program.proofs.lemmas.unfailing.Complete.{complete}
use Rattle.cm_program.proofs.laws.runs_are_complete.Goals as goal

pub returns : goal.returns
returns g c = λ was now. complete _ _ _ _ _ _ _ _ was now
