use Rattle.cm_laws.proofs.lemmas.actions.Beginners.{pickers_may_end}
use Rattle.cm_laws.proofs.pickers_end.Goals as goal

pub returns : goal.returns
returns c = record { picks = pickers_may_end }
