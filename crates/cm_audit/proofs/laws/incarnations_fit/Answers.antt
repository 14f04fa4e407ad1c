use Rattle.cm_audit.proofs.lemmas.Fitting.{incarnations_fit}
use Rattle.cm_audit.proofs.laws.incarnations_fit.Goals as goal

pub returns : goal.returns
returns c = incarnations_fit
