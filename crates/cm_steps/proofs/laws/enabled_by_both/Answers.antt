use Rattle.cm_steps.proofs.lemmas.actions.Enabled.{enabled_by_both_lem}
use Rattle.cm_steps.proofs.laws.enabled_by_both.Goals as goal

pub returns : goal.returns
returns c = enabled_by_both_lem
