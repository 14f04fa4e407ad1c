use Rattle.cm_laws.proofs.lemmas.actions.Outcomes.{outcomes_are_one}
use Rattle.cm_laws.proofs.outcomes_are_one.Goals as goal

pub returns : goal.returns
returns c = record { one = outcomes_are_one }
