use Rattle.cm_laws.proofs.lemmas.lasting.Stable.{routes_are_stable}
use Rattle.cm_laws.proofs.routes_are_stable.Goals as goal

pub returns : goal.returns
returns c = record { stable = routes_are_stable }
