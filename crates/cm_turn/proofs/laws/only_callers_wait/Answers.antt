use Rattle.cm_turn.proofs.lemmas.LawProofs.{only-callers}
use Rattle.cm_turn.proofs.laws.only_callers_wait.Goals as goal

pub returns : goal.returns
returns g c = λ key s kept. only-callers g.S.Storied.story g.S.Storied.frame g.S.Storied.by key s kept
