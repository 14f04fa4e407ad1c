use Rattle.cm_turn.proofs.lemmas.LawProofs.{one-turn}
use Rattle.cm_turn.proofs.laws.one_has_the_turn.Goals as goal

pub returns : goal.returns
returns g c = λ key s kept. one-turn g.S.Storied.story g.S.Storied.frame g.S.Storied.by key s kept
