use Rattle.cm_turn.proofs.lemmas.LawProofs.{out-in-turn}
use Rattle.cm_turn.proofs.lemmas.LawProofs.{out-only}
use Rattle.cm_turn.proofs.laws.state_is_out_in_a_turn.Goals as goal

pub returns-clause-only : goal.returns-clause-only
returns-clause-only g c = λ key s kept. out-only g.S.Storied.story g.S.Storied.frame g.S.Storied.by key s kept

pub returns-clause-out : goal.returns-clause-out
returns-clause-out g c = λ key s kept. out-in-turn g.S.Storied.story g.S.Storied.frame g.S.Storied.by key s kept
