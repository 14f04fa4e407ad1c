use Rattle.cm_turn.proofs.lemmas.LawProofs.{turn-has-seen}
use Rattle.cm_turn.proofs.lemmas.LawProofs.{home-is-history}
use Rattle.cm_turn.proofs.laws.state_stands_for_the_history.Goals as goal

pub returns-clause-home : goal.returns-clause-home
returns-clause-home g c = λ key s kept. home-is-history g.S.Storied.story g.S.Storied.frame g.S.Storied.by key s kept

pub returns-clause-turn : goal.returns-clause-turn
returns-clause-turn g c = λ key s kept. turn-has-seen g.S.Storied.story g.S.Storied.frame g.S.Storied.by key s kept
