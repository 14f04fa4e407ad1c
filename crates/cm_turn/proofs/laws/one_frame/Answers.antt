use Rattle.cm_turn.proofs.lemmas.LawProofs.{home-frame}
use Rattle.cm_turn.proofs.lemmas.LawProofs.{one-frame}
use Rattle.cm_turn.proofs.laws.one_frame.Goals as goal

pub returns-clause-seats : goal.returns-clause-seats
returns-clause-seats g c = λ key s kept. one-frame g.S.Storied.story g.S.Storied.frame g.S.Storied.by key s kept

pub returns-clause-home : goal.returns-clause-home
returns-clause-home g c = λ key s kept. home-frame g.S.Storied.story g.S.Storied.frame g.S.Storied.by key s kept
