use Rattle.cm_turn.proofs.lemmas.LawProofs.{all-held}
use Rattle.cm_turn.proofs.lemmas.LawProofs.{tickets-follow}
use Rattle.cm_turn.proofs.lemmas.LawProofs.{counts-tickets}
use Rattle.cm_turn.proofs.lemmas.LawProofs.{one-ticket}
use Rattle.cm_turn.proofs.laws.tickets_queue.Goals as goal

pub returns-clause-one : goal.returns-clause-one
returns-clause-one g c = λ key s kept. one-ticket g.S.Storied.story g.S.Storied.frame g.S.Storied.by key s kept

pub returns-clause-count : goal.returns-clause-count
returns-clause-count g c = λ key s kept. counts-tickets g.S.Storied.story g.S.Storied.frame g.S.Storied.by key s kept

pub returns-clause-follow : goal.returns-clause-follow
returns-clause-follow g c = λ key s kept. tickets-follow g.S.Storied.story g.S.Storied.frame g.S.Storied.by key s kept

pub returns-clause-all : goal.returns-clause-all
returns-clause-all g c = λ key s kept. all-held g.S.Storied.story g.S.Storied.frame g.S.Storied.by key s kept
