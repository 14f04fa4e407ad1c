use Rattle.cm_turn.proofs.lemmas.LawProofs.{no-others}
use Rattle.cm_turn.proofs.lemmas.LawProofs.{entries-mine}
use Rattle.cm_turn.proofs.laws.entries_have_callers.Goals as goal

pub returns-clause-mine : goal.returns-clause-mine
returns-clause-mine g c = λ key s kept. entries-mine g.S.Storied.story g.S.Storied.frame g.S.Storied.by key s kept

pub returns-clause-others : goal.returns-clause-others
returns-clause-others g c = λ key s kept. no-others g.S.Storied.story g.S.Storied.frame g.S.Storied.by key s kept
