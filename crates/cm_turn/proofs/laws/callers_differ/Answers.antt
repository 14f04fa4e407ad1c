use Rattle.cm_turn.proofs.lemmas.LawProofs.{callers-made}
use Rattle.cm_turn.proofs.lemmas.LawProofs.{one-caller}
use Rattle.cm_turn.proofs.laws.callers_differ.Goals as goal

pub returns-clause-one : goal.returns-clause-one
returns-clause-one g c = λ key s kept. one-caller g.S.Storied.story g.S.Storied.frame g.S.Storied.by key s kept

pub returns-clause-made : goal.returns-clause-made
returns-clause-made g c = λ key s kept. callers-made g.S.Storied.story g.S.Storied.frame g.S.Storied.by key s kept
