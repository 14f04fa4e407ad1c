use Rattle.cm_turn.proofs.lemmas.LawProofs.{seen-begins}
use Rattle.cm_turn.proofs.laws.seen_lists_begin_the_history.Goals as goal

pub returns : goal.returns
returns g c = λ key s kept. seen-begins g.S.Storied.story g.S.Storied.frame g.S.Storied.by key s kept
