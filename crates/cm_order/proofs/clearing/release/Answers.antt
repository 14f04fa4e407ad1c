use Rattle.std.proofs.Common.{refl}
use Rattle.cm_order.proofs.lemmas.levels.Clearing.{known_same}
use Rattle.cm_order.proofs.clearing.release.Goals as goal

pub returns-in_ok-push_back-clause-known : goal.returns-in_ok-push_back-clause-known
returns-in_ok-push_back-clause-known c = λ rows p is. known_same rows p c.loses_last.new.known _ refl refl (c.in_ok-loses_last.ensures.known rows p is)
