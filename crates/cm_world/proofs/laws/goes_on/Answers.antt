use Rattle.cm_world.proofs.lemmas.trees.Histories.{Legal-push, replay-push}
use Rattle.cm_world.proofs.laws.goes_on.Goals as goal

pub returns : goal.returns
returns c = record { legal = Legal-push; replay = replay-push }
