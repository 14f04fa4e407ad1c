use Rattle.cm_legible.proofs.lemmas.Replies.{replies_are_named}
use Rattle.cm_legible.proofs.laws.replies_are_named.Goals as goal

pub returns : goal.returns
returns c = replies_are_named
