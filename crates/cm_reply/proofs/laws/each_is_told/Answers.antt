use Rattle.cm_reply.proofs.lemmas.back.Named.{each_is_told_lem}
use Rattle.cm_reply.proofs.laws.each_is_told.Goals as goal

pub returns : goal.returns
returns c = each_is_told_lem
