use Rattle.cm_reply.proofs.lemmas.back.Told.{entries_read_one_way_lem}
use Rattle.cm_reply.proofs.laws.entries_read_one_way.Goals as goal

pub returns : goal.returns
returns c = entries_read_one_way_lem
