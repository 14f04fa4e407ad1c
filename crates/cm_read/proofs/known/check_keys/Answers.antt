use Rattle.cm_read.proofs.known.check_keys.Goals as goal

pub returns : goal.returns
returns c = rw c.keys_of.ensures at c.check_known.ensures
