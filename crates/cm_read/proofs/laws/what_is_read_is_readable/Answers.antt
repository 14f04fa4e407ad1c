use Rattle.cm_read.proofs.lemmas.reading.DeclRead.{what_is_read_is_readable_lem}
use Rattle.cm_read.proofs.laws.what_is_read_is_readable.Goals as goal

pub returns : goal.returns
returns c = what_is_read_is_readable_lem
