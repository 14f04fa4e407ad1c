use Rattle.std.proofs.Common.{sym, ap, ◌∙◌, refl}
use Rattle.cm_reply.specs.Reading.{text_of_asked}
use Rattle.cm_reply.proofs.entries.read_asked.Goals as goal
