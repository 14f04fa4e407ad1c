use Rattle.cm_command.proofs.lemmas.written.ReadCommands.{what_is_read_lem}
use Rattle.cm_command.proofs.writer.what_is_read_is_writable.Goals as goal

pub returns : goal.returns
returns c = what_is_read_lem
