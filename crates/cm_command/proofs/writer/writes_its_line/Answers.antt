use Rattle.cm_command.proofs.lemmas.written.WritesLine.{writes_its_line_lem}
use Rattle.cm_command.proofs.writer.writes_its_line.Goals as goal

pub returns : goal.returns
returns c = writes_its_line_lem
