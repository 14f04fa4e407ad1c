use Rattle.cm_command.proofs.lemmas.line.LineGrammar.{reads_one_way_lem}
use Rattle.cm_command.proofs.reader.reads_one_way.Goals as goal

pub returns : goal.returns
returns c = reads_one_way_lem
