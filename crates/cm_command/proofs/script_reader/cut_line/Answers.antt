use Rattle.std.proofs.Common.{rules}
use Rattle.cm_command.proofs.lemmas.bytes.Pieces.{cut_lines, cut_last}
use Rattle.cm_command.proofs.script_reader.cut_line.Goals as goal

pub returns-in-Some-clause-lines : goal.returns-in-Some-clause-lines
returns-in-Some-clause-lines c =
    cut_lines c.args.bytes.now c.cut.result.0.now c.in-Some.rest.now c.cut.ensures.clean (search rules)

pub returns-in-None-clause-lines : goal.returns-in-None-clause-lines
returns-in-None-clause-lines c =
    cut_last c.args.bytes.now c.cut.result.0.now c.requires c.cut.ensures.clean (search rules)
