use Rattle.std.proofs.Common.{arith}
use Rattle.std.proofs.lemmas.Str.Pattern.{strip_prefix_char}
use Rattle.cm_read.proofs.lemmas.reading.Mark.{behind}
use Rattle.cm_read.proofs.fields.behind_mark.Goals as goal

pub returns : goal.returns
returns c = behind c.args.text.now c.strip_prefix.result (strip_prefix_char 35 c.args.text.now c.strip_prefix.result c.strip_prefix.ensures.cases (omega arith))
