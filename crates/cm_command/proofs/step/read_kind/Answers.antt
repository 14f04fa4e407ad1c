use Rattle.std.proofs.Common.{rules}
use Rattle.cm_command.proofs.lemmas.line.Step.{kind_counts, no_kind}
use Rattle.cm_command.proofs.step.read_kind.Goals as goal

pub returns : goal.returns
returns c =
    (no_kind c.args.word.now (search rules) (search rules), kind_counts c.args.word.now c.text_prefixes.result c.text_prefixes-2.result c.max.result c.max.ensures c.text_prefixes.ensures c.text_prefixes-2.ensures)
