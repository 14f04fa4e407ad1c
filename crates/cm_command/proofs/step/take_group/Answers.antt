use Rattle.std.proofs.Common.{rules}
use Rattle.cm_command.proofs.lemmas.line.Step.{group_fault}
use Rattle.cm_command.proofs.step.take_group.Goals as goal

pub returns-else-is_same : goal.returns-else-is_same
returns-else-is_same c =
    group_fault c.args.creation c.args.word.now c.text_prefixes.result (search rules) c.text_prefixes.ensures
