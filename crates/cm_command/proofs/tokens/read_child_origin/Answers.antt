use Rattle.std.proofs.Common.{codes}
use Rattle.cm_command.proofs.lemmas.counts.Kind.{fault_of_rest, fault_no_prefix}
use Rattle.cm_command.proofs.lemmas.counts.ChildCounts.{origin_behind}
use Rattle.cm_command.proofs.tokens.read_child_origin.Goals as goal

pub returns-in_default : goal.returns-in_default
returns-in_default c =
    fault_no_prefix (codes "#") c.args.word.now c.text_prefixes.result origin_behind c.in_default.ensures c.text_prefixes.ensures

pub returns-in-Err : goal.returns-in-Err
returns-in-Err c =
    fault_of_rest (codes "#") c.args.word.now c.in-Some.child.now c.in-Err.fault c.behind.result origin_behind c.in-Some.ensures c.behind.ensures c.in-Err.ensures
