use Rattle.std.proofs.Common.{codes}
use Rattle.cm_command.proofs.lemmas.counts.Kind.{counts_no_prefix}
use Rattle.cm_command.proofs.lemmas.counts.PathCounts.{path_behind, path_counts}
use Rattle.cm_command.proofs.tokens.path_prefixes.Goals as goal

pub returns-in-Some : goal.returns-in-Some
returns-in-Some c =
    path_counts c.args.word.now c.in-Some.parts.now c.part_prefixes.result c.in-Some.ensures c.part_prefixes.ensures

pub returns-in-None : goal.returns-in-None
returns-in-None c =
    counts_no_prefix (codes "/") c.args.word.now c.text_prefixes.result path_behind c.in-None.ensures c.text_prefixes.ensures
