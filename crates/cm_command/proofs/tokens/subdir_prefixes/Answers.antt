use Rattle.cm_command.proofs.lemmas.counts.PathCounts.{subdir_counts}
use Rattle.cm_command.proofs.tokens.subdir_prefixes.Goals as goal

pub returns : goal.returns
returns c = subdir_counts c.args.word.now c.part_prefixes.result c.part_prefixes.ensures
