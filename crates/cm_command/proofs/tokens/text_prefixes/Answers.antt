use Rattle.std.proofs.Common.{rules}
use Rattle.cm_command.proofs.lemmas.counts.Kind.{counts_literal}
use Rattle.cm_command.proofs.tokens.text_prefixes.Goals as goal

pub returns : goal.returns
returns c =
    counts_literal c.args.literal.now c.args.word.now c.common_len.result (search rules) (search rules) (search rules) (search rules)
