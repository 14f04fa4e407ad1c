use Rattle.cm_command.proofs.lemmas.counts.MonikerCounts.{moniker_utf8}
use Rattle.cm_command.proofs.tokens.judge_moniker.Goals as goal

pub unreachable-requires : goal.unreachable-requires
unreachable-requires c =
    c.in_default-text_of.ensures (moniker_utf8 c.args.word.now c.in_default.ensures)
