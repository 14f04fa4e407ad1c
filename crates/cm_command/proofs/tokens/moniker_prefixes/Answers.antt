use Rattle.std.proofs.Common.{rules}
use Rattle.cm_command.proofs.lemmas.counts.MonikerCounts.{moniker_stops, moniker_full}
use Rattle.cm_command.proofs.tokens.moniker_prefixes.Goals as goal

pub returns-in-Some : goal.returns-in-Some
returns-in-Some c =
    moniker_stops c.args.word.now c.min.result c.in-Some.place (search rules) c.in-Some.ensures.prefix c.in-Some.ensures.not_whole

pub returns-then-word-gt-LONGEST : goal.returns-then-word-gt-LONGEST
returns-then-word-gt-LONGEST c =
    moniker_full c.args.word.now c.min.result (search rules) c.if-word-gt-LONGEST.true c.in-None.ensures.whole
