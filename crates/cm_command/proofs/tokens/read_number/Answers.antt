use Rattle.std.proofs.Common.{rules, arith, ◌+◌}
use Rattle.cm_command.proofs.lemmas.counts.NumberCounts.{zero_stops, digit_stops, digit_more, nothing_counts, nothing_is_no_number}
use Rattle.cm_command.proofs.lemmas.counts.Url.{not_whole}
use Rattle.cm_command.proofs.tokens.read_number.Goals as goal

pub returns-then-number-eq0 : goal.returns-then-number-eq0
returns-then-number-eq0 c =
    let count = zero_stops c.args.word.now c.loop-i.i c.loop-i.number c.loop-i-test.true c.loop-i.invariant c.if-i-gt0.true c.if-number-eq0.true in
    (not_whole c.args.word.now (c.loop-i.i + 1) count (omega arith), count)

pub returns-in-None : goal.returns-in-None
returns-in-None c =
    let count = digit_stops c.args.word.now c.loop-i.i c.loop-i.number c.loop-i-test.true c.loop-i.invariant c.in-None.ensures in
    (not_whole c.args.word.now (c.loop-i.i + 1) count (omega arith), count)

pub loop-i-preserved : goal.loop-i-preserved
loop-i-preserved c =
    digit_more c.args.word.now c.loop-i.i c.loop-i.number c.in-Some.next c.loop-i-test.true c.loop-i.invariant (search rules) c.in-Some.ensures.0 c.in-Some.ensures.1 c.in-Some.ensures.2

pub returns-then-is_empty : goal.returns-then-is_empty
returns-then-is_empty c =
    (nothing_is_no_number c.args.word.now (search rules), nothing_counts c.args.word.now (search rules))
