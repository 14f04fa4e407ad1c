use Rattle.std.proofs.Common.{string_bytes, drop}
use Rattle.cm_program.proofs.lemmas.lanes.Printing.{ends_early}
use Rattle.cm_program.proofs.answers.push_lines.Goals as goal

pub returns-then-at-said : goal.returns-then-at-said
returns-then-at-said c more =
    ends_early (drop c.loop-line.line-index c.args.lines.now) more c.loop-line.at c.args.said.now (string_bytes c.loop-line.text) _ c.if-at-said.true (c.loop-line.invariant more)
