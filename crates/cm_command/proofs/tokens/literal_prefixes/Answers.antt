use Rattle.std.proofs.Common.{rules}
use Rattle.cm_command.proofs.lemmas.counts.Kind.{counts_no_literal, counts_next_literal, all_literals}
use Rattle.cm_command.proofs.tokens.literal_prefixes.Goals as goal

pub loop-literal-init : goal.loop-literal-init
loop-literal-init c = counts_no_literal c.args.word.now

pub loop-literal-preserved : goal.loop-literal-preserved
loop-literal-preserved c =
    counts_next_literal c.args.literals.now c.args.word.now _ c.loop-literal.literal-index c.loop-literal.prefixes c.text_prefixes.result c.max-prefixes.result c.loop-literal-test.true (search rules) c.loop-literal.invariant c.text_prefixes.ensures

pub returns : goal.returns
returns c =
    all_literals c.args.literals.now c.args.word.now c.loop-literal.literal-index c.loop-literal.prefixes c.loop-literal-test.false c.loop-literal.invariant
