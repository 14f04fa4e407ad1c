use Rattle.std.proofs.Common.{rules}
use Rattle.cm_command.proofs.lemmas.line.Step.{none_first, none_more, none_of_all}
use Rattle.cm_command.proofs.step.verb_of.Goals as goal

pub loop-verb-init : goal.loop-verb-init
loop-verb-init c = none_first c.args.word.now

pub loop-verb-preserved : goal.loop-verb-preserved
loop-verb-preserved c =
    none_more c.args.word.now c.word.result.now c.loop-verb.verb-index c.all-verb-items.result _ c.all-verb-items.ensures c.loop-verb-test.true c.word.ensures c.loop-verb.invariant (search rules)

pub returns : goal.returns
returns c = none_of_all c.args.word.now c.loop-verb.verb-index c.loop-verb-test.false c.loop-verb.invariant
