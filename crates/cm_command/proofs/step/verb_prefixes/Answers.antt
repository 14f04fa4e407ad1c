use Rattle.std.proofs.Common.{rules}
use Rattle.cm_command.proofs.lemmas.line.Step.{no_verb, verb_more, all_verbs}
use Rattle.cm_command.proofs.step.verb_prefixes.Goals as goal

pub loop-verb-init : goal.loop-verb-init
loop-verb-init c = no_verb c.args.word.now

pub loop-verb-preserved : goal.loop-verb-preserved
loop-verb-preserved c =
    verb_more c.args.word.now c.word.result.now c.loop-verb.verb-index c.loop-verb.prefixes c.text_prefixes.result c.max-prefixes.result c.all-verb-items.result _ c.all-verb-items.ensures c.loop-verb-test.true c.word.ensures (search rules) c.loop-verb.invariant c.text_prefixes.ensures

pub returns : goal.returns
returns c =
    all_verbs c.args.word.now c.loop-verb.verb-index c.loop-verb.prefixes c.loop-verb-test.false c.loop-verb.auto.verb-index-end c.loop-verb.invariant
