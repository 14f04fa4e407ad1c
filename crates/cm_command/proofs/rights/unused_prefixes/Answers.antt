use Rattle.std.proofs.Common.{rules, sym, ◌∙◌}
use Rattle.cm_command.proofs.lemmas.counts.RightCounts.{array_used, array_more, array_whole, within, through}
use Rattle.cm_command.proofs.rights.unused_prefixes.Goals as goal

pub loop-word-preserved-then-is_used : goal.loop-word-preserved-then-is_used
loop-word-preserved-then-is_used c = record {
  listed = c.loop-word.invariant.listed;
  count = array_used c.args.used.now c.right_words-word-items.result c.args.piece.now _ c.loop-word.word-index c.loop-word.prefixes (within c.right_words-word-items.result c.loop-word.word-index c.loop-word.invariant.listed c.loop-word-test.true) (sym c.is_used.ensures ∙ c.if-is_used.true) c.loop-word.invariant.count;
}

pub loop-word-preserved : goal.loop-word-preserved
loop-word-preserved c = record {
  listed = c.loop-word.invariant.listed;
  count = array_more c.args.used.now c.right_words-word-items.result c.args.piece.now _ c.loop-word.word-index c.loop-word.prefixes c.text_prefixes.result c.max-prefixes.result (within c.right_words-word-items.result c.loop-word.word-index c.loop-word.invariant.listed c.loop-word-test.true) (search rules) (sym c.is_used.ensures ∙ c.if-is_used.false) c.loop-word.invariant.count c.text_prefixes.ensures;
}

pub returns : goal.returns
returns c =
    array_whole c.args.used.now c.right_words-word-items.result c.args.piece.now c.loop-word.word-index c.loop-word.prefixes (through c.right_words-word-items.result c.loop-word.word-index c.loop-word.invariant.listed c.loop-word-test.false) c.loop-word.invariant.listed c.loop-word.invariant.count
