use Rattle.std.proofs.Common.{refl, sym, true≢false}
use Rattle.cm_command.proofs.lemmas.counts.RightCounts.{array_is, array_not, within}
use Rattle.cm_command.proofs.rights.right_word.Goals as goal

pub returns-then-is_same : goal.returns-then-is_same
returns-then-is_same c =
    (sym (c.if-is_same.ensures.0 refl), array_is c.right_words-word-items.result c.args.piece.now _ c.loop-word.word-index (within c.right_words-word-items.result c.loop-word.word-index c.loop-word.invariant.listed c.loop-word-test.true) c.loop-word.invariant.listed (c.if-is_same.ensures.0 refl))

pub loop-word-preserved : goal.loop-word-preserved
loop-word-preserved c = record {
  listed = c.loop-word.invariant.listed;
  none = array_not c.right_words-word-items.result c.args.piece.now _ c.loop-word.word-index (within c.right_words-word-items.result c.loop-word.word-index c.loop-word.invariant.listed c.loop-word-test.true) (λ e. true≢false (sym (c.if-is_same.ensures.1 e))) c.loop-word.invariant.none;
}
