use Rattle.cm_text.proofs.lemmas.found.Scan.{past_taken, past_plain}
use Rattle.cm_text.proofs.scan.string_len.Goals as goal
use Rattle.cm_text.proofs.scan.string_len.Goals.{then-behind_backslash, else-behind_backslash+else-byte-quote}

pub loop-i-preserved : goal.loop-i-preserved
loop-i-preserved c = elim c.if-behind_backslash.branch [
  | then-behind_backslash w ↦ past_taken _ _ _ _ _ _ c.loop-i-test.true w.if-behind_backslash.true w.behind_backslash-is c.loop-i.invariant
  | else-behind_backslash+else-byte-quote w ↦ past_plain _ _ _ _ _ _ c.loop-i-test.true w.if-behind_backslash.false w.if-byte-quote.false w.behind_backslash-is c.loop-i.invariant
]
