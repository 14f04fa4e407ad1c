use Rattle.cm_text.proofs.lemmas.found.Scan.{comment_ends, comment_goes_on, comment_never, comment_begins}
use Rattle.cm_text.specs.Pieces.{comment}
use Rattle.cm_text.proofs.scan.comment_len.Goals as goal

pub loop-i-init : goal.loop-i-init
loop-i-init c = comment_begins (comment c.args.bytes.now)

pub returns-then-closes_comment : goal.returns-then-closes_comment
returns-then-closes_comment c = comment_ends _ _ _ _ c.loop-i-test.true c.closes_comment.ensures c.if-closes_comment.true c.loop-i.invariant

pub loop-i-preserved : goal.loop-i-preserved
loop-i-preserved c = comment_goes_on _ _ _ _ c.loop-i-test.true c.closes_comment.ensures c.if-closes_comment.false c.loop-i.invariant

pub returns : goal.returns
returns c = comment_never _ _ _ c.loop-i-test.false c.loop-i.invariant
