use Rattle.std.proofs.Common.{rules, arith, sym, ◌∙◌, true≢false}
use Rattle.cm_command.proofs.lemmas.counts.PathCounts.{stuck, full, unended, further, ended}
use Rattle.cm_command.proofs.tokens.part_prefixes.Goals as goal
use Rattle.cm_command.proofs.tokens.part_prefixes.Goals.{else-i-limit-2-via-then-i-limit-2+else-not-may_end, else-i-limit-2-via-else-i-limit-2}

pub returns-then-i-limit : goal.returns-then-i-limit
returns-then-i-limit c =
    full c.args.word.now c.args.limit c.loop-i.i c.loop-i.place c.loop-i-test.true c.loop-i.invariant c.if-i-limit.true

pub returns-then-not-may_end : goal.returns-then-not-may_end
returns-then-not-may_end c =
    unended c.args.word.now c.args.limit c.loop-i.i c.loop-i.place c.in-Some.next c.loop-i-test.true c.loop-i.invariant c.in-Some.ensures c.if-i-limit-2.true (search rules)

pub returns-in-None : goal.returns-in-None
returns-in-None c =
    stuck c.args.word.now c.args.limit c.loop-i.i c.loop-i.place c.loop-i-test.true c.loop-i.invariant c.in-None.ensures

pub loop-i-preserved : goal.loop-i-preserved
loop-i-preserved c =
    further c.args.word.now c.args.limit c.loop-i.i c.loop-i.place c.in-Some.next c.loop-i-test.true c.loop-i.invariant c.in-Some.ensures c.if-i-limit.false (λ wants. elim c.else-i-limit-2.branch [ else-i-limit-2-via-then-i-limit-2+else-not-may_end w ↦ absurd (true≢false (sym w.if-not-may_end.false ∙ w.may_end.ensures ∙ wants)) | else-i-limit-2-via-else-i-limit-2 w ↦ omega (arith, w.if-i-limit-2.false) ])

pub returns : goal.returns
returns c = ended c.args.word.now c.args.limit c.loop-i.i c.loop-i.place (omega arith) c.loop-i.invariant
