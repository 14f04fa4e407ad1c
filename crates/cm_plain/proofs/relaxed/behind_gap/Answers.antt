use Rattle.std.proofs.Common.{[], rules}
use Rattle.cm_plain.proofs.lemmas.Loose.{passes_nothing, passes_then}
use Rattle.cm_plain.proofs.relaxed.behind_gap.Goals as goal

pub loop-rest-init : goal.loop-rest-init
loop-rest-init c = (search rules, search rules, passes_nothing c.args.text.now)

pub loop-rest-preserved : goal.loop-rest-preserved
loop-rest-preserved c = (
  search rules,
  search rules,
  passes_then c.args.text.now c.loop-rest.left.now c.in-Some.rest.now [] [] c.loop-rest.invariant.2
      c.in-Some.ensures.passed,
)
