use Rattle.std.proofs.Common.{rules}
use Rattle.cm_plain.proofs.lemmas.Piece.{passes_nothing, passes_then}
use Rattle.cm_plain.proofs.plain.behind_space.Goals as goal

pub loop-rest-init : goal.loop-rest-init
loop-rest-init c = (search rules, search rules, search rules, λ b. passes_nothing b c.args.text.now)

pub loop-rest-preserved : goal.loop-rest-preserved
loop-rest-preserved c = (
  search rules,
  search rules,
  search rules,
  λ b. passes_then b b b c.args.text.now c.loop-rest.left.now c.in-Some.rest.now (c.loop-rest.invariant.3 b)
      (c.in-Some.ensures.passed b),
)
