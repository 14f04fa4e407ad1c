use Rattle.std.proofs.Common.{◌≡◌, take}
use Rattle.cm_steps.specs.Eager.{eager_kids}
use Rattle.cm_steps.proofs.replies.beginning.eager_among.Given as goal

-- those of the children so far
abbrev pub invariant-loop-child : goal.invariant-loop-child
invariant-loop-child g l = l.eager ≡ eager_kids (g.V.View.rows l.view) l.inc (take l.child-index l.children)
