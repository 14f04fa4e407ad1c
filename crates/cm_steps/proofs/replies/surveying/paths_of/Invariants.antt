use Rattle.std.proofs.Common.{◌≡◌, map, take}
use Rattle.cm_steps.proofs.replies.surveying.paths_of.Given as goal

-- the paths of the uses so far
abbrev pub invariant-loop-usage : goal.invariant-loop-usage
invariant-loop-usage l = l.paths ≡ map (λ u. u.path) (take l.usage-index l.uses)
