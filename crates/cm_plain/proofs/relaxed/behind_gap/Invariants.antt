use Rattle.std.proofs.Common.{◌≤◌, [], length}
use denote.Text.{Utf8}
use denote.Shadow.{shadow}
use Rattle.cm_plain.specs.Relaxed.{PassesTokens}
use Rattle.cm_plain.proofs.relaxed.behind_gap.Given as goal

abbrev pub invariant-loop-rest : goal.invariant-loop-rest
invariant-loop-rest l = shadow (Utf8 l.left) × (length l.left ≤ length l.text) × PassesTokens l.text [] l.left

abbrev pub decreases-loop-rest : goal.decreases-loop-rest
decreases-loop-rest l = length l.left
