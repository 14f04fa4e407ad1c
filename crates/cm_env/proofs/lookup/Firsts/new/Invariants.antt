use Rattle.std.proofs.Common.{◌≤◌, drop, length}
use Rattle.cm_env.specs.Firsts.{HasFirsts}
use Rattle.cm_env.proofs.lookup.Firsts.new.Given as goal

-- the map has the rows from the last one that it was given on
abbrev pub invariant-loop-left : goal.invariant-loop-left
invariant-loop-left g l = record {
  within : l.left ≤ length l.rows;
  firsts : HasFirsts g.T.TextKeyed.key (drop l.left l.rows) l.firsts;
}

abbrev pub decreases-loop-left : goal.decreases-loop-left
decreases-loop-left g l = l.left
