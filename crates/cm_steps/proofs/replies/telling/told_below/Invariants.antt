use Rattle.std.proofs.Common.{◌≡◌, take}
use Rattle.std.specs.List.{filter_map}
use Rattle.cm_world.specs.Rows.{subtree}
use Rattle.cm_steps.proofs.replies.telling.told_below.Given as goal

-- what is told of the rows so far
abbrev pub invariant-loop-inc : goal.invariant-loop-inc
invariant-loop-inc g l =
    let rows = l.table.rows in
    l.told ≡ filter_map (g.T.Reportable.told_of rows) (take l.inc-index (subtree rows l.top))
