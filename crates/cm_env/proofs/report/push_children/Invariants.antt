use Rattle.std.proofs.Common.{◌≡◌, ◌++◌, take}
use Rattle.std.specs.Prelude.{All}
use Rattle.cm_env.specs.Reach.{LooksThere, incs}
use Rattle.cm_env.proofs.report.push_children.Given as goal

-- the children so far
abbrev pub invariant-loop-inc : goal.invariant-loop-inc
invariant-loop-inc g l =
    let rows = g.V.View.rows l.view in record {
      ahead : All (LooksThere rows) l.ahead.items;
      below : incs l.ahead.items ≡ incs l.fn.ahead.items ++ take l.inc-index l.below;
    }
