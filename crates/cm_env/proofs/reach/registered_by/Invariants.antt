use Rattle.std.proofs.Common.{◌≡◌}
use Rattle.cm_env.specs.Reach.{LooksThere}
use Rattle.cm_env.specs.Scope.{registered}
use Rattle.cm_env.proofs.reach.registered_by.Given as goal

-- what the instance finds is what is found from here on
abbrev pub invariant-up : goal.invariant-up
invariant-up g l =
    let rows = g.V.View.rows l.view in record {
      reaches : LooksThere rows l.at;
      same : registered l.which rows l.stand.inc l.name ≡ registered l.which rows l.at.inc l.name;
    }

abbrev pub decreases-up : goal.decreases-up
decreases-up g l = l.at.inc
