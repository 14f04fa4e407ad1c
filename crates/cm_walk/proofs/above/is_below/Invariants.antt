use Rattle.std.proofs.Common.{◌≡◌, ◌==◌, length}
use Rattle.cm_world.specs.Rows.{at_or_above, is_below}
use Rattle.cm_walk.proofs.lemmas.ways.Monikers.{height}
use Rattle.cm_walk.proofs.above.is_below.Given as goal

-- what is left of the way up decides
abbrev pub invariant-up : goal.invariant-up
invariant-up g l =
    let rows = g.V.View.rows l.view in
    is_below rows l.top l.inc ≡ at_or_above (length rows) (λ r. r.inc == l.top) rows l.at

abbrev pub decreases-up : goal.decreases-up
decreases-up g l = height l.at
