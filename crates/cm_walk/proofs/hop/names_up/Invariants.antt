use Rattle.std.proofs.Common.{◌≡◌, ◌++◌, Some, length, reverse}
use Rattle.cm_world.specs.Rows.{names_to}
use Rattle.cm_walk.proofs.hop.names_up.Given as goal

-- the names from the root down to the instance are those down to where the loop is, and then those that it has seen
abbrev pub invariant-up : goal.invariant-up
invariant-up g l =
    let rows = g.V.View.rows l.view in
    names_to (length rows) rows (Some l.inc) ≡ names_to (length rows) rows (Some l.at) ++ reverse l.names.items

abbrev pub decreases-up : goal.decreases-up
decreases-up g l = l.at
