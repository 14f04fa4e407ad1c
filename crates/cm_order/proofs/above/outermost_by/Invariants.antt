use Rattle.std.proofs.Common.{◌≡◌}
use Rattle.std.specs.Option.{option_or}
use Rattle.cm_world.specs.Stopping as spec
use Rattle.cm_trees.proofs.trees.Tops.{outermost_from}
use Rattle.cm_walk.proofs.lemmas.ways.Monikers.{height}
use Rattle.cm_order.proofs.above.outermost_by.Given as goal

-- what is found on the rest of the way up goes before what was found so far
abbrev pub invariant-up : goal.invariant-up
invariant-up g l =
    let rows = g.V.View.rows l.view in
    spec.outermost rows l.inc ≡ option_or (outermost_from rows l.at) l.found

abbrev pub decreases-up : goal.decreases-up
decreases-up g l = height l.at
