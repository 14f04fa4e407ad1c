use Rattle.std.proofs.Common.{◌≡◌, ◌++◌}
use Rattle.std.specs.List.{filter_map}
use Rattle.cm_world.specs.Rows.{has_parent}
use Rattle.cm_world.specs.Reports.{kid_of}
use Rattle.cm_walk.proofs.lemmas.descents.Behind.{behind, left}
use Rattle.cm_steps.proofs.replies.listing.kids.Given as goal

-- the children so far, and those among the rows behind, are all
abbrev pub invariant-next : goal.invariant-next
invariant-next g l =
    let rows = g.V.View.rows l.view in
    l.kids ++ filter_map (kid_of l.inc l.coll) (behind l.after rows) ≡ filter_map (kid_of l.inc l.coll) rows

abbrev pub decreases-next : goal.decreases-next
decreases-next g l = left (has_parent l.inc) l.after (g.V.View.rows l.view)
