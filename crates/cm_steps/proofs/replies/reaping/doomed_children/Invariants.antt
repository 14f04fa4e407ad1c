use Rattle.std.proofs.Common.{◌≡◌, ◌++◌}
use Rattle.std.specs.List.{filter_map}
use Rattle.cm_world.specs.Rows.{has_parent}
use Rattle.cm_steps.proofs.lemmas.expiries.Dooming.{doomed_child}
use Rattle.cm_walk.proofs.lemmas.descents.Behind.{behind, left}
use Rattle.cm_steps.proofs.replies.reaping.doomed_children.Given as goal

-- the doomed children so far, and those among the rows behind, are all
abbrev pub invariant-next : goal.invariant-next
invariant-next g l =
    let rows = g.V.View.rows l.view in
    l.incs ++ filter_map (doomed_child l.inc) (behind l.after rows) ≡ filter_map (doomed_child l.inc) rows

abbrev pub decreases-next : goal.decreases-next
decreases-next g l = left (has_parent l.inc) l.after (g.V.View.rows l.view)
