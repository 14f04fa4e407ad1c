use Rattle.std.proofs.Common.{◌≡◌, false}
use Rattle.cm_order.specs.Glances.{is_in_set, KnowsDependents}
use Rattle.cm_order.proofs.lemmas.levels.Gathering.{room}
use Rattle.cm_order.proofs.lemmas.levels.Owning.{NoneBinds}
use Rattle.cm_order.proofs.standing.is_own_free.Given as goal

abbrev pub invariant-loop-child : goal.invariant-loop-child
invariant-loop-child g l =
    NoneBinds (g.V.View.rows l.view) l.parent l.behind × KnowsDependents (g.V.View.rows l.view) l.parent l.known
    × (is_in_set l.known.cleared l.parent ≡ false)

abbrev pub decreases-loop-child : goal.decreases-loop-child
decreases-loop-child g l = room (g.V.View.next_inc l.view) l.behind
