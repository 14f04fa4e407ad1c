use Rattle.std.proofs.Common.{◌≡◌, ◌||◌, ℕ}
use Rattle.cm_world.specs.Rows.{has_parent}
use Rattle.cm_walk.specs.Ahead.{is_in_set}
use Rattle.cm_walk.proofs.lemmas.descents.Behind.{left}
use Rattle.cm_walk.proofs.lemmas.descents.Adding.{is_seen}
use Rattle.cm_walk.proofs.subtree.put_children.Given as goal

-- the children so far are in the set, and what was there
abbrev pub invariant-next : goal.invariant-next
invariant-next g l =
    (q : ℕ) → is_in_set l.ahead q ≡ (is_in_set l.initial.ahead q || is_seen (g.V.View.rows l.view) l.parent l.after q)

abbrev pub decreases-next : goal.decreases-next
decreases-next g l = left (has_parent l.parent) l.after (g.V.View.rows l.view)
