use Rattle.cm_walk.proofs.lemmas.descents.Descending.{IsDescending, to_find}
use Rattle.cm_walk.proofs.subtree.rows_below.Given as goal

-- what is found so far, and what is ahead of it
abbrev pub invariant-next : goal.invariant-next
invariant-next g l = IsDescending (g.V.View.rows l.view) (g.V.View.next_inc l.view) l.top l.found.items l.ahead

abbrev pub decreases-next : goal.decreases-next
decreases-next g l = to_find (g.V.View.rows l.view) l.top l.found.items
