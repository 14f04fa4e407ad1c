use Rattle.cm_order.specs.Glances.{AreClients, AreOffered}
use Rattle.cm_order.proofs.lemmas.levels.Gathering.{room}
use Rattle.cm_order.proofs.lemmas.names.Sources.{IsCovering}
use Rattle.cm_order.proofs.dependents.put_children.Given as goal

abbrev pub invariant-loop-child : goal.invariant-loop-child
invariant-loop-child g l =
    IsCovering (g.V.View.rows l.view) l.parent l.offered l.behind l.initial.edges.clients l.edges.clients
    × (AreOffered (g.V.View.rows l.view) l.parent l.offered → AreClients (g.V.View.rows l.view) l.parent l.initial.edges.clients → AreClients (g.V.View.rows l.view) l.parent l.edges.clients)

abbrev pub decreases-loop-child : goal.decreases-loop-child
decreases-loop-child g l = room (g.V.View.next_inc l.view) l.behind
