use Rattle.std.proofs.Common.{take}
use Rattle.cm_order.specs.Glances.{is_given_from}
use Rattle.cm_order.proofs.lemmas.names.Sources.{IsPutting}
use Rattle.cm_order.proofs.lemmas.levels.Real.{AddsStrong}
use Rattle.cm_order.proofs.dependents.put_gives.Given as goal

abbrev pub invariant-loop-give : goal.invariant-loop-give
invariant-loop-give g l =
    IsPutting l.parent (is_given_from (g.V.View.rows l.view) l.parent) (take l.give-index l.gives) l.child l.initial.edges.clients l.edges.clients
    × AddsStrong (g.V.View.rows l.view) l.parent (is_given_from (g.V.View.rows l.view) l.parent) (take l.give-index l.gives) l.child l.initial.edges.clients l.edges.clients
