use Rattle.std.proofs.Common.{take}
use Rattle.cm_order.specs.Glances.{is_used_from, is_used_of}
use Rattle.cm_order.proofs.lemmas.names.Sources.{IsPutting}
use Rattle.cm_order.proofs.lemmas.levels.Real.{AddsStrong}
use Rattle.cm_order.proofs.dependents.put_uses.Given as goal

abbrev pub invariant-loop-usage : goal.invariant-loop-usage
invariant-loop-usage g l =
    IsPutting l.parent (is_used_from (g.V.View.rows l.view) l.parent) (take l.usage-index l.uses) l.parent l.initial.edges.clients l.edges.clients
    × AddsStrong (g.V.View.rows l.view) l.parent (is_used_of (g.V.View.rows l.view) l.parent) (take l.usage-index l.uses) l.parent l.initial.edges.clients l.edges.clients
