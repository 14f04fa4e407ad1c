use Rattle.std.proofs.Common.{take}
use Rattle.cm_order.proofs.lemmas.levels.Lists.{AreListed}
use Rattle.cm_order.proofs.dependents.put_sources.Given as goal

abbrev pub invariant-loop-source : goal.invariant-loop-source
invariant-loop-source l = AreListed l.client (take l.source-index l.list) l.initial.edges.clients l.edges.clients
