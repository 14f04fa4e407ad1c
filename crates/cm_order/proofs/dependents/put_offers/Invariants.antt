use Rattle.std.proofs.Common.{take}
use Rattle.cm_order.specs.Glances.{HasOffered}
use Rattle.cm_order.proofs.lemmas.levels.Real.{AddsOffered}
use Rattle.cm_order.proofs.dependents.put_offers.Given as goal

abbrev pub invariant-loop-offer : goal.invariant-loop-offer
invariant-loop-offer g l = HasOffered (g.V.View.rows l.view) l.parent (take l.offer-index l.offers) l.offered × AddsOffered (g.V.View.rows l.view) l.parent (take l.offer-index l.offers) l.initial.offered l.offered
