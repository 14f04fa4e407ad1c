use Rattle.cm_dynamic.specs.Onward.{IsWalking}
use Rattle.cm_dynamic.proofs.onward.leads_onward.Given as goal

-- what was seen and doesn't lie ahead has been looked at
abbrev pub invariant-loop : goal.invariant-loop
invariant-loop g l = IsWalking (g.V.View.rows l.view) l.parent l.name l.gives l.seen l.ahead
