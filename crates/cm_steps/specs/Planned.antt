-- Inside.
-- What becomes of the shutdown's search when an entry is added: the realm keeps its way down from one
-- pick to the next.
use Rattle.std.specs.Prelude.{◌≡◌, Bool, true, false}
use Rattle.cm_order.specs.declared.plan.DescentPlan.{DescentPlan}
use Rattle.cm_order.specs.Plans.{KnowsNone}

-- the kept way is forgotten where the entry could make it wrong (true), and else stays
abbrev pub IsPlannedBy : Bool → DescentPlan → DescentPlan → Type 0
IsPlannedBy true old new = KnowsNone new
IsPlannedBy false old new = new ≡ old
