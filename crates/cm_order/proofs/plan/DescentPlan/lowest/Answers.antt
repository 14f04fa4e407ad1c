use Rattle.std.proofs.Common.{arith}
use Rattle.cm_order.proofs.lemmas.searches.Reaching.{lowest_on}
use Rattle.cm_order.proofs.plan.DescentPlan.lowest.Goals as goal

pub returns-then-stand : goal.returns-then-stand
returns-then-stand c = λ rows it.
    lowest_on rows c.args.self.now _ c.index-stand.result.now c.args.top it (omega arith) c.index-stand.ensures (omega arith) c.if-stand.true
