use Rattle.std.proofs.Common.{arith}
use Rattle.cm_order.proofs.lemmas.searches.Reaching.{kids_on}
use Rattle.cm_order.proofs.plan.DescentPlan.knows_below.Goals as goal

pub returns-then-stand-inc : goal.returns-then-stand-inc
returns-then-stand-inc c = λ rows it is.
    kids_on rows c.args.self.now _ c.index-stand.result.now c.args.inc it (omega arith) c.index-stand.ensures c.if-stand-inc.true is
