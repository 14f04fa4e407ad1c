use Rattle.std.proofs.Common.{sym, ◌∙◌, arith}
use Rattle.cm_order.proofs.lemmas.searches.Reaching.{closing_on}
use Rattle.cm_order.proofs.plan.DescentPlan.closes.Goals as goal

pub returns-then-stand-inc : goal.returns-then-stand-inc
returns-then-stand-inc g c = λ is.
    closing_on (g.V.View.rows c.args.view.now) (g.V.View.next_inc c.args.view.now) c.is_closing.ensures.orderly c.args.self.now _ c.index-stand.result.now c.args.inc c.requires (omega arith) c.index-stand.ensures c.if-stand-inc.true (sym c.is_closing.ensures.closing ∙ is)
