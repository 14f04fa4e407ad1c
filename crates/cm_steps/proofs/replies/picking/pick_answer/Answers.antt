use Rattle.std.proofs.Common.{subst, ◌∙◌}
use Rattle.cm_order.specs.Picking.{IsPicked}
use Rattle.cm_steps.proofs.lemmas.actions.Picks.{picks_on}
use Rattle.cm_steps.proofs.replies.picking.pick_answer.Goals as goal

pub returns-in_ok-boxed-in-StopNow-clause-answer : goal.returns-in_ok-boxed-in-StopNow-clause-answer
returns-in_ok-boxed-in-StopNow-clause-answer c =
    let rows = c.args.table.now.rows in
    picks_on rows c.args.next_action c.args.target c.in-StopNow.inc c.in_ok-boxed-in-StopNow.boxed c.new.result (subst (IsPicked rows c.args.target) c.in-StopNow.is c.in_ok-action.ensures.picked) c.new.ensures (λ r lives. c.in_ok-boxed-in-StopNow.ensures ∙ c.in_ok-work-in-StopNow.ensures r lives)
