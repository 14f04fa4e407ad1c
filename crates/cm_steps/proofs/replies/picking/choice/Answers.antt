use Rattle.std.proofs.Common.{true≢false, sym, ◌∙◌}
use Rattle.cm_steps.proofs.lemmas.actions.Chosen.{this_is, as_it_is}
use Rattle.cm_steps.proofs.replies.picking.choice.Goals as goal

pub returns-in-Some-clause-chosen : goal.returns-in-Some-clause-chosen
returns-in-Some-clause-chosen c =
    this_is c.args.table.now.rows c.args.target c.args.inc c.in_ok-picked.picked c.in-Some.on c.in-Some.ensures c.in_ok-picked.ensures.picked

pub returns-then-not-branch-clause-chosen : goal.returns-then-not-branch-clause-chosen
returns-then-not-branch-clause-chosen c = λ it. true≢false (sym (c.in_ok-may_pick_with.ensures.may.1 it) ∙ c.if-not-branch.true)

pub returns-clause-chosen : goal.returns-clause-chosen
returns-clause-chosen c =
    as_it_is c.args.table.now.rows c.args.target c.args.inc c.is_on.result c.is_on.ensures (c.in_ok-may_pick_with.ensures.may.0 c.if-not-branch.false)
