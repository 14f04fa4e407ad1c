use Rattle.std.proofs.Common.{sym, ◌∙◌, subst, inl, inr}
use Rattle.cm_facts.proofs.Booleans.{false_iff}
use Rattle.cm_order.specs.Picking.{IsPicked}
use Rattle.cm_steps.proofs.lemmas.actions.Enabled.{always_so, not_closing, waiting, can_pick}
use Rattle.cm_steps.proofs.enabling.has_pick.Goals as goal

pub returns-then-not-may_close : goal.returns-then-not-may_close
returns-then-not-may_close g c = false_iff (not_closing (g.V.View.rows c.args.view.now) c.args.target (sym c.may_close.ensures ∙ c.if-not-may_close.true))

pub pick-requires-clause-closing : goal.pick-requires-clause-closing
pick-requires-clause-closing g c = sym c.may_close.ensures ∙ c.if-not-may_close.false
