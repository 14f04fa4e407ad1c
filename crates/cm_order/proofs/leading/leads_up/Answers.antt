use Rattle.std.proofs.Common.{Some, sym, ◌∙◌}
use Rattle.cm_order.proofs.lemmas.levels.Clearing.{levels_changed, levels_same}
use Rattle.cm_order.proofs.lemmas.levels.Owning.{kid_gone}
use Rattle.cm_trees.proofs.levels.Shut.{kid_shut}
use Rattle.cm_order.proofs.leading.leads_up.Goals as goal

pub returns-then-branch-clause-leads : goal.returns-then-branch-clause-leads
returns-then-branch-clause-leads g c = kid_gone (g.V.View.rows c.args.view.now) (g.V.View.next_inc c.args.view.now) c.requires.sound c.args.parent c.args.child c.requires.kid (sym c.in_ok-all_shut.ensures ∙ c.if-branch.true)

pub returns-clause-leads : goal.returns-clause-leads
returns-clause-leads g c = (
  λ told. record {
    free = c.in_ok-free.ensures.free.0 told;
    unshut = kid_shut (g.V.View.rows c.args.view.now) (g.V.View.next_inc c.args.view.now) c.requires.sound.orderly c.args.parent c.args.child c.requires.kid ∙ (sym c.in_ok-all_shut.ensures ∙ c.if-branch.false);
  },
  λ leads. c.in_ok-free.ensures.free.1 leads.free,
)

pub returns-in_err-insert-clause-levels : goal.returns-in_err-insert-clause-levels
returns-in_err-insert-clause-levels g c = levels_same (g.V.View.rows c.args.view.now) c.take_level.new.levels c.insert.new.self c.in_err-insert.ensures.err c.take_level.ensures.levels

pub returns-clause-levels : goal.returns-clause-levels
returns-clause-levels g c =
    levels_changed (g.V.View.rows c.args.view.now) c.args.parent (Some c.is_free.new.known) c.take_level.new.levels c.insert.new.self c.in_ok-insert.ensures.updates.0 c.in_ok-free.ensures.known c.take_level.ensures.levels
