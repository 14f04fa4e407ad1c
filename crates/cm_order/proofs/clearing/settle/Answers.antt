use Rattle.std.proofs.Common.{sym, ◌∙◌, inr}
use Rattle.cm_order.proofs.clearing.settle.Goals as goal
use Rattle.cm_trees.proofs.levels.Shut.{kid_shut}

pub returns : goal.returns
returns g c =
    c.in_ok-clear.ensures.known (g.V.View.rows c.args.view.now) c.args.parent c.requires.known (record {
      free = c.requires.free.free;
      shut = kid_shut (g.V.View.rows c.args.view.now) (g.V.View.next_inc c.args.view.now) c.requires.sound.orderly c.args.parent c.args.child c.requires.free.kid ∙ (sym c.in_ok-all_shut.ensures ∙ c.if-not-branch.false);
    }) (inr c.requires.none)
