use Rattle.std.proofs.Common.{sym, subst}
use Rattle.std.proofs.lemmas.List.Elements.{All-push}
use Rattle.cm_storage.specs.ParentAtHand.{IsStanding, AreStanding}
use Rattle.cm_storage.proofs.above.come_to.Goals as goal

pub returns : goal.returns
returns g c =
    subst (AreStanding (g.V.View.rows c.args.view.now) (g.V.View.builtins c.args.view.now)) (sym c.in_ok-push.ensures.items) (All-push (IsStanding (g.V.View.rows c.args.view.now) (g.V.View.builtins c.args.view.now)) _ _ c.leave.ensures c.in_ok-standing.ensures)
