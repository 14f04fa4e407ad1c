use Rattle.std.proofs.Common.{Some, sym, subst}
use Rattle.cm_storage.specs.ParentAtHand.{IsStanding, IsKnown, IsToldChildOf}
use Rattle.cm_storage.specs.Way.{On}
use Rattle.cm_storage.proofs.lemmas.Inheriting.{last_standing, inherits}
use Rattle.cm_storage.proofs.handing.inherited.Goals as goal

pub returns-in_ok-known-in-Some-kept_by : goal.returns-in_ok-known-in-Some-kept_by
returns-in_ok-known-in-Some-kept_by g c =
    let standing : IsStanding (g.V.View.rows c.args.view.now) (g.V.View.builtins c.args.view.now) c.in-Some-Some.parent.now = last_standing (g.V.View.rows c.args.view.now) (g.V.View.builtins c.args.view.now) c.args.below.now c.in-Some-Some.parent.now c.requires c.in-Some-Some.ensures'.value in
    subst (IsKnown (g.V.View.rows c.args.view.now) (g.V.View.builtins c.args.view.now) c.args.inc (On c.args.inc c.args.name.now)) (sym c.in_ok-known-in-Some-kept_by.ensures)
    (inherits (g.V.View.rows c.args.view.now) (g.V.View.builtins c.args.view.now) c.args.inc c.in-Some-Some.place.parent c.get-child.result.now c.args.name.now c.in-Some-Some.parent.now c.in-Some.offer.now c.in-Some-kept_by.known.now standing c.if-parent-place.false (subst (IsToldChildOf (g.V.View.rows c.args.view.now) c.args.inc c.in-Some-Some.place.parent) (sym c.get-child.ensures) c.in-Some-Some.ensures) c.in-Some.ensures c.in-Some-kept_by.ensures)
