use Rattle.std.proofs.Common.{sym, subst}
use Rattle.std.specs.Prelude.{IfSome}
use Rattle.cm_storage.specs.ParentAtHand.{IsStanding, IsToldChildOf}
use Rattle.cm_storage.proofs.lemmas.Lines.{prefix_told}
use Rattle.cm_storage.proofs.standing.prefix_of.Goals as goal

pub returns : goal.returns
returns g c =
    prefix_told (g.V.View.rows c.args.view.now) (g.V.View.builtins c.args.view.now) c.args.inc c.in-Some-Some.place.parent c.get.result.now c.in-Some-Some.above.now c.prefix_behind.result
    (subst (λ o. IfSome o (λ s. IsStanding (g.V.View.rows c.args.view.now) (g.V.View.builtins c.args.view.now) s.now)) c.in-Some-Some.is-0 c.requires.above)
    c.if-above-place.false (subst (IsToldChildOf (g.V.View.rows c.args.view.now) c.args.inc c.in-Some-Some.place.parent) (sym c.get.ensures) c.in-Some-Some.ensures) c.prefix_behind.ensures
