use Rattle.std.proofs.Common.{Some, sym, subst}
use Rattle.std.proofs.lemmas.List.Elements.{All-pop, All-push}
use Rattle.cm_storage.specs.ParentAtHand.{IsStanding, AreStanding}
use Rattle.cm_storage.proofs.lemmas.Lines.{on_any}
use Rattle.cm_storage.proofs.report.push_child.Goals as goal

pub returns-then-top-parent-clause-above : goal.returns-then-top-parent-clause-above
returns-then-top-parent-clause-above g c =
    let parts = All-pop (IsStanding (g.V.View.rows c.args.view.now) (g.V.View.builtins c.args.view.now)) _ _ (Some _) c.in-Some.ensures.items c.requires.above in
    on_any _ _ (subst (AreStanding (g.V.View.rows c.args.view.now) (g.V.View.builtins c.args.view.now)) (sym c.in_ok-push.ensures.items) (All-push (IsStanding (g.V.View.rows c.args.view.now) (g.V.View.builtins c.args.view.now)) _ _ parts.0 parts.1))

pub push_child_uses-requires-clause-below : goal.push_child_uses-requires-clause-below
push_child_uses-requires-clause-below g c =
    subst (AreStanding (g.V.View.rows c.args.view.now) (g.V.View.builtins c.args.view.now)) (sym c.as_slice.ensures.value) (All-pop (IsStanding (g.V.View.rows c.args.view.now) (g.V.View.builtins c.args.view.now)) _ _ (Some _) c.in-Some.ensures.items c.requires.above).0

pub push_child_uses-requires-clause-top : goal.push_child_uses-requires-clause-top
push_child_uses-requires-clause-top g c = (All-pop (IsStanding (g.V.View.rows c.args.view.now) (g.V.View.builtins c.args.view.now)) _ _ (Some _) c.in-Some.ensures.items c.requires.above).1

pub returns-clause-above : goal.returns-clause-above
returns-clause-above g c =
    let parts = All-pop (IsStanding (g.V.View.rows c.args.view.now) (g.V.View.builtins c.args.view.now)) _ _ (Some _) c.in-Some.ensures.items c.requires.above in
    subst (AreStanding (g.V.View.rows c.args.view.now) (g.V.View.builtins c.args.view.now)) (sym c.in_ok-push-2.ensures.items) (All-push (IsStanding (g.V.View.rows c.args.view.now) (g.V.View.builtins c.args.view.now)) _ _ parts.0 c.in_ok-push_child_uses.ensures.top.standing)
