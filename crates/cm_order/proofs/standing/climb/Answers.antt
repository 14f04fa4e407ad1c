use Rattle.std.proofs.Common.{◌≡◌, ◌∷◌, [], ◌++◌, sym, ◌∙◌, ap, subst}
use Rattle.cm_order.specs.Standing.{IsLook, IsClimb, effort, IsKidAbove}
use Rattle.std.specs.Prelude.{◌<◌}
use Rattle.cm_order.proofs.lemmas.levels.Standing.{climb_bound, climb_own, climb_up, up_falls}
use Rattle.cm_order.proofs.standing.climb.Goals as goal

pub go_back-requires-clause-none : goal.go_back-requires-clause-none
go_back-requires-clause-none g c = subst (IsLook (g.V.View.rows c.args.view.now) c.args.parent c.args.at c.args.known.now) c.in-NoClient.is c.requires.look

pub returns-in-Unshut-clause-climbed : goal.returns-in-Unshut-clause-climbed
returns-in-Unshut-clause-climbed g c =
    climb_bound (g.V.View.rows c.args.view.now) (g.V.View.next_inc c.args.view.now) c.requires.sound c.args.parent c.args.child c.args.way.now.items c.args.at c.requires.way
    (subst (IsLook (g.V.View.rows c.args.view.now) c.args.parent c.args.at c.args.known.now) c.in-Unshut.is c.requires.look)

pub returns-in-Own-clause-climbed : goal.returns-in-Own-clause-climbed
returns-in-Own-clause-climbed g c =
    climb_own (g.V.View.rows c.args.view.now) (g.V.View.next_inc c.args.view.now) c.requires.sound c.args.parent c.args.child c.args.way.now.items c.args.at c.args.known.now c.requires.way
    (subst (IsLook (g.V.View.rows c.args.view.now) c.args.parent c.args.at c.args.known.now) c.in-Own.is c.requires.look)

pub returns-in_ok-push-in-Shut-2-clause-climbed : goal.returns-in_ok-push-in-Shut-2-clause-climbed
returns-in_ok-push-in-Shut-2-clause-climbed g c =
    let rows = g.V.View.rows c.args.view.now in
    let next = g.V.View.next_inc c.args.view.now in
    let items : c.push-in-Shut.new.self.items ≡ (c.args.way.now.items ++ c.args.at ∷ []) ++ c.in-Shut.client ∷ [] = c.in_ok-push-in-Shut-2.ensures.items ∙ ap (λ l. l ++ c.in-Shut.client ∷ []) {y = c.args.way.now.items ++ c.args.at ∷ []} c.in_ok-push-in-Shut.ensures.items in
    let above : IsKidAbove rows c.args.parent c.args.at c.in-Shut.client c.args.known.now = subst (IsLook rows c.args.parent c.args.at c.args.known.now) c.in-Shut.is c.requires.look in (
      subst (IsClimb rows c.args.parent c.args.child) (sym items) (climb_up rows next c.requires.sound c.args.parent c.args.child c.args.way.now.items c.args.at c.in-Shut.client c.args.known.now c.requires.way above),
      subst (λ l. effort rows c.args.known.now.cleared l < effort rows c.args.known.now.cleared (c.args.way.now.items ++ c.args.at ∷ [])) (sym items) (up_falls rows next c.requires.sound c.args.parent c.args.child c.args.way.now.items c.args.at c.in-Shut.client c.args.known.now c.requires.way above),
    )
