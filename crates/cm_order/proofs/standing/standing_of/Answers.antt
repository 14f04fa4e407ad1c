use Rattle.std.proofs.Common.{rules, ◌≡◌, [], ◌∷◌, ◌++◌, refl, sym, ◌∙◌, ap, subst}
use Rattle.cm_order.specs.Glances.{is_in_set}
use Rattle.cm_order.specs.Standing.{IsClimb, IsClimbed, effort}
use Rattle.std.specs.Prelude.{◌<◌}
use Rattle.cm_order.proofs.lemmas.levels.Standing.{climb_first, climb_last, climb_ends}
use Rattle.cm_order.proofs.standing.standing_of.Goals as goal

pub loop-at-init : goal.loop-at-init
loop-at-init g c = (
  climb_first (g.V.View.rows c.args.view.now) (g.V.View.next_inc c.args.view.now) c.requires.sound c.args.parent c.args.child c.push.new.self.items c.requires.kid (c.in_ok-push.ensures.items ∙ ap (λ l. l ++ c.args.child ∷ []) c.new-way.ensures.items),
  c.requires.known,
  refl,
)

pub look_at-requires-clause-kid : goal.look_at-requires-clause-kid
look_at-requires-clause-kid g c =
    (climb_last (g.V.View.rows c.args.view.now) (g.V.View.next_inc c.args.view.now) c.requires.sound c.args.parent c.args.child c.pop.new.self.items c.in-Some.at (subst (IsClimb (g.V.View.rows c.args.view.now) c.args.parent c.args.child) c.in-Some.ensures.items c.loop-at.invariant.0)).kid

pub climb-requires-clause-way : goal.climb-requires-clause-way
climb-requires-clause-way g c = subst (IsClimb (g.V.View.rows c.args.view.now) c.args.parent c.args.child) c.in-Some.ensures.items c.loop-at.invariant.0

pub returns-in-Some-2-clause-standing : goal.returns-in-Some-2-clause-standing
returns-in-Some-2-clause-standing g c =
    subst (IsClimbed (g.V.View.rows c.args.view.now) c.args.parent c.args.child c.look_at.new.known.cleared (c.pop.new.self.items ++ c.in-Some.at ∷ []) c.climb.new.known c.climb.new.way.items) c.in-Some-2.is c.in_ok-told.ensures.climbed

pub returns-in-Some-2-clause-own : goal.returns-in-Some-2-clause-own
returns-in-Some-2-clause-own g c =
    c.in_ok-told.ensures.own ∙ ap (λ s. is_in_set s c.args.parent) c.in_ok-look.ensures.cleared ∙ c.loop-at.invariant.2

pub loop-at-preserved : goal.loop-at-preserved
loop-at-preserved g c = (
  (subst (IsClimbed (g.V.View.rows c.args.view.now) c.args.parent c.args.child c.look_at.new.known.cleared (c.pop.new.self.items ++ c.in-Some.at ∷ []) c.climb.new.known c.climb.new.way.items) c.in_default-2.is c.in_ok-told.ensures.climbed).0,
  c.in_ok-told.ensures.known,
  c.in_ok-told.ensures.own ∙ ap (λ s. is_in_set s c.args.parent) c.in_ok-look.ensures.cleared ∙ c.loop-at.invariant.2,
)

pub loop-at-smaller : goal.loop-at-smaller
loop-at-smaller g c =
    subst (λ l. effort (g.V.View.rows c.args.view.now) c.climb.new.known.cleared c.climb.new.way.items < effort (g.V.View.rows c.args.view.now) c.loop-at.known.cleared l) (sym c.in-Some.ensures.items)
    (subst (λ s. effort (g.V.View.rows c.args.view.now) c.climb.new.known.cleared c.climb.new.way.items < effort (g.V.View.rows c.args.view.now) s (c.pop.new.self.items ++ c.in-Some.at ∷ [])) c.in_ok-look.ensures.cleared
    (subst (IsClimbed (g.V.View.rows c.args.view.now) c.args.parent c.args.child c.look_at.new.known.cleared (c.pop.new.self.items ++ c.in-Some.at ∷ []) c.climb.new.known c.climb.new.way.items) c.in_default-2.is c.in_ok-told.ensures.climbed).1)

pub unreachable-requires : goal.unreachable-requires
unreachable-requires g c =
    let none : c.loop-at.way.items ≡ [] = search rules in
    climb_ends (g.V.View.rows c.args.view.now) c.args.parent c.args.child c.loop-at.way.items none c.loop-at.invariant.0
