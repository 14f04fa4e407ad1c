use Rattle.std.proofs.Common.{subst}
use Rattle.cm_order.specs.Glances.{IsGlance}
use Rattle.cm_order.proofs.lemmas.searches.Going.{at_on, at_lower, at_found}
use Rattle.cm_order.proofs.lemmas.searches.Reaching.{at_reached}
use Rattle.cm_order.proofs.quick.go_down.Goals as goal

pub down-init : goal.down-init
down-init g c = (
  at_reached (g.V.View.rows c.args.view.now) (g.V.View.next_inc c.args.view.now) c.requires.sound.orderly c.args.top c.requires.top c.args.inc c.requires.start,
  c.requires.way,
  c.requires.levels,
)

pub returns-in-Here-clause-quick : goal.returns-in-Here-clause-quick
returns-in-Here-clause-quick g c =
    at_found (g.V.View.rows c.args.view.now) (g.V.View.next_inc c.args.view.now) c.requires.sound.orderly c.args.top c.in-Some.here c.down.at c.requires.top c.in-Some.is c.down.invariant.0
    (subst (IsGlance (g.V.View.rows c.args.view.now) c.in-Some.here) c.in-Here.is c.in_ok-step.ensures.step)

pub down-smaller : goal.down-smaller
down-smaller g c =
    at_lower (g.V.View.rows c.args.view.now) (g.V.View.next_inc c.args.view.now) c.requires.sound.orderly c.args.top c.in-Some.here c.down.at c.in-Below.child c.in-Some.is c.down.invariant.0
    (subst (IsGlance (g.V.View.rows c.args.view.now) c.in-Some.here) c.in-Below.is c.in_ok-step.ensures.step)

pub down-preserved : goal.down-preserved
down-preserved g c = (
  at_on (g.V.View.rows c.args.view.now) (g.V.View.next_inc c.args.view.now) c.requires.sound.orderly c.args.top c.in-Some.here c.down.at c.in-Below.child c.in-Some.is c.down.invariant.0
      (subst (IsGlance (g.V.View.rows c.args.view.now) c.in-Some.here) c.in-Below.is c.in_ok-step.ensures.step),
  c.in_ok-step.ensures.way,
  c.in_ok-step.ensures.levels,
)
