use Rattle.std.proofs.Common.{inr}
use Rattle.cm_order.specs.Glances.{IsCleared}
use Rattle.cm_order.specs.Standing.{IsOnClimb}
use Rattle.cm_order.proofs.lemmas.levels.Standing.{climb_last, climb_free, climb_shut, climb_back, free_told, back_falls, other_same, none_told}
use Rattle.cm_order.proofs.standing.go_back.Goals as goal

pub returns-then-is_empty-clause-climbed : goal.returns-then-is_empty-clause-climbed
returns-then-is_empty-clause-climbed g c =
    climb_free (g.V.View.rows c.args.view.now) (g.V.View.next_inc c.args.view.now) c.requires.sound c.args.parent c.args.known.now c.args.child c.args.way.now.items c.args.at c.requires.known c.requires.way ((none_told c.args.way.now.items c.args.way.now.len c.is_empty.result c.args.way.now.ok.0 c.is_empty.ensures).0 c.if-is_empty.true) c.requires.none

pub returns-clause-known : goal.returns-clause-known
returns-clause-known g c =
    let rows = g.V.View.rows c.args.view.now in
    let next = g.V.View.next_inc c.args.view.now in
    let last : IsOnClimb rows c.args.parent c.args.child c.args.at = climb_last rows next c.requires.sound c.args.parent c.args.child c.args.way.now.items c.args.at c.requires.way in
    let cleared : IsCleared rows c.args.parent c.args.at = record {
      free = (free_told rows next c.requires.sound c.args.parent c.args.known.now c.requires.known c.args.at last.kid c.requires.none).free;
      shut = climb_shut rows next c.requires.sound c.args.parent c.args.child c.args.way.now.items c.args.at c.is_empty.result c.requires.way (none_told c.args.way.now.items c.args.way.now.len c.is_empty.result c.args.way.now.ok.0 c.is_empty.ensures) c.if-is_empty.false;
    } in
    c.in_ok-clear.ensures.known rows c.args.parent c.requires.known cleared (inr c.requires.none)

pub returns-clause-own : goal.returns-clause-own
returns-clause-own g c =
    let rows = g.V.View.rows c.args.view.now in
    let next = g.V.View.next_inc c.args.view.now in
    other_same rows next c.requires.sound c.args.parent c.args.at c.args.known.now.cleared c.clear.new.known.cleared (climb_last rows next c.requires.sound c.args.parent c.args.child c.args.way.now.items c.args.at c.requires.way).kid c.in_ok-clear.ensures.more

pub returns-clause-climbed : goal.returns-clause-climbed
returns-clause-climbed g c = (
  climb_back (g.V.View.rows c.args.view.now) (g.V.View.next_inc c.args.view.now) c.requires.sound c.args.parent c.args.child c.args.way.now.items c.args.at c.is_empty.result c.requires.way (none_told c.args.way.now.items c.args.way.now.len c.is_empty.result c.args.way.now.ok.0 c.is_empty.ensures) c.if-is_empty.false,
  back_falls (g.V.View.rows c.args.view.now) c.args.way.now.items c.args.at c.args.known.now.cleared c.clear.new.known.cleared c.in_ok-clear.ensures.here c.in_ok-clear.ensures.more,
)
