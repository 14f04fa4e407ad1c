use Rattle.std.proofs.Common.{sym, ◌∙◌}
use Rattle.cm_order.specs.Plans.{IsDescent, IsStand}
use Rattle.cm_order.proofs.lemmas.searches.Reaching.{last_stand, looked_at, left_behind}
use Rattle.cm_order.proofs.quick.go_back.Goals as goal

pub loop-stand-init : goal.loop-stand-init
loop-stand-init g c = (c.requires.way, tt, c.requires.levels)

pub loop-stand-preserved : goal.loop-stand-preserved
loop-stand-preserved g c =
    let parts : IsDescent (g.V.View.rows c.args.view.now) c.args.top c.pop.new.self.items × IsStand (g.V.View.rows c.args.view.now) c.args.top c.in-Some.stand = last_stand (g.V.View.rows c.args.view.now) c.args.top c.loop-stand.way.items c.pop.new.self.items c.in-Some.stand c.in-Some.ensures.items c.loop-stand.invariant.0 in (
      parts.0,
      left_behind (g.V.View.rows c.args.view.now) (g.V.View.next_inc c.args.view.now) c.requires.sound.orderly c.in-Some.stand c.left_shut-closed.result parts.1.known (sym c.is_unshut.ensures.unshut ∙ c.if-is_unshut.false) c.left_shut-closed.ensures,
      c.forget_level.ensures (g.V.View.rows c.args.view.now) c.loop-stand.invariant.2,
    )

pub returns-then-is_unshut-clause-way : goal.returns-then-is_unshut-clause-way
returns-then-is_unshut-clause-way g c =
    looked_at (g.V.View.rows c.args.view.now) c.args.top c.loop-stand.way.items c.pop.new.self.items c.push.new.self.items c.in-Some.stand c.count_done.new.stand c.in-Some.ensures.items c.loop-stand.invariant.0 c.count_done.ensures.same c.count_done.ensures.known c.in_ok-push.ensures.items

pub returns-in_err-leave_level-clause-way : goal.returns-in_err-leave_level-clause-way
returns-in_err-leave_level-clause-way g c =
    looked_at (g.V.View.rows c.args.view.now) c.args.top c.loop-stand.way.items c.pop.new.self.items c.push.new.self.items c.in-Some.stand c.count_done.new.stand c.in-Some.ensures.items c.loop-stand.invariant.0 c.count_done.ensures.same c.count_done.ensures.known c.in_ok-push.ensures.items

pub returns-then-is_unshut-clause-last : goal.returns-then-is_unshut-clause-last
returns-then-is_unshut-clause-last g c =
    (last_stand (g.V.View.rows c.args.view.now) c.args.top c.loop-stand.way.items c.pop.new.self.items c.in-Some.stand c.in-Some.ensures.items c.loop-stand.invariant.0).1.reached
