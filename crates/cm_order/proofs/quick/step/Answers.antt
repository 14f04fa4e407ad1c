use Rattle.std.proofs.Common.{rules, ◌≡◌, Some, sym, subst}
use Rattle.cm_order.specs.declared.search.VisitResult.TheVariants.{Below}
use Rattle.cm_order.specs.Plans.{IsDescent}
use Rattle.cm_order.proofs.lemmas.searches.Reaching.{looked_at, gone_on}
use Rattle.cm_order.proofs.quick.step.Goals as goal

pub returns-in_ok-push-clause-way : goal.returns-in_ok-push-clause-way
returns-in_ok-push-clause-way g c =
    looked_at (g.V.View.rows c.args.view.now) c.args.top c.args.way.now.items c.pop.new.self.items c.push.new.self.items c.in-Some.stand c.glance.new.stand c.in-Some.ensures.items c.requires.way c.glance.ensures.same c.glance.ensures.known c.in_ok-push.ensures.items

pub returns-in_ok-push-3-clause-way : goal.returns-in_ok-push-3-clause-way
returns-in_ok-push-3-clause-way g c =
    looked_at (g.V.View.rows c.args.view.now) c.args.top c.args.way.now.items c.pop.new.self.items c.push.new.self.items c.in-Some.stand c.glance.new.stand c.in-Some.ensures.items c.requires.way c.glance.ensures.same c.glance.ensures.known c.in_ok-push.ensures.items

pub returns-in_err-push-2-clause-way : goal.returns-in_err-push-2-clause-way
returns-in_err-push-2-clause-way g c =
    subst (IsDescent (g.V.View.rows c.args.view.now) c.args.top) (sym c.in_err-push-2.ensures.items)
    (looked_at (g.V.View.rows c.args.view.now) c.args.top c.args.way.now.items c.pop.new.self.items c.push.new.self.items c.in-Some.stand c.glance.new.stand c.in-Some.ensures.items c.requires.way c.glance.ensures.same c.glance.ensures.known c.in_ok-push.ensures.items)

pub returns-in_ok-push-2-clause-way : goal.returns-in_ok-push-2-clause-way
returns-in_ok-push-2-clause-way g c =
    let is : c.in_ok-seen.seen ≡ Below (Some c.in-Below-Some.child) = search rules in
    gone_on (g.V.View.rows c.args.view.now) (g.V.View.next_inc c.args.view.now) c.requires.sound.orderly c.args.top c.args.way.now.items c.pop.new.self.items c.push.new.self.items c.push-in-Below-Some.new.self.items c.in-Some.stand c.new.result c.in-Below-Some.child c.in_ok-seen.seen c.in-Some.ensures.items c.requires.way
    (looked_at (g.V.View.rows c.args.view.now) c.args.top c.args.way.now.items c.pop.new.self.items c.push.new.self.items c.in-Some.stand c.glance.new.stand c.in-Some.ensures.items c.requires.way c.glance.ensures.same c.glance.ensures.known c.in_ok-push.ensures.items)
    c.in_ok-seen.ensures.glance is c.new.ensures c.in_ok-push-2.ensures.items
