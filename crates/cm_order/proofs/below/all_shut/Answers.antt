use Rattle.std.proofs.Common.{rules, ◌≡◌, None, refl, sym, ◌∙◌, subst}
use Rattle.cm_world.specs.RowsInside.{child_behind}
use Rattle.cm_trees.proofs.levels.Kids.{next_kid, no_kids}
use Rattle.cm_order.proofs.lemmas.levels.Glancing.{shut_below}
use Rattle.cm_order.proofs.lemmas.searches.Turns.{IsLooking, alone, under, own_open, looking_first, looking_on, looking_found}
use Rattle.cm_order.proofs.lemmas.searches.Weights.{falls}
use Rattle.cm_order.proofs.below.all_shut.Goals as goal

pub returns-then-is_unshut : goal.returns-then-is_unshut
returns-then-is_unshut g c =
    sym (own_open (g.V.View.rows c.args.view.now) (g.V.View.next_inc c.args.view.now) c.is_unshut.ensures.orderly c.args.top (sym c.is_unshut.ensures.unshut ∙ c.if-is_unshut.true))

pub returns-then-is_none : goal.returns-then-is_none
returns-then-is_none g c =
    let none : child_behind (g.V.View.rows c.args.view.now) c.args.top None ≡ None = search rules in
    sym (shut_below (g.V.View.rows c.args.view.now) (g.V.View.next_inc c.args.view.now) c.is_unshut.ensures.orderly c.args.top (sym c.is_unshut.ensures.unshut ∙ c.if-is_unshut.false)
    (λ i kid. absurd (no_kids (g.V.View.rows c.args.view.now) c.args.top None i none kid refl)))

pub loop-spot-init : goal.loop-spot-init
loop-spot-init g c =
    subst (IsLooking (g.V.View.rows c.args.view.now) c.args.top) (sym (alone c.new-left.result.items c.push.new.self.items (under c.args.top) c.new-left.ensures.items c.in_ok-push.ensures.items))
    (looking_first (g.V.View.rows c.args.view.now) (g.V.View.next_inc c.args.view.now) c.is_unshut.ensures.orderly c.args.top (sym c.is_unshut.ensures.unshut ∙ c.if-is_unshut.false))

pub returns-then-is_some_unshut : goal.returns-then-is_some_unshut
returns-then-is_some_unshut g c =
    looking_found (g.V.View.rows c.args.view.now) (g.V.View.next_inc c.args.view.now) c.is_unshut.ensures.orderly c.args.top c.loop-spot.left.items c.pop.new.self.items c.in-Some.spot c.next_child-child.result c.loop-spot.invariant c.in-Some.ensures.items c.next_child-child.ensures (sym c.is_some_unshut.ensures ∙ c.if-is_some_unshut.true)

pub loop-spot-smaller : goal.loop-spot-smaller
loop-spot-smaller g c =
    falls (g.V.View.rows c.args.view.now) (g.V.View.next_inc c.args.view.now) c.is_unshut.ensures.orderly c.loop-spot.left.items c.pop.new.self.items c.go_on.new.left.items c.in-Some.spot c.next_child-child.result c.in-Some.ensures.items c.in_ok-go_on.ensures
    (λ k e. next_kid (g.V.View.rows c.args.view.now) (g.V.View.next_inc c.args.view.now) c.is_unshut.ensures.orderly c.in-Some.spot.inc c.in-Some.spot.behind k (sym c.next_child-child.ensures ∙ e))

pub loop-spot-preserved : goal.loop-spot-preserved
loop-spot-preserved g c =
    looking_on (g.V.View.rows c.args.view.now) (g.V.View.next_inc c.args.view.now) c.is_unshut.ensures.orderly c.args.top c.loop-spot.left.items c.pop.new.self.items c.go_on.new.left.items c.in-Some.spot c.next_child-child.result c.loop-spot.invariant c.in-Some.ensures.items c.in_ok-go_on.ensures c.next_child-child.ensures (sym c.is_some_unshut.ensures ∙ c.if-is_some_unshut.false)
