use Rattle.std.proofs.Common.{true≢false, sym, ◌∙◌, IsTrue}
use Rattle.std.specs.Prelude.{◌↔◌}
use Rattle.std.proofs.lemmas.Bool.{and_parts, and_from}
use Rattle.std.proofs.lemmas.Result.{IfOk-weaker}
use Rattle.cm_facts.proofs.Booleans.{false_iff}
use Rattle.cm_world.specs.Rows.{is_below}
use Rattle.cm_order.specs.Picking.{MayBePicked}
use Rattle.cm_order.specs.Ways.{is_idle, IsFreeUpTo}
use Rattle.cm_order.proofs.lemmas.searches.Choosing.{none_picked, picked_is, chosen_if}
use Rattle.cm_order.proofs.choosing.may_pick_with.Goals as goal

pub returns-in_default-clause-may : goal.returns-in_default-clause-may
returns-in_default-clause-may g c = false_iff (none_picked (g.V.View.rows c.args.view.now) (g.V.View.next_inc c.args.view.now) c.requires.sound.orderly c.args.target c.args.inc c.in_default.ensures)

pub returns-then-not-is_idle_below-clause-may : goal.returns-then-not-is_idle_below-clause-may
returns-then-not-is_idle_below-clause-may g c =
    false_iff (λ it.
    let is = picked_is (g.V.View.rows c.args.view.now) (g.V.View.next_inc c.args.view.now) c.requires.sound.orderly c.args.target c.in-Some.top c.args.inc (sym c.in-Some.ensures) it in
    true≢false (sym (and_from (is_below (g.V.View.rows c.args.view.now) c.in-Some.top c.args.inc) (is_idle (g.V.View.rows c.args.view.now) c.args.inc) is.below is.idle) ∙ sym c.is_idle_below.ensures ∙ c.if-not-is_idle_below.true))

pub returns-then-branch-clause-may : goal.returns-then-branch-clause-may
returns-then-branch-clause-may g c = false_iff (λ it. true≢false (sym c.if-branch.true ∙ c.in_ok-all_shut.ensures ∙ it.1.undone))

pub is_free_up_to-requires-clause-below : goal.is_free_up_to-requires-clause-below
is_free_up_to-requires-clause-below g c =
    (and_parts (is_below (g.V.View.rows c.args.view.now) c.in-Some.top c.args.inc) (is_idle (g.V.View.rows c.args.view.now) c.args.inc) (sym c.is_idle_below.ensures ∙ c.if-not-is_idle_below.false)).0

pub is_free_up_to-requires-clause-idle : goal.is_free_up_to-requires-clause-idle
is_free_up_to-requires-clause-idle g c =
    (and_parts (is_below (g.V.View.rows c.args.view.now) c.in-Some.top c.args.inc) (is_idle (g.V.View.rows c.args.view.now) c.args.inc) (sym c.is_idle_below.ensures ∙ c.if-not-is_idle_below.false)).1

pub is_free_up_to-requires-clause-levels : goal.is_free_up_to-requires-clause-levels
is_free_up_to-requires-clause-levels g c = c.requires.plan.levels

pub returns-clause-may : goal.returns-clause-may
returns-clause-may g c =
    let both = and_parts (is_below (g.V.View.rows c.args.view.now) c.in-Some.top c.args.inc) (is_idle (g.V.View.rows c.args.view.now) c.args.inc) (sym c.is_idle_below.ensures ∙ c.if-not-is_idle_below.false) in
    IfOk-weaker c.is_free_up_to.result (λ free. IsTrue free ↔ IsFreeUpTo (g.V.View.rows c.args.view.now) c.in-Some.top c.args.inc) (λ may. IsTrue may ↔ MayBePicked (g.V.View.rows c.args.view.now) c.args.target c.args.inc)
    (λ free it. chosen_if (g.V.View.rows c.args.view.now) (g.V.View.next_inc c.args.view.now) c.requires.sound.orderly c.args.target c.in-Some.top c.args.inc free (sym c.in-Some.ensures) (sym c.in_ok-all_shut.ensures ∙ c.if-branch.false) both.0 both.1 it)
    c.is_free_up_to.ensures.free

pub returns-clause-plan : goal.returns-clause-plan
returns-clause-plan g c = record { way = c.requires.plan.way; others = c.requires.plan.others; levels = c.is_free_up_to.ensures.levels }
