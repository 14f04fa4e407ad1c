use Rattle.std.proofs.Common.{true≢false, sym, ◌∙◌}
use Rattle.cm_facts.proofs.Booleans.{false_iff}
use Rattle.cm_trees.proofs.trees.Trees.{kid_higher}
use Rattle.cm_order.proofs.lemmas.searches.Choosing.{own_leads, way_first, goes_further, no_end, way_further, next_leads}
use Rattle.cm_order.proofs.choosing.is_free_up_to.Goals as goal

pub leads_up-requires-clause-kid : goal.leads_up-requires-clause-kid
leads_up-requires-clause-kid g c =
    (goes_further (g.V.View.rows c.args.view.now) (g.V.View.next_inc c.args.view.now) c.requires.sound.orderly c.args.top c.args.inc c.up.here c.in-Some.parent c.up.invariant.0 c.up-test.true (sym c.in-Some.is ∙ c.parent_of.ensures)).kid

pub returns-then-not-branch-clause-free : goal.returns-then-not-branch-clause-free
returns-then-not-branch-clause-free g c =
    false_iff (λ free. true≢false (sym (c.in_ok-leads_own.ensures.leads.1 (own_leads (g.V.View.rows c.args.view.now) (g.V.View.next_inc c.args.view.now) c.requires.sound.orderly c.args.top c.args.inc c.requires.below c.requires.idle free)) ∙ c.if-not-branch.true))

pub up-init : goal.up-init
up-init g c = (
  way_first (g.V.View.rows c.args.view.now) (g.V.View.next_inc c.args.view.now) c.requires.sound.orderly c.args.top c.args.inc c.requires.below c.requires.idle (c.in_ok-leads_own.ensures.leads.0 c.if-not-branch.false),
  c.in_ok-leads_own.ensures.levels,
)

pub unreachable-requires : goal.unreachable-requires
unreachable-requires g c = no_end (g.V.View.rows c.args.view.now) (g.V.View.next_inc c.args.view.now) c.requires.sound.orderly c.args.top c.args.inc c.up.here c.up.invariant.0 c.up-test.true (sym c.in_default.is ∙ c.parent_of.ensures)

pub returns-then-not-branch-2-clause-free : goal.returns-then-not-branch-2-clause-free
returns-then-not-branch-2-clause-free g c =
    let more = goes_further (g.V.View.rows c.args.view.now) (g.V.View.next_inc c.args.view.now) c.requires.sound.orderly c.args.top c.args.inc c.up.here c.in-Some.parent c.up.invariant.0 c.up-test.true (sym c.in-Some.is ∙ c.parent_of.ensures) in
    false_iff (λ free. true≢false (sym (c.in_ok-leads_up.ensures.leads.1 (next_leads (g.V.View.rows c.args.view.now) (g.V.View.next_inc c.args.view.now) c.requires.sound.orderly c.args.top c.args.inc c.up.here c.in-Some.parent c.requires.idle c.up.invariant.0 more free)) ∙ c.if-not-branch-2.true))

pub up-smaller : goal.up-smaller
up-smaller g c =
    let more = goes_further (g.V.View.rows c.args.view.now) (g.V.View.next_inc c.args.view.now) c.requires.sound.orderly c.args.top c.args.inc c.up.here c.in-Some.parent c.up.invariant.0 c.up-test.true (sym c.in-Some.is ∙ c.parent_of.ensures) in
    kid_higher (g.V.View.rows c.args.view.now) (g.V.View.next_inc c.args.view.now) c.requires.sound.orderly c.in-Some.parent c.up.here more.kid

pub up-preserved : goal.up-preserved
up-preserved g c =
    let more = goes_further (g.V.View.rows c.args.view.now) (g.V.View.next_inc c.args.view.now) c.requires.sound.orderly c.args.top c.args.inc c.up.here c.in-Some.parent c.up.invariant.0 c.up-test.true (sym c.in-Some.is ∙ c.parent_of.ensures) in (
      way_further (g.V.View.rows c.args.view.now) (g.V.View.next_inc c.args.view.now) c.requires.sound.orderly c.args.top c.args.inc c.up.here c.in-Some.parent c.up.invariant.0 more (c.in_ok-leads_up.ensures.leads.0 c.if-not-branch-2.false),
      c.in_ok-leads_up.ensures.levels,
    )
