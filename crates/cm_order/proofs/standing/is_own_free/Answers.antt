use Rattle.std.proofs.Common.{refl, sym, ◌∙◌, subst}
use Rattle.cm_facts.proofs.Booleans.{false_iff}
use Rattle.cm_order.specs.Standing.{IsOwnBinding}
use Rattle.cm_trees.proofs.levels.Kids.{next_kid}
use Rattle.cm_order.proofs.lemmas.levels.Gathering.{room_less}
use Rattle.cm_order.proofs.lemmas.levels.Owning.{none_binds_first, none_binds_more, none_binds_ends}
use Rattle.cm_order.proofs.standing.is_own_free.Goals as goal

pub loop-child-init : goal.loop-child-init
loop-child-init g c = (none_binds_first (g.V.View.rows c.args.view.now) c.args.parent, c.requires.known, c.requires.left)

pub binds_own-requires-clause-kid : goal.binds_own-requires-clause-kid
binds_own-requires-clause-kid g c =
    (next_kid (g.V.View.rows c.args.view.now) (g.V.View.next_inc c.args.view.now) c.requires.sound.orderly c.args.parent c.loop-child.behind c.in-Some.child (sym c.in-Some.ensures)).0

pub returns-then-branch-clause-free : goal.returns-then-branch-clause-free
returns-then-branch-clause-free g c =
    false_iff (subst (IsOwnBinding (g.V.View.rows c.args.view.now) c.args.parent c.in-Some.child) c.if-branch.true c.in_ok-binds_own.ensures.binds)

pub loop-child-smaller : goal.loop-child-smaller
loop-child-smaller g c =
    room_less (g.V.View.rows c.args.view.now) (g.V.View.next_inc c.args.view.now) c.args.parent c.in-Some.child c.loop-child.behind c.requires.sound.orderly c.in-Some.ensures

pub loop-child-preserved : goal.loop-child-preserved
loop-child-preserved g c = (
  none_binds_more (g.V.View.rows c.args.view.now) (g.V.View.next_inc c.args.view.now) c.requires.sound c.args.parent c.in-Some.child c.loop-child.behind c.loop-child.invariant.0 c.in-Some.ensures
      (subst (IsOwnBinding (g.V.View.rows c.args.view.now) c.args.parent c.in-Some.child) c.if-branch.false c.in_ok-binds_own.ensures.binds),
  c.in_ok-binds_own.ensures.known,
  c.in_ok-binds_own.ensures.left,
)

pub returns-clause-free : goal.returns-clause-free
returns-clause-free g c = (
  λ told. none_binds_ends (g.V.View.rows c.args.view.now) (g.V.View.next_inc c.args.view.now) c.requires.sound c.args.parent c.loop-child.behind c.loop-child.invariant.0 (sym c.in_default.is ∙ c.next_child.ensures),
  λ free. refl,
)
