use Rattle.std.proofs.Common.{true≢false, refl, sym, ◌∙◌, subst, inl}
use Rattle.cm_facts.proofs.Booleans.{false_iff, true_and_false}
use Rattle.cm_order.specs.Glances.{is_in_set, IsCleared}
use Rattle.cm_order.specs.Standing.{IsChildStanding, IsByOwn}
use Rattle.cm_order.proofs.lemmas.levels.Owning.{own_first}
use Rattle.cm_trees.proofs.levels.Shut.{own_shut}
use Rattle.cm_order.proofs.standing.is_free_behind.Goals as goal

pub returns-then-not-branch-clause-free : goal.returns-then-not-branch-clause-free
returns-then-not-branch-clause-free g c =
    false_iff (λ free. true≢false (sym (c.in_ok-is_own_free.ensures.free.1 (own_first (g.V.View.rows c.args.view.now) (g.V.View.next_inc c.args.view.now) c.requires.sound c.args.parent c.args.child c.requires.own.way free)) ∙ c.if-not-branch.true))

pub standing_of-requires-clause-known : goal.standing_of-requires-clause-known
standing_of-requires-clause-known g c =
    let cleared : IsCleared (g.V.View.rows c.args.view.now) c.args.parent c.args.parent = record {
      free = c.in_ok-is_own_free.ensures.free.0 c.if-not-branch.false;
      shut = own_shut (g.V.View.rows c.args.view.now) c.args.parent ∙ c.requires.own.shut;
    } in
    c.in_ok-clear.ensures.known (g.V.View.rows c.args.view.now) c.args.parent c.in_ok-is_own_free.ensures.known cleared (inl refl)

pub returns-in-Free-clause-free : goal.returns-in-Free-clause-free
returns-in-Free-clause-free g c = (
  λ told. (subst (IsChildStanding (g.V.View.rows c.args.view.now) c.args.parent c.args.child c.standing_of.new.known) c.in-Free.is c.in_ok-standing_of.ensures.standing).free,
  λ free. refl,
)

pub returns-in-Bound-clause-free : goal.returns-in-Bound-clause-free
returns-in-Bound-clause-free g c =
    false_iff (subst (IsChildStanding (g.V.View.rows c.args.view.now) c.args.parent c.args.child c.standing_of.new.known) c.in-Bound.is c.in_ok-standing_of.ensures.standing)

pub unreachable-requires : goal.unreachable-requires
unreachable-requires g c =
    let own : IsByOwn (g.V.View.rows c.args.view.now) c.args.parent c.args.child c.standing_of.new.known = subst (IsChildStanding (g.V.View.rows c.args.view.now) c.args.parent c.args.child c.standing_of.new.known) c.in-ByOwn.is c.in_ok-standing_of.ensures.standing in
    true_and_false (is_in_set c.standing_of.new.known.cleared c.args.parent) (c.in_ok-standing_of.ensures.own ∙ c.in_ok-clear.ensures.here) own.left
