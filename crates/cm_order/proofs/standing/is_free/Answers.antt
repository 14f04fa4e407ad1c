use Rattle.std.proofs.Common.{refl, subst}
use Rattle.cm_facts.proofs.Booleans.{false_iff}
use Rattle.cm_order.specs.Standing.{IsChildStanding}
use Rattle.cm_order.proofs.standing.is_free.Goals as goal

pub returns-in-Free-clause-free : goal.returns-in-Free-clause-free
returns-in-Free-clause-free g c = (
  λ told. (subst (IsChildStanding (g.V.View.rows c.args.view.now) c.args.parent c.args.child c.standing_of.new.known) c.in-Free.is c.in_ok-standing_of.ensures.standing).free,
  λ free. refl,
)

pub returns-in-Bound-clause-free : goal.returns-in-Bound-clause-free
returns-in-Bound-clause-free g c =
    false_iff (subst (IsChildStanding (g.V.View.rows c.args.view.now) c.args.parent c.args.child c.standing_of.new.known) c.in-Bound.is c.in_ok-standing_of.ensures.standing)

pub is_free_behind-requires-clause-own : goal.is_free_behind-requires-clause-own
is_free_behind-requires-clause-own g c =
    subst (IsChildStanding (g.V.View.rows c.args.view.now) c.args.parent c.args.child c.standing_of.new.known) c.in-ByOwn.is c.in_ok-standing_of.ensures.standing
