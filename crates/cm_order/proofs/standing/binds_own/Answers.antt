use Rattle.std.proofs.Common.{◌≡◌, false, sym, ◌∙◌, subst}
use Rattle.cm_facts.proofs.Booleans.{true_and_false}
use Rattle.cm_order.specs.Glances.{is_in_set}
use Rattle.cm_order.specs.Standing.{IsChildStanding, IsFreeByLists, IsByOwn}
use Rattle.cm_world.specs.Stopping.{is_wholly_shut}
use Rattle.cm_order.proofs.lemmas.levels.Owning.{own_bound_by, own_apart, unreached}
use Rattle.cm_trees.proofs.levels.Shut.{kid_shut}
use Rattle.cm_order.proofs.standing.binds_own.Goals as goal

pub returns-then-branch-clause-binds : goal.returns-then-branch-clause-binds
returns-then-branch-clause-binds g c = λ on leads.
    true_and_false (is_wholly_shut (g.V.View.rows c.args.view.now) c.args.parent c.args.child)
    (kid_shut (g.V.View.rows c.args.view.now) (g.V.View.next_inc c.args.view.now) c.requires.sound.orderly c.args.parent c.args.child c.requires.kid ∙ (sym c.in_ok-all_shut.ensures ∙ c.if-branch.true)) leads.unshut

pub returns-in-Free-clause-binds : goal.returns-in-Free-clause-binds
returns-in-Free-clause-binds g c =
    let rows = g.V.View.rows c.args.view.now in
    let next = g.V.View.next_inc c.args.view.now in
    let free : IsFreeByLists rows c.args.parent c.args.child c.standing_of.new.known = subst (IsChildStanding rows c.args.parent c.args.child c.standing_of.new.known) c.in-Free.is c.in_ok-standing_of.ensures.standing in
    let left : is_in_set c.standing_of.new.known.cleared c.args.parent ≡ false = c.in_ok-standing_of.ensures.own ∙ c.requires.left in
    let unshut : is_wholly_shut rows c.args.parent c.args.child ≡ false = kid_shut rows next c.requires.sound.orderly c.args.parent c.args.child c.requires.kid ∙ (sym c.in_ok-all_shut.ensures ∙ c.if-branch.false) in
    own_bound_by rows next c.requires.sound c.args.parent c.args.child c.requires.kid (unreached rows next c.requires.sound c.args.parent c.standing_of.new.known c.in_ok-standing_of.ensures.known left c.args.child free.clients) unshut

pub returns-in-Bound-clause-binds : goal.returns-in-Bound-clause-binds
returns-in-Bound-clause-binds g c = λ on leads.
    (subst (IsChildStanding (g.V.View.rows c.args.view.now) c.args.parent c.args.child c.standing_of.new.known) c.in-Bound.is c.in_ok-standing_of.ensures.standing) leads.free

pub returns-in-ByOwn-clause-binds : goal.returns-in-ByOwn-clause-binds
returns-in-ByOwn-clause-binds g c =
    let own : IsByOwn (g.V.View.rows c.args.view.now) c.args.parent c.args.child c.standing_of.new.known = subst (IsChildStanding (g.V.View.rows c.args.view.now) c.args.parent c.args.child c.standing_of.new.known) c.in-ByOwn.is c.in_ok-standing_of.ensures.standing in
    λ on leads. own_apart (g.V.View.rows c.args.view.now) (g.V.View.next_inc c.args.view.now) c.requires.sound c.args.parent c.args.child own.way on

pub returns-in-Free-clause-left : goal.returns-in-Free-clause-left
returns-in-Free-clause-left g c = c.in_ok-standing_of.ensures.own ∙ c.requires.left

pub returns-in-Bound-clause-left : goal.returns-in-Bound-clause-left
returns-in-Bound-clause-left g c = c.in_ok-standing_of.ensures.own ∙ c.requires.left

pub returns-in-ByOwn-clause-left : goal.returns-in-ByOwn-clause-left
returns-in-ByOwn-clause-left g c = c.in_ok-standing_of.ensures.own ∙ c.requires.left
