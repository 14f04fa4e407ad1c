use Rattle.std.proofs.Common.{◌≡◌, [], false, sym, ◌∙◌, subst, inr}
use Rattle.std.specs.Prelude.{unwrap_or}
use Rattle.std.specs.Ordering.{nat_cmp}
use Rattle.std.specs.BTreeMap.{get}
use Rattle.std.proofs.lemmas.Result.{on_ok_weaker}
use Rattle.cm_order.specs.Glances.{is_in_list, IsCleared, IsFreeKid, KnowsDependents}
use Rattle.cm_order.specs.Standing.{HasNoClient}
use Rattle.cm_trees.proofs.levels.Shut.{kid_shut}
use Rattle.cm_order.proofs.lemmas.levels.Clearing.{known_same}
use Rattle.cm_order.proofs.clearing.leave.Goals as goal

pub returns-then-not-waits : goal.returns-then-not-waits
returns-then-not-waits g c =
    known_same (g.V.View.rows c.args.view.now) c.args.parent c.args.known.now c.leave.new.self c.leave.ensures.edges c.leave.ensures.cleared c.requires.known

pub returns : goal.returns
returns g c =
    let rows = g.V.View.rows c.args.view.now in
    let known : KnowsDependents rows c.args.parent c.leave-2.new.self = known_same rows c.args.parent c.args.known.now c.leave-2.new.self c.leave-2.ensures.edges c.leave-2.ensures.cleared c.requires.known in
    let free : IsFreeKid rows c.args.parent c.args.child = c.is_free_child.ensures.free c.if-not-is_free_child.false in
    let cleared : IsCleared rows c.args.parent c.args.child = record {
      free = free.free;
      shut = kid_shut rows (g.V.View.next_inc c.args.view.now) c.requires.sound.orderly c.args.parent c.args.child free.kid ∙ c.requires.shut;
    } in
    let none : HasNoClient c.leave-2.new.self c.args.child = λ z.
    subst (λ e. is_in_list (unwrap_or (get nat_cmp e.clients c.args.child) []) z ≡ false) (sym c.leave-2.ensures.edges) (c.is_free_child.ensures.none c.if-not-is_free_child.false z) in
    on_ok_weaker c.clear.result (λ h. h rows c.args.parent known cleared (inr none)) c.clear.ensures.known
