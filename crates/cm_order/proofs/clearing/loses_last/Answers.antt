use Rattle.std.proofs.Common.{◌≡◌, Some, sym, ◌∙◌, ap, refl}
use Rattle.std.specs.Option.{option_copied_mut, is_some}
use Rattle.std.specs.Ordering.{nat_cmp}
use Rattle.std.specs.BTreeMap.{get}
use Rattle.cm_order.proofs.lemmas.levels.Clearing.{known_left}
use Rattle.cm_order.proofs.clearing.loses_last.Goals as goal

pub returns-then-had_one-clause-known : goal.returns-then-had_one-clause-known
returns-then-had_one-clause-known c = λ rows p is.
    let there : get nat_cmp c.args.known.now.edges.clients c.args.child ≡ Some c.in-Some.clients.now = sym c.get_mut.ensures.value ∙ ap option_copied_mut c.in-Some.is in
    known_left rows p c.args.child c.args.known.now _ c.in-Some.clients.now c.trim.new.list is refl there ((c.get_mut.follows.holds c.trim.new.list).3 (ap is_some there)).0 c.in_ok-last-in-Some.ensures.left c.in_ok-last-in-Some.ensures.only

pub returns-else-had_one-clause-known : goal.returns-else-had_one-clause-known
returns-else-had_one-clause-known c = λ rows p is.
    let there : get nat_cmp c.args.known.now.edges.clients c.args.child ≡ Some c.in-Some.clients.now = sym c.get_mut.ensures.value ∙ ap option_copied_mut c.in-Some.is in
    known_left rows p c.args.child c.args.known.now _ c.in-Some.clients.now c.trim.new.list is refl there ((c.get_mut.follows.holds c.trim.new.list).3 (ap is_some there)).0 c.in_ok-last-in-Some.ensures.left c.in_ok-last-in-Some.ensures.only
