use Rattle.std.proofs.Common.{◌≡◌, Some, sym, ◌∙◌, ap, refl}
use Rattle.std.specs.Option.{option_copied_mut, is_some}
use Rattle.std.specs.Ordering.{nat_cmp}
use Rattle.std.specs.BTreeMap.{get}
use Rattle.cm_order.specs.declared.dependents.Dependents.{Dependents}
use Rattle.cm_order.proofs.lemmas.levels.Clearing.{known_left, left_told}
use Rattle.cm_order.proofs.clearing.next_client.Goals as goal

pub returns-in_ok-last-in-Some-clause-client : goal.returns-in_ok-last-in-Some-clause-client
returns-in_ok-last-in-Some-clause-client c =
    let there : get nat_cmp c.args.known.now.edges.clients c.args.child ≡ Some c.in-Some.clients.now = sym c.get_mut.ensures.value ∙ ap option_copied_mut c.in-Some.is in
    let now : Dependents = record { edges = record { clients = c.get_mut.follows.lender c.trim.new.list; sources = c.args.known.now.edges.sources }; cleared = c.args.known.now.cleared; «open» = c.args.known.now.«open»; passed = c.args.known.now.passed; all_passed = c.args.known.now.all_passed } in
    left_told now c.args.child c.trim.new.list c.in_ok-last-in-Some.last ((c.get_mut.follows.holds c.trim.new.list).3 (ap is_some there)).1 c.in_ok-last-in-Some.ensures.last

pub returns-in_ok-last-in-Some-clause-known : goal.returns-in_ok-last-in-Some-clause-known
returns-in_ok-last-in-Some-clause-known c = λ rows p is.
    let there : get nat_cmp c.args.known.now.edges.clients c.args.child ≡ Some c.in-Some.clients.now = sym c.get_mut.ensures.value ∙ ap option_copied_mut c.in-Some.is in
    known_left rows p c.args.child c.args.known.now _ c.in-Some.clients.now c.trim.new.list is refl there ((c.get_mut.follows.holds c.trim.new.list).3 (ap is_some there)).0 c.in_ok-last-in-Some.ensures.left c.in_ok-last-in-Some.ensures.only
