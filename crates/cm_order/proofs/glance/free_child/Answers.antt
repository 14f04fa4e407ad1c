use Rattle.std.proofs.Common.{◌≡◌, Some, sym, ◌∙◌, ap}
use Rattle.std.specs.Option.{option_copied_mut, is_some}
use Rattle.std.specs.Ordering.{nat_cmp}
use Rattle.std.specs.BTreeMap.{get}
use Rattle.cm_order.proofs.lemmas.levels.Clearing.{level_told, levels_changed, level_dropped}
use Rattle.cm_order.proofs.glance.free_child.Goals as goal

pub next_free-requires-clause-known : goal.next_free-requires-clause-known
next_free-requires-clause-known g c =
    level_told (g.V.View.rows c.args.view.now) c.args.levels.now c.args.parent c.in-Some.known.now (sym (sym c.get_mut.ensures.value ∙ ap option_copied_mut c.in-Some.is)) c.requires.levels

pub returns-in-Ok-clause-levels : goal.returns-in-Ok-clause-levels
returns-in-Ok-clause-levels g c =
    let there : get nat_cmp c.args.levels.now c.args.parent ≡ Some c.in-Some.known.now = sym c.get_mut.ensures.value ∙ ap option_copied_mut c.in-Some.is in
    levels_changed (g.V.View.rows c.args.view.now) c.args.parent (Some c.next_free.new.known) c.args.levels.now (c.get_mut.follows.lender c.next_free.new.known)
    ((c.get_mut.follows.holds c.next_free.new.known).3 (ap is_some there)).0 c.in-Ok.ensures.known c.requires.levels

pub returns-in-Err-clause-levels : goal.returns-in-Err-clause-levels
returns-in-Err-clause-levels g c =
    let there : get nat_cmp c.args.levels.now c.args.parent ≡ Some c.in-Some.known.now = sym c.get_mut.ensures.value ∙ ap option_copied_mut c.in-Some.is in
    level_dropped (g.V.View.rows c.args.view.now) c.args.parent c.next_free.new.known c.args.levels.now (c.get_mut.follows.lender c.next_free.new.known) c.remove.new.self
    ((c.get_mut.follows.holds c.next_free.new.known).3 (ap is_some there)).0 c.remove.ensures.updates.0 c.requires.levels
