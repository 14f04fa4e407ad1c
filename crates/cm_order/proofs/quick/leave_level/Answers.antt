use Rattle.std.proofs.Common.{◌≡◌, Some, sym, ◌∙◌, ap}
use Rattle.std.specs.Option.{option_copied_mut, is_some}
use Rattle.std.specs.Ordering.{nat_cmp}
use Rattle.std.specs.BTreeMap.{get}
use Rattle.cm_order.proofs.lemmas.levels.Clearing.{level_told, levels_changed, level_dropped}
use Rattle.cm_order.proofs.quick.leave_level.Goals as goal

pub leave-requires-clause-known : goal.leave-requires-clause-known
leave-requires-clause-known g c =
    level_told (g.V.View.rows c.args.view.now) c.args.levels.now c.args.parent c.in-Some-get_mut.known.now (sym (sym c.get_mut.ensures.value ∙ ap option_copied_mut c.in-Some-get_mut.is)) c.requires.levels

pub returns-in-Ok : goal.returns-in-Ok
returns-in-Ok g c =
    let there : get nat_cmp c.args.levels.now c.args.parent ≡ Some c.in-Some-get_mut.known.now = sym c.get_mut.ensures.value ∙ ap option_copied_mut c.in-Some-get_mut.is in
    levels_changed (g.V.View.rows c.args.view.now) c.args.parent (Some c.leave.new.known) c.args.levels.now (c.get_mut.follows.lender c.leave.new.known)
    ((c.get_mut.follows.holds c.leave.new.known).3 (ap is_some there)).0 c.in-Ok.ensures c.requires.levels

pub returns-in-Err : goal.returns-in-Err
returns-in-Err g c =
    let there : get nat_cmp c.args.levels.now c.args.parent ≡ Some c.in-Some-get_mut.known.now = sym c.get_mut.ensures.value ∙ ap option_copied_mut c.in-Some-get_mut.is in
    level_dropped (g.V.View.rows c.args.view.now) c.args.parent c.leave.new.known c.args.levels.now (c.get_mut.follows.lender c.leave.new.known) c.remove.new.self
    ((c.get_mut.follows.holds c.leave.new.known).3 (ap is_some there)).0 c.remove.ensures.updates.0 c.requires.levels
