use Rattle.std.proofs.Common.{rules}
use Rattle.cm_lanes.proofs.lemmas.lines.Performing.{performed_with}
use Rattle.cm_lanes.proofs.lane.perform_own.Goals as goal

pub returns : goal.returns
returns g c =
    let did = c.perform_lines-lost in
    let by = performed_with c.new-caller.result.manager c.args.manager.now c.args.lines.now c.args.pass c.into_parts-pass.result.0 c.new-caller.result.pass did.new.caller.pass in
    record { performed = search (rules, by, c.new-caller.ensures.manager, c.new-caller.ensures.pass, c.new-caller.ensures.gates, c.into_parts-pass.ensures.pass, c.into_parts-pass.ensures.gates, did.ensures.performed) }
