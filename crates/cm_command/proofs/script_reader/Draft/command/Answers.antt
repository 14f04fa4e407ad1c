use Rattle.std.proofs.Common.{rules}
use Rattle.cm_command.specs.Scripts.{LineFault}
use Rattle.cm_command.proofs.lemmas.scripts.Lane.{lane_too_many, lane_no_root, lane_fault, lane_takes}
use Rattle.cm_command.proofs.script_reader.Draft.command.Goals as goal

pub returns-in_default : goal.returns-in_default
returns-in_default c =
    LineFault.bad_lane c.requires.closed (record { stands = c.requires.other.stands; no_manifest = c.requires.other.no_manifest; no_builtin = c.requires.other.no_builtin; no_root = c.requires.other.no_root; no_sync = c.requires.other.no_sync; no_lane = c.in_default.ensures })

pub returns-then-start-gt-LAST_LANE : goal.returns-then-start-gt-LAST_LANE
returns-then-start-gt-LAST_LANE c =
    lane_too_many c.args.self.now c.args.line.now c.in-Some.start.digits c.in-Some.start.lane c.in-Some.start.rest.now c.requires.closed c.in-Some.ensures c.if-start-gt-LAST_LANE.true

pub returns-then-is_none : goal.returns-then-is_none
returns-then-is_none c =
    lane_no_root c.args.self.now c.args.line.now c.in-Some.start.digits c.in-Some.start.lane c.in-Some.start.rest.now c.requires.closed c.in-Some.ensures c.if-start-gt-LAST_LANE.false (search rules)

pub returns-in-Err : goal.returns-in-Err
returns-in-Err c =
    rw c.fault_behind.ensures (lane_fault c.args.self.now c.args.line.now c.in-Some.start.digits c.in-Some.start.lane c.in-Some.start.rest.now c.in-Err.fault c.requires.closed c.in-Some.ensures c.if-start-gt-LAST_LANE.false (search rules) c.in-Err.ensures.fault)

pub returns : goal.returns
returns c =
    lane_takes c.args.number c.args.self.now c.args.line.now c.in-Some.start.digits c.in-Some.start.lane c.in-Some.start.rest.now c.in-Ok.command c.push.new.self c.requires.closed c.in-Some.ensures c.if-start-gt-LAST_LANE.false (search rules) c.in-Ok.ensures.ok (search rules)
