use Rattle.std.proofs.Common.{rules}
use Rattle.cm_command.proofs.lemmas.scripts.Lane.{no_space_no_lane, no_decimal_no_lane, starts}
use Rattle.cm_command.proofs.script_reader.lane_start.Goals as goal

pub returns-in_default : goal.returns-in_default
returns-in_default c = no_space_no_lane c.args.line.now c.cut.result.0.now c.cut.ensures.clean (search rules)

pub returns-then-not-is_decimal : goal.returns-then-not-is_decimal
returns-then-not-is_decimal c =
    no_decimal_no_lane c.args.line.now c.cut.result.0.now c.in-Some.rest.now c.cut.ensures.clean (search rules) (search rules)

pub returns : goal.returns
returns c =
    starts c.args.line.now c.cut.result.0.now c.in-Some.rest.now c.lane_number.result (search rules) (search rules) c.lane_number.ensures
