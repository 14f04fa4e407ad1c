use Rattle.std.proofs.Common.{rules, arith}
use Rattle.cm_command.proofs.lemmas.bytes.Pieces.{lane_more}
use Rattle.cm_command.proofs.words.lane_number.Goals as goal

pub loop-digit-preserved : goal.loop-digit-preserved
loop-digit-preserved c =
    lane_more c.args.digits.now c.loop-digit.digit-index c.loop-digit.number c.min-number.result (omega arith) c.loop-digit.invariant (search rules)
