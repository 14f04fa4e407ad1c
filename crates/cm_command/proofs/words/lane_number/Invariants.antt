use Rattle.std.proofs.Common.{◌≡◌, take, min}
use Rattle.cm_command.specs.Numbers.{value_behind}
use Rattle.cm_command.proofs.words.lane_number.Given as goal

-- what the digits so far stand for, or 16
abbrev pub invariant-loop-digit : goal.invariant-loop-digit
invariant-loop-digit l = l.number ≡ min (value_behind 0 (take l.digit-index l.digits)) 16
