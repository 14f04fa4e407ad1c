use Rattle.std.proofs.Common.{◌≡◌, take}
use Rattle.cm_command.proofs.tokens.common_len.Given as goal

-- the bytes so far are the same
abbrev pub invariant-loop-i : goal.invariant-loop-i
invariant-loop-i l = take l.i l.literal ≡ take l.i l.word
