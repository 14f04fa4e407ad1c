use Rattle.std.proofs.Common.{◌≡◌, take}
use Rattle.cm_valid.specs.Keys.{zeroed}
use Rattle.cm_valid.proofs.keyed.zeroed.Given as goal

abbrev pub invariant-loop-byte : goal.invariant-loop-byte
invariant-loop-byte l = l.bytes ≡ zeroed (take l.byte-index l.path)
