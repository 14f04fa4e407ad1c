use Rattle.std.proofs.Common.{◌≡◌, ◌+◌, drop, length}
use Rattle.std.specs.Option.{option_map}
use Rattle.cm_text.specs.Pieces.{comment}
use Rattle.cm_text.proofs.scan.comment_len.Given as goal

abbrev pub invariant-loop-i : goal.invariant-loop-i
invariant-loop-i l = option_map length (comment l.bytes) ≡ option_map (λ n. l.i + n) (option_map length (comment (drop l.i l.bytes)))
