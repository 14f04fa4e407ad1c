use Rattle.std.proofs.Common.{◌≡◌, false, ◌+◌, drop}
use Rattle.std.specs.Option.{option_map}
use Rattle.cm_text.specs.Scan.{close_place}
use Rattle.cm_text.proofs.scan.string_len.Given as goal

abbrev pub invariant-loop-i : goal.invariant-loop-i
invariant-loop-i l = close_place l.quote false l.bytes ≡ option_map (λ n. l.i + n) (close_place l.quote l.behind_backslash (drop l.i l.bytes))
