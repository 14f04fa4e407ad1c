use Rattle.std.proofs.Common.{◌≡◌, ◌≤◌, length, Bool}
use denote.Text.{Utf8}
use denote.Shadow.{shadow}
use Rattle.json.specs.Lex.{lex, between}
use Rattle.cm_plain.specs.Plain.{PassesPieces}
use Rattle.cm_plain.proofs.plain.behind_space.Given as goal

abbrev pub invariant-loop-rest : goal.invariant-loop-rest
invariant-loop-rest l =
    shadow (Utf8 l.left) × (lex between l.left ≡ lex between l.text) × (length l.left ≤ length l.text)
    × ((c : Bool) → PassesPieces c l.text c l.left)

abbrev pub decreases-loop-rest : goal.decreases-loop-rest
decreases-loop-rest l = length l.left
