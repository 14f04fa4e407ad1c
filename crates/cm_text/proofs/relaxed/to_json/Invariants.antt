use Rattle.std.proofs.Common.{◌≡◌, ◌-◌, length, drop}
use Rattle.std.specs.Str.{IsCharBoundary}
use Rattle.cm_text.specs.Pieces.{tokens_from}
use Rattle.cm_text.specs.Json.{json_of}
use Rattle.cm_text.specs.Writing.{json_left}
use Rattle.cm_text.proofs.relaxed.to_json.Given as goal

abbrev pub invariant-loop-at : goal.invariant-loop-at
invariant-loop-at l = record {
  cut : IsCharBoundary l.text l.at;
  json : json_left l.writer (tokens_from l.at (drop l.at l.text)) ≡ json_of l.text;
}

abbrev pub decreases-loop-at : goal.decreases-loop-at
decreases-loop-at l = length l.text - l.at
