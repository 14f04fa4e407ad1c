use Rattle.std.proofs.Common.{◌≡◌, All, length}
use Rattle.component_manager.proofs.folder_gates.Given as goal

abbrev pub invariant-loop-lane : goal.invariant-loop-lane
invariant-loop-lane g l = record {
  count : length l.gates ≡ l.lane;
  alike : All (λ x. x ≡ record { files = l.files; runner = l.at; faults = 0 }) l.gates;
}
