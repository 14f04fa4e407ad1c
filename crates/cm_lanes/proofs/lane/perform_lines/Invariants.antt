use Rattle.std.proofs.Common.{take}
use Rattle.cm_manager.specs.Caller.{IsSameCaller}
use Rattle.cm_lanes.proofs.lemmas.lines.Performing.{Performing}
use Rattle.cm_lanes.proofs.lane.perform_lines.Given as goal

abbrev pub invariant-loop-line : goal.invariant-loop-line
invariant-loop-line g l = record {
  same : IsSameCaller l.fn.caller l.caller;
  performing : Performing l.fn.caller.manager.manifests (take l.line-index l.lines) l.fn.caller.pass l.caller.pass l.fn.caller.gates l.caller.gates l.fn.said.items l.said.items l.lost;
}
