use Rattle.std.proofs.Common.{take, All}
use Rattle.cm_lanes.specs.Lane.{IsReadyLane}
use Rattle.cm_lanes.specs.Phases.{LanesRan}
use Rattle.cm_lanes.proofs.phase.perform_phases.Given as goal

abbrev pub invariant-loop-phase : goal.invariant-loop-phase
invariant-loop-phase g l = record {
  ran : LanesRan g.G.Gates.log g.G.Gates.faults l.manager.manifests (take l.phase-index l.phases) l.fn.lanes l.lanes;
  ready : All (IsReadyLane l.manager.turn) l.lanes;
}
