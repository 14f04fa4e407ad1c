-- Inside.
-- Sources and sinks in memory, which tests use, as contracts see them. Their faults are planned.
use Rattle.std.specs.Prelude.{ℕ, ◌-◌, max, Bool, List, [], ◌∷◌, length}
use Rattle.cm_io.specs.Counts.{one_more}
use Rattle.cm_io.specs.CountsInside.{count_after}

-- a plan of faults between two calls
pub record FaultPlanAtWork : Type 0 where
  -- the most bytes that one call moves; 0 counts as 1
  pub piece : ℕ
  -- the numbers of the calls that fail
  pub failing : List ℕ
  pub calls : ℕ
  pub faults : ℕ

-- the most bytes that one call moves; at least one
abbrev pub most_of : FaultPlanAtWork → ℕ
most_of plan = max plan.piece 1

-- a plan before the first call
abbrev pub unused : ℕ → List ℕ → FaultPlanAtWork
unused piece failing = record { piece = piece; failing = failing; calls = 0; faults = 0 }

-- the plan after one more call, which failed or not
abbrev pub after_call : Bool → FaultPlanAtWork → FaultPlanAtWork
after_call failed plan = record plan { calls = one_more plan.calls; faults = count_after failed plan.faults }

-- a source in memory: the bytes that it gave, and those that are left
pub record SourceInMemory : Type 0 where
  pub given : List ℕ
  pub left : List ℕ
  pub plan : FaultPlanAtWork

-- a sink in memory: the bytes that were written, and for how many bytes in all it has memory
pub record SinkInMemory : Type 0 where
  pub written : List ℕ
  pub capacity : ℕ
  pub plan : FaultPlanAtWork

-- this room, where no call is planned to fail; else none
abbrev pub if_quiet : List ℕ → ℕ → ℕ
if_quiet [] room = room
if_quiet (call ∷ failing) room = 0

-- how many more bytes a sink is sure to take: those that fit into its memory, where no call is
-- planned to fail
abbrev pub sure_room : SinkInMemory → ℕ
sure_room sink = if_quiet sink.plan.failing (sink.capacity - length sink.written)
