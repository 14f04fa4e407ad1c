-- Inside.
-- Links and doors in memory, which tests use, as contracts see them.
use Rattle.std.specs.Prelude.{cond, ◌≡◌, ◌⊎◌, ◌-◌, ◌^◌, ℕ, Bool, true, false}
use Rattle.std.specs.Prelude.{Contains, List, [], ◌∷◌, Option, Some}
use Rattle.cm_io.specs.InMemory.{FaultPlanAtWork, unused}
use Rattle.cm_io.specs.Doors.{DoorPlace, nowhere, somewhere}
use Rattle.cm_io.specs.Orders.{Move}
use Rattle.cm_io.specs.Outside.{AsSink, AsSource}
use Rattle.cm_io.specs.Steps.{order_of}
use Rattle.cm_io.specs.declared.door.Accept.{Accept}
use Rattle.cm_io.specs.declared.door.Accept.TheVariants as accept
use Rattle.cm_io.specs.declared.door.DoorCounts.{DoorCounts}
use Rattle.cm_io.specs.declared.door.Listen.{Listen}
use Rattle.cm_io.specs.declared.door.Listen.TheVariants as listen
use Rattle.cm_io.specs.declared.memory_link.LinkPlan.{LinkPlan}
use Rattle.cm_io.specs.declared.memory_link.MemoryLink.{MemoryLink}

-- what a link in memory tells as a source
abbrev pub as_source : MemoryLink → AsSource
as_source link = record {
  left = Some link.source.left;
  given = Some link.source.given;
  faults = link.source.plan.faults;
}

-- what a link in memory tells as a sink
abbrev pub as_sink : MemoryLink → AsSink
as_sink link = record { written = Some link.sink.written; faults = link.sink.plan.faults }

-- in which order a link in memory was read, written and hung up, where that is told
abbrev pub link_order : MemoryLink → Option (List Move)
link_order link = order_of link.log

-- the link that a plan makes, before any byte went over it
abbrev pub made_by : LinkPlan → MemoryLink
made_by plan = record {
  source = record { given = []; left = plan.bytes; plan = unused plan.source.piece plan.source.failing };
  sink = record { written = []; capacity = 0; plan = unused plan.sink.piece plan.sink.failing };
  log = Some [];
}

-- a door in memory: the links that wait, the plan of its faults, and what it counted
pub record DoorInMemory : Type 0 where
  pub waiting : List LinkPlan
  pub plan : FaultPlanAtWork
  pub links : ℕ
  pub closings : ℕ
  -- whether a listen succeeded
  pub listening : Bool

-- where peers may come: somewhere once a listen succeeded, else nowhere
abbrev pub place_in_memory : DoorInMemory → DoorPlace
place_in_memory door = cond door.listening somewhere nowhere

-- whether peers may come after a listen
abbrev pub listens_now : Bool → Listen → Bool
listens_now before listen.Ready = true
listens_now before listen.Failed = before

-- what a door in memory counted
abbrev pub counts_of : DoorInMemory → DoorCounts
counts_of door = record { faults = door.plan.faults; links = door.links; closings = door.closings }

-- the next accept fails: that is planned, or the count of links is at its end
abbrev pub IsToFail : DoorInMemory → Type 0
IsToFail door = Contains door.plan.failing door.plan.calls ⊎ (door.links ≡ 2 ^ 64 - 1)

-- what an accept does to the links that wait: the first is given as it was planned, or none waits
abbrev pub GivesLink : List LinkPlan → List LinkPlan → Accept MemoryLink → Type 0
GivesLink old new (accept.Link link) = (plan : LinkPlan) × (old ≡ plan ∷ new) × (link ≡ made_by plan)
GivesLink old new accept.Closed = (old ≡ []) × (new ≡ [])
GivesLink old new accept.Failed = new ≡ old

-- whether a listen failed
abbrev pub is_failed_listen : Listen → Bool
is_failed_listen listen.Failed = true
is_failed_listen listen.Ready = false

-- whether an accept failed
abbrev pub is_failed_accept : {L : Type 0} → Accept L → Bool
is_failed_accept accept.Failed = true
is_failed_accept accept.Closed = false
is_failed_accept (accept.Link link) = false
