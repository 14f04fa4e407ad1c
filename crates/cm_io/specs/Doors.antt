-- Promised.
-- What the calls on a door do. A door gives links: connections, each to one peer.
use Rattle.std.specs.Prelude.{◌≡◌, ℕ, List, [], ◌+◌, ◌≤◌, ⊤, Option, Some, None}
use Rattle.std.specs.Io.KnownBytes.{IsAtEnd}
use Rattle.cm_io.specs.Counts.{one_more}
use Rattle.cm_io.specs.Orders.{Move}
use Rattle.cm_io.specs.Outside.{AsSink, AsSource}
use Rattle.cm_io.specs.declared.door.Accept.{Accept}
use Rattle.cm_io.specs.declared.door.Accept.TheVariants as accept
use Rattle.cm_io.specs.declared.door.DoorCounts.{DoorCounts}
use Rattle.cm_io.specs.declared.door.Listen.{Listen}
use Rattle.cm_io.specs.declared.door.Listen.TheVariants as listen

-- a fault of the door is counted, and nothing else
abbrev pub CountsFault : DoorCounts → DoorCounts → Type 0
CountsFault before now =
    (before.faults ≤ now.faults) × (now ≡ record before { faults = one_more before.faults })

-- what a listen does to the counts: a failure is counted
abbrev pub Listens : DoorCounts → DoorCounts → Listen → Type 0
Listens before now listen.Ready = now ≡ before
Listens before now listen.Failed = CountsFault before now

-- where peers may come: the door doesn't tell, nowhere yet, somewhere that isn't told, or at this
-- place
pub data DoorPlace : Type 0 where
  untold : DoorPlace
  nowhere : DoorPlace
  somewhere : DoorPlace
  at : List ℕ → DoorPlace

-- peers may not come yet, as far as the door tells
abbrev pub IsShut : DoorPlace → Type 0
IsShut untold = ⊤
IsShut nowhere = ⊤
IsShut somewhere = ⊥
IsShut (at place) = ⊥

-- peers may come somewhere, as far as the door tells
abbrev pub IsOpen : DoorPlace → Type 0
IsOpen untold = ⊤
IsOpen nowhere = ⊥
IsOpen somewhere = ⊤
IsOpen (at place) = ⊤

-- peers may come at this place, as far as the door tells
abbrev pub IsOpenAt : List ℕ → DoorPlace → Type 0
IsOpenAt wanted untold = ⊤
IsOpenAt wanted nowhere = ⊥
IsOpenAt wanted somewhere = ⊤
IsOpenAt wanted (at place) = place ≡ wanted

-- what a listen at this place does to where peers may come
abbrev pub Opens : List ℕ → DoorPlace → DoorPlace → Listen → Type 0
Opens wanted before now listen.Ready = IsOpenAt wanted now
Opens wanted before now listen.Failed = now ≡ before

-- what an accept does to the counts: a link, a closing or a fault is counted, and nothing else
abbrev pub Accepts : {L : Type 0} → DoorCounts → DoorCounts → Accept L → Type 0
Accepts before now (accept.Link l) = now ≡ record before { links = before.links + 1 }
Accepts before now accept.Closed =
    (before.closings ≤ now.closings) × (now ≡ record before { closings = one_more before.closings })
Accepts before now accept.Failed = CountsFault before now

-- P holds of the link that an accept gave, if it gave one
abbrev pub OnLink : {L : Type 0} → Accept L → (L → Type 0) → Type 0
OnLink (accept.Link l) P = P l
OnLink accept.Closed P = ⊤
OnLink accept.Failed P = ⊤

-- nothing was read, written or hung up, as far as the order is told
abbrev pub IsUnmoved : Option (List Move) → Type 0
IsUnmoved None = ⊤
IsUnmoved (Some moves) = moves ≡ []

-- a link that was just given: it never failed, gave and took no bytes, and made no move, as far as it
-- tells
pub record IsFreshLink (source : AsSource) (sink : AsSink) (order : Option (List Move)) : Type 0 where
  pub none_given : IsAtEnd source.given
  pub none_written : IsAtEnd sink.written
  pub no_read_fault : source.faults ≡ 0
  pub no_write_fault : sink.faults ≡ 0
  pub no_moves : IsUnmoved order
