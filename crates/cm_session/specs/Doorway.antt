-- Inside.
-- A door that workers share: they accept in turn under a lock, whose history has one entry for each
-- accept.
use Rattle.std.specs.Prelude.{◌≡◌, ◌⊎◌, ℕ, ◌+◌, ◌<◌, ◌≤◌, Bool, true, false, List, ◌∷◌, [], ◌++◌, filter}
use Rattle.std.specs.Prelude.{length, ⊤, Option, Some, None}
use Rattle.cm_io.specs.Doors.{OnLink}
use Rattle.cm_io.specs.Outside.{Rose}
use Rattle.cm_io.specs.declared.door.Accept.{Accept}
use Rattle.cm_io.specs.declared.door.Accept.TheVariants as accept
use Rattle.cm_io.specs.declared.door.DoorCounts.{DoorCounts}
use Rattle.cm_turn.specs.Passes.{PassView}
use Rattle.cm_session.specs.declared.doorway.Accepted.{Accepted}
use Rattle.cm_session.specs.declared.doorway.Accepting.{Accepting}
use Rattle.cm_session.specs.declared.doorway.Accepting.TheVariants as came
use Rattle.cm_session.specs.declared.doorway.Opening.{Opening}

-- whether an accept gave a link
abbrev pub is_link : Accepted → Bool
is_link e = elim e.came [ came.Link ↦ true | came.Closed ↦ false | came.Failed ↦ false ]

-- whether an accept told that no further link comes
abbrev pub is_closing : Accepted → Bool
is_closing e = elim e.came [ came.Link ↦ false | came.Closed ↦ true | came.Failed ↦ false ]

-- whether an accept told that the door failed
abbrev pub is_failure : Accepted → Bool
is_failure e = elim e.came [ came.Link ↦ false | came.Closed ↦ false | came.Failed ↦ true ]

-- how many of these accepts gave a link
abbrev pub links_of : List Accepted → ℕ
links_of entries = length (filter is_link entries)

-- how many of these accepts told that no further link comes
abbrev pub closings_of : List Accepted → ℕ
closings_of entries = length (filter is_closing entries)

-- how many of these accepts told that the door failed
abbrev pub failures_of : List Accepted → ℕ
failures_of entries = length (filter is_failure entries)

-- the door's counts rose as these accepts say: by one for each link, and its faults and closings where
-- one was told
pub record IsCounted (first now : DoorCounts) (entries : List Accepted) : Type 0 where
  pub links : now.links ≡ first.links + links_of entries
  pub faults_stay : first.faults ≤ now.faults
  pub faults : 0 < failures_of entries → Rose first.faults now.faults
  pub sound : failures_of entries ≡ 0 → now.faults ≡ first.faults
  pub closings_stay : first.closings ≤ now.closings
  pub closings : 0 < closings_of entries → Rose first.closings now.closings

-- no further accept is due: as many links came as were asked for, or a closing, or a failure
abbrev pub IsDoorDone : ℕ → List Accepted → Type 0
IsDoorDone sessions entries =
    (sessions ≤ links_of entries) ⊎ ((0 < closings_of entries) ⊎ (0 < failures_of entries))

-- what the lock at the door holds, as contracts see it: the door, the accepts that were made at it,
-- and how it was opened
pub record DoorwayView (D : Type 0) : Type 0 where
  pub door : D
  pub entries : List Accepted
  pub opening : Opening

-- the pass by which a worker takes its turns at the door
abbrev pub DoorPass : Type 0
DoorPass = PassView Accepted Opening

-- what an accept came to, without the link itself
abbrev pub came_of : {L : Type 0} → Accept L → Accepting
came_of (accept.Link l) = came.Link
came_of accept.Closed = came.Closed
came_of accept.Failed = came.Failed

-- what a turn of this worker adds to the entries: one for an accept, or nothing where none is due
abbrev pub TurnedBy : {L : Type 0} → ℕ → ℕ → List Accepted → List Accepted → Option (Accept L) → Type 0
TurnedBy worker sessions old new (Some a) = new ≡ old ++ record { worker = worker; came = came_of a } ∷ []
TurnedBy worker sessions old new None = (new ≡ old) × IsDoorDone sessions old

-- the fact P holds of the link that a turn gave, if it gave one
abbrev pub OnGiven : {L : Type 0} → Option (Accept L) → (L → Type 0) → Type 0
OnGiven (Some a) P = OnLink a P
OnGiven None P = ⊤

-- how many links were asked for at a door
abbrev pub sessions_in : Option Opening → ℕ
sessions_in None = 0
sessions_in (Some o) = o.sessions

-- how many links were asked for at the door of a pass
abbrev pub sessions_of : DoorPass → ℕ
sessions_of p = sessions_in p.frame

-- the same pass at a later time: of the same lock, the same opening and the same worker
pub record IsLater (p q : DoorPass) : Type 0 where
  pub lock : q.lock ≡ p.lock
  pub frame : q.frame ≡ p.frame
  pub caller : q.caller ≡ p.caller

-- the accepts that one turn of this worker adds: one, or none where no accept was due
abbrev pub accepted_by : {L : Type 0} → ℕ → Option (Accept L) → List Accepted
accepted_by w (Some a) = record { worker = w; came = came_of a } ∷ []
accepted_by w None = []

-- one turn at the door: it adds the worker's accept to the pass's own entries, or tells that no accept
-- is due any more
pub record TakesTurn {L : Type 0} (p q : DoorPass) (turned : Option (Accept L)) : Type 0 where
  pub same : IsLater p q
  pub made : q.mine ≡ p.mine ++ accepted_by p.caller turned
  pub few : links_of q.mine ≤ sessions_of q
  pub over : turned ≡ None → IsDoorDone (sessions_of q) q.seen
