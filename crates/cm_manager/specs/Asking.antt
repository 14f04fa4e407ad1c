-- Inside.
-- What one turn of a caller gives: the entry of its event, or why there is none.
use Rattle.std.specs.Prelude.{◌≡◌, ℕ, List, [], ◌∷◌, ◌++◌, Bool, true, false, Option, Some, None, Result, Ok}
use Rattle.std.specs.Prelude.{Err, IsTrue}
use Rattle.cm_turn.specs.History.{StartsWith}
use Rattle.cm_world.specs.declared.action.Outcome.{Outcome}
use Rattle.cm_world.specs.declared.event.Event.{Event}
use Rattle.cm_world.specs.declared.event.Event.TheVariants as event
use Rattle.cm_world.specs.declared.frame.Frame.{Frame}
use Rattle.cm_world.specs.declared.reply.Entry.{Entry}
use Rattle.cm_world.specs.declared.reply.Reply.{Reply}
use Rattle.cm_world.specs.declared.reply.Reply.TheVariants as reply
use Rattle.cm_world.specs.declared.answer.Refusal.{Refusal}
use Rattle.cm_world.specs.declared.answer.Refusal.TheVariants as refusal
use Rattle.cm_world.specs.World.{World, start}
use Rattle.cm_world.specs.Legal.{Legal}
use Rattle.cm_laws.specs.Story.{Story, AddsEntry, entry_of}
use Rattle.cm_laws.specs.Shutdowns.{IsLeaving, IsMarked}
use Rattle.cm_laws.specs.ShutdownsInside.{IsShutBelow}
use Rattle.cm_steps.specs.Requests.{TreeAllows}
use Rattle.cm_steps.specs.declared.nostep.NoStep.{NoStep}
use Rattle.cm_steps.specs.declared.nostep.NoStep.TheVariants as nostep
use Rattle.cm_manager.specs.Turns.{IsLaterHistory, AddsOneEntry, AddsWithinRoom, EndsWithoutEntry}
use Rattle.cm_manager.specs.Turns.{world_after}
use Rattle.cm_manager.specs.Contract.{RealmPass}

-- ---- passes

-- what a realm is made with that has nothing, for where no pass tells it
abbrev pub no_frame : Frame
no_frame = record { root = []; builtins = []; limits = record { rows = 0; entries = 0 } }

-- what a realm was made with, if it is told
abbrev pub frame_in : Option Frame → Frame
frame_in (Some f) = f
frame_in None = no_frame

-- what the realm of a pass was made with; every pass tells it
abbrev pub frame_of : RealmPass → Frame
frame_of p = frame_in p.frame

-- ---- one event at a realm

-- whether an event is one that a call asks for, which may get more than one kind of reply
abbrev pub is_asked : Event → Bool
is_asked (event.Find m) = true
is_asked (event.Begin kind i) = true
is_asked (event.Create p child) = true
is_asked (event.Mark doom i) = true
is_asked (event.Pick t) = true
is_asked (event.Purge i) = true
is_asked (event.Route i path) = true
is_asked (event.OpenUse i path) = true
is_asked (event.OpenExposed i name) = true
is_asked (event.Listing i coll) = true
is_asked (event.Show i) = true
is_asked (event.Survey i) = true
is_asked (event.Exited i) = true
is_asked (event.Reap i) = true
is_asked _ = false

-- whether an event may come at any time and begins no action, as every one does but begins, picks and
-- purges
abbrev pub is_plain : Event → Bool
is_plain (event.Begin kind i) = false
is_plain (event.Pick t) = false
is_plain (event.Purge i) = false
is_plain _ = true

-- what a caller has to have seen before it makes an event: that the target of a pick is leaving; that
-- what it purges is marked to be destroyed and shut with all below it
abbrev pub IsDue : World → Event → Type 0
IsDue w (event.Pick t) = IsLeaving w t
IsDue w (event.Purge i) = IsMarked true w i × IsShutBelow w i
IsDue w _ = Unit {0}

-- what a caller has seen of it stays true, whatever other callers do
abbrev pub DueStays : Type 0
DueStays =
    (f : Frame) (e : Event) (seen found : List Entry) → Legal (start f) found → StartsWith found seen
    → IsDue (world_after f seen) e → IsDue (world_after f found) e

-- where a caller has seen it, the tree allows the event
abbrev pub DueIsOpen : Type 0
DueIsOpen = (w : World) (e : Event) → IsDue w e → TreeAllows w e

-- an await at the realm: a caller that joined the action has its outcome; or there is none yet, and
-- the realm is as before
abbrev pub AwaitsBy : Story → Story → ℕ → ℕ → Option Outcome → Type 0
AwaitsBy old new c a (Some o) = AddsEntry old new c (event.Await a) (reply.Ended o)
AwaitsBy old new c a None = new ≡ old

-- ---- one turn

-- what a refused step means for a call: one that meets another action goes on, and all others end
abbrev pub IsCallRefusal : Frame → ℕ → List Entry → Event → List Entry → NoStep → Type 0
IsCallRefusal f c old e new (nostep.Busy a) = IsLaterHistory c old new
IsCallRefusal f c old e new nostep.HistoryFull = EndsWithoutEntry f c old e new refusal.HistoryFull
IsCallRefusal f c old e new nostep.Memory = EndsWithoutEntry f c old e new refusal.Memory

-- one turn with this event: its entry is the caller's newest, or there is none
abbrev pub Turned : Event → RealmPass → RealmPass → Result Reply NoStep → Type 0
Turned e old new (Ok r) =
    AddsWithinRoom (frame_of old) old.caller old.seen e r new.seen
    × (new.mine ≡ old.mine ++ entry_of old.caller e r ∷ [])
Turned e old new (Err x) = IsCallRefusal (frame_of old) old.caller old.seen e new.seen x
    × (new.mine ≡ old.mine)

-- turns until the event has its entry, or the call ends
abbrev pub RecordsEvent : Event → RealmPass → RealmPass → Result Reply Refusal → Type 0
RecordsEvent e old new (Ok r) =
    AddsWithinRoom (frame_of old) old.caller old.seen e r new.seen
    × (new.mine ≡ old.mine ++ entry_of old.caller e r ∷ [])
RecordsEvent e old new (Err x) = EndsWithoutEntry (frame_of old) old.caller old.seen e new.seen x
    × (new.mine ≡ old.mine)

-- turns until a row is purged, now or before, or the call ends
abbrev pub Purged : ℕ → RealmPass → RealmPass → Option Refusal → Type 0
Purged i old new None = (r : Reply) × RecordsEvent (event.Purge i) old new (Ok r)
Purged i old new (Some x) = RecordsEvent (event.Purge i) old new (Err x)

-- one turn that adds the entry of this event with this outcome, for which room was kept
pub record RecordsOutcome (old new : RealmPass) (e : Event) (o : Outcome) : Type 0 where
  pub makes : AddsOneEntry old.caller old.seen e (reply.Ended o) new.seen
  pub mine : new.mine ≡ old.mine ++ entry_of old.caller e (reply.Ended o) ∷ []

-- one turn that awaits an action: it adds the entry with the outcome, or finds that there is none yet
abbrev pub Awaited : ℕ → RealmPass → RealmPass → Option Outcome → Type 0
Awaited a old new (Some o) = RecordsOutcome old new (event.Await a) o
Awaited a old new None = IsLaterHistory old.caller old.seen new.seen × (new.mine ≡ old.mine)
