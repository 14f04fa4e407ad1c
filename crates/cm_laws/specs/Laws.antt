-- Inside.
-- Laws of begins: who may end what was begun, and who may await it. Calls rest on them between their
-- turns.
use Rattle.std.specs.Prelude.{◌≡◌, ℕ, List, [], filter, ◌==◌, IsTrue}
use Rattle.std.specs.List.{list_any}
use Rattle.cm_world.specs.declared.action.ActKind.{ActKind}
use Rattle.cm_world.specs.declared.action.Finish.{Finish}
use Rattle.cm_world.specs.declared.action.Work.{Work}
use Rattle.cm_world.specs.declared.event.Event.TheVariants.{Begin}
use Rattle.cm_world.specs.declared.reply.Reply.TheVariants as reply
use Rattle.cm_world.specs.declared.reply.Entry.{Entry}
use Rattle.cm_world.specs.World.{World}
use Rattle.cm_world.specs.End.{fits_kind, HasValid}
use Rattle.cm_world.specs.Step.{MayEnd, is_join}
use Rattle.cm_world.specs.Legal.{Legal, replay}
use Rattle.cm_laws.specs.Story.{Story, world_of, AddsEntry}

-- no entry among these is the caller's
abbrev pub AreOthers : ℕ → List Entry → Type 0
AreOthers caller es = filter (λ e. e.caller == caller) es ≡ []

-- the caller has joined the action and hasn't awaited it since
abbrev pub IsJoined : World → ℕ → ℕ → Type 0
IsJoined w caller a = IsTrue (list_any (is_join caller a) w.joins)

-- who began an action may end it next, by any end that fits it
abbrev pub BeginnersMayEnd : Type 0
BeginnersMayEnd =
    (old new : Story) (caller i : ℕ) (kind : ActKind) (work : Work) (finish : Finish)
    → AddsEntry old new caller (Begin kind i) (reply.Begun work) → IsTrue (fits_kind kind finish)
    → HasValid finish → MayEnd (world_of new).acts caller work.action finish

-- who was answered that it joined an action has joined it
abbrev pub JoinersAreJoined : Type 0
JoinersAreJoined =
    (old new : Story) (caller i a : ℕ) (kind : ActKind)
    → AddsEntry old new caller (Begin kind i) (reply.Joined a)
    → IsJoined (world_of new) caller a

-- what other callers do doesn't take a caller its right to end its action
abbrev pub OthersLeaveEnds : Type 0
OthersLeaveEnds =
    (w : World) (es : List Entry) (caller a : ℕ) (finish : Finish) → Legal w es → AreOthers caller es
    → MayEnd w.acts caller a finish → MayEnd (replay w es).acts caller a finish

-- what other callers do leaves the join of this one
abbrev pub OthersLeaveJoins : Type 0
OthersLeaveJoins =
    (w : World) (es : List Entry) (caller a : ℕ) → AreOthers caller es → IsJoined w caller a
    → IsJoined (replay w es) caller a
