-- Inside.
-- What the begin of an action, and a pick, came to in the turns of one caller. `f` is what the realm
-- was made with, `c` the caller, and h₀ and h₁ are the histories before and after.
use Rattle.std.specs.Prelude.{◌≡◌, ◌≢◌, ℕ, List, Option, Some, None, Result, Ok, Err}
use Rattle.std.specs.Prelude.{IsTrue, IsFalse}
use Rattle.cm_world.specs.declared.action.ActKind.{ActKind}
use Rattle.cm_world.specs.declared.action.ActKind.TheVariants as kind
use Rattle.cm_world.specs.declared.action.Finish.{Finish}
use Rattle.cm_world.specs.declared.action.Outcome.{Outcome}
use Rattle.cm_world.specs.declared.action.Outcome.TheVariants as outcome
use Rattle.cm_world.specs.declared.action.Work.{Work}
use Rattle.cm_world.specs.declared.event.Event.TheVariants as event
use Rattle.cm_world.specs.declared.frame.Frame.{Frame}
use Rattle.cm_world.specs.declared.reply.Entry.{Entry}
use Rattle.cm_world.specs.declared.reply.Reply.{Reply}
use Rattle.cm_world.specs.declared.reply.Reply.TheVariants as reply
use Rattle.cm_world.specs.declared.answer.Refusal.{Refusal}
use Rattle.cm_world.specs.Expiring.{is_stopped}
use Rattle.cm_manager.specs.Turns.{AddsOneEntry, AddsWithinRoom, EndsWithoutEntry}
use Rattle.cm_manager.specs.Runs.{RunsAction, StartsEager, is_quiet, is_started, needed}
use Rattle.cm_manager.specs.Sweeps.{Stops}
use Rattle.cm_answers.specs.declared.acted.ActionResult.{ActionResult}
use Rattle.cm_answers.specs.declared.acted.ActionResult.TheVariants as acted
use Rattle.cm_manager.specs.declared.began.Began.{Began}
use Rattle.cm_manager.specs.declared.began.Began.TheVariants as began
use Rattle.cm_manager.specs.declared.began.Launch.{Launch}
use Rattle.cm_manager.specs.declared.began.Launch.TheVariants as launch
use Rattle.cm_manager.specs.declared.began.PickTurn.{PickTurn}
use Rattle.cm_manager.specs.declared.began.PickTurn.TheVariants as picked
use Rattle.cm_manager.specs.declared.began.Demand.{Demand}
use Rattle.cm_manager.specs.declared.began.Demand.TheVariants as demand

-- the caller began the action and ended it; only a start ends in Started, and only a stop has stopped
-- the row
pub record EndsBegun (f : Frame) (c : ℕ) (k : ActKind) (i a : ℕ) (o : Outcome) (eager : List ℕ)
    (h₀ h₂ : List Entry) : Type 0 where
  pub work : Work
  pub finish : Finish
  pub h₁ : List Entry
  pub asks : AddsWithinRoom f c h₀ (event.Begin k i) (reply.Begun work) h₁
  pub makes : AddsOneEntry c h₁ (event.End work.action finish) (reply.Ended o) h₂
  pub action : a ≡ work.action
  pub children : k ≡ kind.Start → eager ≡ work.eager
  pub apart : k ≢ kind.Start → IsFalse (is_started o)
  pub unstopped : k ≢ kind.Stop → IsFalse (is_stopped o)
  pub whole : k ≡ kind.Stop → IsTrue (is_stopped o)

-- the caller joined an action of another and awaited its end
pub record Joins (f : Frame) (c : ℕ) (k : ActKind) (i a : ℕ) (o : Outcome) (h₀ h₂ : List Entry) : Type 0 where
  pub h₁ : List Entry
  pub asks : AddsWithinRoom f c h₀ (event.Begin k i) (reply.Joined a) h₁
  pub makes : AddsOneEntry c h₁ (event.Await a) (reply.Ended o) h₂

-- what a begin came to, with its end, as `begin` of a caller promises it: the action was begun and ended, was
-- joined, had nothing to begin, needs a row resolved first, or the call ended
abbrev pub BeginRun : Frame → ℕ → ActKind → ℕ → Result Began Refusal → List Entry → List Entry → Type 0
BeginRun f c k i (Ok (began.Ended a o eager)) h₀ h₁ = EndsBegun f c k i a o eager h₀ h₁
BeginRun f c k i (Ok (began.Joined a o)) h₀ h₁ = Joins f c k i a o h₀ h₁
BeginRun f c k i (Ok (began.Quiet r)) h₀ h₁ = AddsWithinRoom f c h₀ (event.Begin k i) r h₁
    × IsTrue (is_quiet r)
BeginRun f c k i (Ok (began.Needs j)) h₀ h₁ =
    AddsWithinRoom f c h₀ (event.Begin k i) (reply.Need j) h₁ × (k ≡ kind.Start)
BeginRun f c k i (Err x) h₀ h₁ = EndsWithoutEntry f c h₀ (event.Begin k i) h₁ x

-- what a start came to once its eager children are started: the refusal that ended the call among
-- them, if one did
abbrev pub behind_eager : ℕ → Option Refusal → Result ActionResult Refusal
behind_eager a None = Ok (acted.Ended kind.Start a outcome.Started)
behind_eager a (Some x) = Err x

-- what a start without its eager children came to, as `start_one` of a caller promises it: it is over; or it
-- becomes a whole run together with whatever its eager children come to
abbrev pub StartsBy : Frame → ℕ → ℕ → Launch → List Entry → List Entry → Type 0
StartsBy f c i (launch.Settled went) h₀ h₁ = RunsAction f c kind.Start i h₀ h₁ went
StartsBy f c i (launch.Children a eager) h₀ h₁ =
    (h₂ : List Entry) (end : Option Refusal) → StartsEager f c eager h₁ h₂ end
    → RunsAction f c kind.Start i h₀ h₂ (behind_eager a end)

-- what the begin of a start came to, as `launch_of` tells it: the start as above, or a row to resolve first
abbrev pub LaunchesBy : Frame → ℕ → ℕ → Result Launch ℕ → List Entry → List Entry → Type 0
LaunchesBy f c i (Ok started) h₀ h₁ = StartsBy f c i started h₀ h₁
LaunchesBy f c i (Err j) h₀ h₁ = AddsWithinRoom f c h₀ (event.Begin kind.Start i) (reply.Need j) h₁

-- what one pick came to, with the stop that it asks for, as `pick_one` of a caller promises it: all is done,
-- or the call ended; or it becomes a whole run of stops with whatever later picks come to
abbrev pub PickRun : Frame → ℕ → ℕ → PickTurn → List Entry → List Entry → Type 0
PickRun f c t picked.Done h₀ h₁ = AddsWithinRoom f c h₀ (event.Pick t) reply.Done h₁
PickRun f c t picked.Further h₀ h₁ =
    (h₂ : List Entry) (end : Option Refusal) → Stops f c t h₁ h₂ end → Stops f c t h₀ h₂ end
PickRun f c t (picked.Cut x) h₀ h₁ = EndsWithoutEntry f c h₀ (event.Pick t) h₁ x

-- how a reply is read where an event is tried (`reading`): as asking for an action before its event can be
-- decided, or as the one that decides it
abbrev pub ReadsBy : Reply → Demand → Type 0
ReadsBy r (demand.Action k j) = needed r ≡ Some (k, j)
ReadsBy r (demand.Decided s) = (s ≡ r) × (needed r ≡ None)
