-- Promised.
-- The run of each call: what it adds to the history, and its answer. `f` is what the realm was made
-- with, `c` the caller, and h₀ and h₁ are the histories before and after.
use Rattle.std.specs.Prelude.{◌≡◌, ◌⊎◌, ℕ, List, false, Option, None, Result, Ok, Err}
use Rattle.cm_world.specs.declared.frame.Frame.{Frame}
use Rattle.cm_world.specs.declared.action.ActKind.{ActKind}
use Rattle.cm_world.specs.declared.action.ActKind.TheVariants as kind
use Rattle.cm_world.specs.declared.event.Event.{Event}
use Rattle.cm_world.specs.declared.event.Event.TheVariants as event
use Rattle.cm_world.specs.declared.event.Target.{Target}
use Rattle.cm_world.specs.declared.event.Target.TheVariants as target
use Rattle.cm_world.specs.declared.reply.Entry.{Entry}
use Rattle.cm_world.specs.declared.reply.Reply.{Reply}
use Rattle.cm_world.specs.declared.reply.Reply.TheVariants as reply
use Rattle.cm_world.specs.declared.answer.Answer.{Answer}
use Rattle.cm_world.specs.declared.answer.Answer.TheVariants as answer
use Rattle.cm_world.specs.declared.answer.Refusal.{Refusal}
use Rattle.cm_world.specs.declared.answer.Refusal.TheVariants as refusal
use Rattle.cm_world.specs.Create.{child_with}
use Rattle.cm_command.specs.declared.command.Command.{Command}
use Rattle.cm_command.specs.declared.command.Command.TheVariants as command
use Rattle.cm_answers.specs.declared.acted.ActionResult.{ActionResult}
use Rattle.cm_manager.specs.Runs.{RunsAction, RetriesEvent, StartsSingleRun}
use Rattle.cm_manager.specs.Sweeps.{Sweeps}
use Rattle.cm_manager.specs.Doctor.{Doctors}
use Rattle.cm_manager.specs.Streams.{Streams}
use Rattle.cm_answers.specs.Answers.{answer_unless, unless_ended, decided_by, found_by, resolved_answer}
use Rattle.cm_answers.specs.Answers.{started_answer, stopped_answer}
use Rattle.cm_manager.specs.Shutdowns.{Shuts, Destroys}

-- a run of a part of a call: from which history to which later one it goes, with what it comes to
abbrev pub CallWay : Type 0 → Type 1
CallWay A = List Entry → List Entry → A → Type 0

-- how the row of a target is found: an incarnation names it, and a moniker is looked up
abbrev pub Finding : Frame → ℕ → Target → CallWay (Result ℕ Refusal)
Finding f c (target.Inc n) h₀ h₁ row = (h₁ ≡ h₀) × (row ≡ Ok n)
Finding f c (target.Named m) h₀ h₁ row =
    (went : Result Reply Refusal) × RetriesEvent f c (event.Find m) h₀ h₁ went × (row ≡ found_by went)

-- the call goes on with the row, or ends where none was found
abbrev pub GoesOnWithRow : Result ℕ Refusal → (ℕ → CallWay (Result Answer Refusal))
    → CallWay (Result Answer Refusal)
GoesOnWithRow (Ok i) call h₀ h₁ a = call i h₀ h₁ a
GoesOnWithRow (Err x) call h₀ h₁ a = (h₁ ≡ h₀) × (a ≡ Err x)

-- a call on a target: its row is found, and the call goes on with it
pub record OnRow (f : Frame) (c : ℕ) (t : Target) (call : ℕ → CallWay (Result Answer Refusal))
    (h₀ h₂ : List Entry) (a : Result Answer Refusal) : Type 0 where
  pub row : Result ℕ Refusal
  pub h₁ : List Entry
  pub finding : Finding f c t h₀ h₁ row
  pub behind : GoesOnWithRow row call h₁ h₂ a

-- a call that makes one event, which decides its answer
abbrev pub CallsEvent : Frame → ℕ → (ℕ → Event) → ℕ → CallWay (Result Answer Refusal)
CallsEvent f c e i h₀ h₁ a = (went : Result Reply Refusal) × RetriesEvent f c (e i) h₀ h₁ went
    × (a ≡ decided_by went)

-- nothing more is done
abbrev pub Nothing : CallWay (Option Refusal)
Nothing h₀ h₁ end = (h₁ ≡ h₀) × (end ≡ None)

-- what follows the reply that decided an event; nothing, where the call ended before
abbrev pub Then : (Reply → CallWay (Option Refusal)) → Result Reply Refusal → CallWay (Option Refusal)
Then follow (Ok r) = follow r
Then follow (Err x) = Nothing

-- a call that makes one event, and what follows its reply; that changes the answer only where it ends
-- the call
pub record CallsEventThen (f : Frame) (c : ℕ) (e : ℕ → Event) (follow : ℕ → Reply
    → CallWay (Option Refusal)) (i : ℕ)
    (h₀ h₂ : List Entry) (a : Result Answer Refusal) : Type 0 where
  pub went : Result Reply Refusal
  pub h₁ : List Entry
  pub end : Option Refusal
  pub tries : RetriesEvent f c (e i) h₀ h₁ went
  pub follows : Then (follow i) went h₁ h₂ end
  pub answer : a ≡ unless_ended end (decided_by went)

-- what follows a create: the new child is started, where its collection runs it once
abbrev pub OnceCreated : Frame → ℕ → ℕ → Reply → CallWay (Option Refusal)
OnceCreated f c p (reply.Created i) = StartsSingleRun f c i
OnceCreated f c p _ = Nothing

-- what follows an exit: what goes with the row is removed
abbrev pub SweptLeft : Frame → ℕ → ℕ → Reply → CallWay (Option Refusal)
SweptLeft f c i (reply.Left m) = Sweeps f c i
SweptLeft f c i _ = Nothing

-- a call that does one action, which decides its answer
abbrev pub CallsAction : Frame → ℕ → ActKind → (Result ActionResult Refusal → Result Answer Refusal) → ℕ
    → CallWay (Result Answer Refusal)
CallsAction f c k value i h₀ h₁ a = (went : Result ActionResult Refusal) × RunsAction f c k i h₀ h₁ went
    × (a ≡ value went)

-- a call that comes to this answer, unless something ends it before
abbrev pub ComesToAnswer : Answer → CallWay (Option Refusal) → CallWay (Result Answer Refusal)
ComesToAnswer answer way h₀ h₁ a = (end : Option Refusal) × way h₀ h₁ end × (a ≡ answer_unless answer end)

-- the run of the call that a command names, with its answer
abbrev pub Calls : Frame → ℕ → Command → CallWay (Result Answer Refusal)
Calls f c (command.Resolve t) = OnRow f c t (CallsAction f c kind.Resolve resolved_answer)
Calls f c (command.Start t) = OnRow f c t (CallsAction f c kind.Start started_answer)
Calls f c (command.Stop t) = OnRow f c t (CallsAction f c kind.Stop stopped_answer)
Calls f c (command.Shutdown t) = OnRow f c t (λ i. ComesToAnswer answer.Shut (Shuts f c false i))
Calls f c (command.Create t coll name url gives) =
    OnRow f c t (CallsEventThen f c (λ p. event.Create p (child_with coll name url gives)) (OnceCreated f c))
Calls f c (command.Destroy t) = OnRow f c t (λ i. ComesToAnswer answer.Destroyed (Destroys f c i))
Calls f c (command.ListChildren t coll) = OnRow f c t (CallsEvent f c (λ i. event.Listing i coll))
Calls f c (command.OpenUse t path) = OnRow f c t (CallsEvent f c (λ i. event.OpenUse i path))
Calls f c (command.OpenExposed t name) = OnRow f c t (CallsEvent f c (λ i. event.OpenExposed i name))
Calls f c (command.RouteOf t path) = OnRow f c t (CallsEvent f c (λ i. event.Route i path))
Calls f c (command.Doctor t) = OnRow f c t (Doctors f c)
Calls f c (command.Show t) = OnRow f c t (CallsEvent f c event.Show)
Calls f c (command.Survey t) = OnRow f c t (CallsEvent f c event.Survey)
Calls f c (command.Exited t) = OnRow f c t (CallsEventThen f c event.Exited (SweptLeft f c))
Calls f c (command.Events t from) = OnRow f c t (Streams f c from)

-- the run of a call, whose answer may be lost where memory ran out
abbrev pub RunsOrLoses : Frame → ℕ → Command → CallWay (Result Answer Refusal)
RunsOrLoses f c cmd h₀ h₁ a =
    Calls f c cmd h₀ h₁ a ⊎ ((a ≡ Err refusal.Memory) × ((b : Result Answer Refusal) × Calls f c cmd h₀ h₁ b))
