-- Promised.
-- What a call does between its first turn and its last, as rules. Each tells from which history to
-- which later one it goes, and how it ended.
use Rattle.std.specs.Prelude.{◌≡◌, ℕ, List, [], ◌∷◌, Bool, true, false, ◌||◌, Option, Some, None, Result, Ok}
use Rattle.std.specs.Prelude.{Err, IsTrue, IsFalse}
use Rattle.cm_world.specs.declared.frame.Frame.{Frame}
use Rattle.cm_world.specs.declared.action.ActKind.{ActKind}
use Rattle.cm_world.specs.declared.action.ActKind.TheVariants as kind
use Rattle.cm_world.specs.declared.action.Finish.{Finish}
use Rattle.cm_world.specs.declared.action.Outcome.{Outcome}
use Rattle.cm_world.specs.declared.action.Outcome.TheVariants as outcome
use Rattle.cm_world.specs.declared.action.Work.{Work}
use Rattle.cm_world.specs.declared.event.Event.{Event}
use Rattle.cm_world.specs.declared.event.Event.TheVariants as event
use Rattle.cm_world.specs.declared.reply.Entry.{Entry}
use Rattle.cm_world.specs.declared.reply.Reply.{Reply}
use Rattle.cm_world.specs.declared.reply.Reply.TheVariants as reply
use Rattle.cm_world.specs.declared.answer.Refusal.{Refusal}
use Rattle.cm_answers.specs.declared.acted.ActionResult.{ActionResult}
use Rattle.cm_answers.specs.declared.acted.ActionResult.TheVariants as acted
use Rattle.cm_world.specs.Expiring.{is_stopped, runs_once}
use Rattle.cm_manager.specs.Turns.{IsLaterHistory, AddsOneEntry, AddsWithinRoom, EndsWithoutEntry}
use Rattle.cm_manager.specs.Turns.{world_after}
use Rattle.cm_answers.specs.Answers.{ends_call, ends_eager}
use Rattle.cm_manager.specs.Sweeps.{Sweeps}

-- the action that a reply asks for before its event can be decided, if it does
abbrev pub needed : Reply → Option (ActKind × ℕ)
needed (reply.Need j) = Some (kind.Resolve, j)
needed (reply.NeedStart s) = Some (kind.Start, s)
needed _ = None

-- whether a reply to a begin says that there is nothing to begin
abbrev pub is_quiet : Reply → Bool
is_quiet reply.Already = true
is_quiet (reply.Gone i) = true
is_quiet (reply.Shut i) = true
is_quiet _ = false

-- whether an action has started its row
abbrev pub is_started : Outcome → Bool
is_started outcome.Started = true
is_started _ = false

-- whether something follows an action's end: a start's eager children, or the removal of what goes
-- with a stopped row
abbrev pub is_followed : Outcome → Bool
is_followed o = is_started o || is_stopped o

mutual
  -- an action of this kind on a row, from its begin to what follows its end
  pub data RunsAction (f : Frame) (c : ℕ)
      : ActKind → ℕ → List Entry → List Entry → Result ActionResult Refusal → Type 0 where
    -- it is begun and ended, and nothing follows its end
    ended : {k : ActKind} {i : ℕ} {h₀ h₁ h₂ : List Entry} {w : Work} {finish : Finish} {o : Outcome}
        → AddsWithinRoom f c h₀ (event.Begin k i) (reply.Begun w) h₁
        → AddsOneEntry c h₁ (event.End w.action finish) (reply.Ended o) h₂
        → IsFalse (is_followed o)
        → RunsAction f c k i h₀ h₂ (Ok (acted.Ended k w.action o))
    -- it is begun and ends in Started, and the eager children come after it
    started : {k : ActKind} {i : ℕ} {h₀ h₁ h₂ h₃ : List Entry} {w : Work} {finish : Finish}
        → AddsWithinRoom f c h₀ (event.Begin k i) (reply.Begun w) h₁
        → AddsOneEntry c h₁ (event.End w.action finish) (reply.Ended outcome.Started) h₂
        → StartsEager f c w.eager h₂ h₃ None
        → RunsAction f c k i h₀ h₃ (Ok (acted.Ended k w.action outcome.Started))
    -- and the call ends among them
    started_cut : {k : ActKind} {i : ℕ} {h₀ h₁ h₂ h₃ : List Entry} {w : Work} {finish : Finish} {x : Refusal}
        → AddsWithinRoom f c h₀ (event.Begin k i) (reply.Begun w) h₁
        → AddsOneEntry c h₁ (event.End w.action finish) (reply.Ended outcome.Started) h₂
        → StartsEager f c w.eager h₂ h₃ (Some x)
        → RunsAction f c k i h₀ h₃ (Err x)
    -- it is begun and has stopped the row, and what goes with the row is removed after it
    stopped : {k : ActKind} {i : ℕ} {h₀ h₁ h₂ h₃ : List Entry} {w : Work} {finish : Finish} {o : Outcome}
        → AddsWithinRoom f c h₀ (event.Begin k i) (reply.Begun w) h₁
        → AddsOneEntry c h₁ (event.End w.action finish) (reply.Ended o) h₂
        → IsTrue (is_stopped o)
        → Sweeps f c i h₂ h₃ None
        → RunsAction f c k i h₀ h₃ (Ok (acted.Ended k w.action o))
    -- and the call ends in that
    stopped_cut : {k : ActKind} {i : ℕ} {h₀ h₁ h₂ h₃ : List Entry} {w : Work} {finish : Finish} {o : Outcome}
        {x : Refusal}
        → AddsWithinRoom f c h₀ (event.Begin k i) (reply.Begun w) h₁
        → AddsOneEntry c h₁ (event.End w.action finish) (reply.Ended o) h₂
        → IsTrue (is_stopped o)
        → Sweeps f c i h₂ h₃ (Some x)
        → RunsAction f c k i h₀ h₃ (Err x)
    -- another caller has begun it, and its end is awaited
    joined : {k : ActKind} {i a : ℕ} {h₀ h₁ h₂ : List Entry} {o : Outcome}
        → AddsWithinRoom f c h₀ (event.Begin k i) (reply.Joined a) h₁
        → AddsOneEntry c h₁ (event.Await a) (reply.Ended o) h₂
        → RunsAction f c k i h₀ h₂ (Ok (acted.Ended k a o))
    -- there is nothing to begin
    quiet : {k : ActKind} {i : ℕ} {h₀ h₁ : List Entry} {r : Reply}
        → AddsWithinRoom f c h₀ (event.Begin k i) r h₁
        → IsTrue (is_quiet r)
        → RunsAction f c k i h₀ h₁ (Ok (acted.Quiet r))
    -- a row is resolved first, and then it is tried again
    resolved_first : {k : ActKind} {i j : ℕ} {h₀ h₁ h₂ h₃ : List Entry}
        {went end : Result ActionResult Refusal}
        → AddsWithinRoom f c h₀ (event.Begin k i) (reply.Need j) h₁
        → RunsAction f c kind.Resolve j h₁ h₂ went
        → ends_call went ≡ None
        → RunsAction f c k i h₂ h₃ end
        → RunsAction f c k i h₀ h₃ end
    -- a row was to be resolved first, and that failed or was cut
    not_resolved : {k : ActKind} {i j : ℕ} {h₀ h₁ h₂ : List Entry}
        {went : Result ActionResult Refusal} {x : Refusal}
        → AddsWithinRoom f c h₀ (event.Begin k i) (reply.Need j) h₁
        → RunsAction f c kind.Resolve j h₁ h₂ went
        → ends_call went ≡ Some x
        → RunsAction f c k i h₀ h₂ went
    -- the call ends before it is begun
    cut : {k : ActKind} {i : ℕ} {h₀ h₁ : List Entry} {x : Refusal}
        → EndsWithoutEntry f c h₀ (event.Begin k i) h₁ x
        → RunsAction f c k i h₀ h₁ (Err x)

  -- these rows are started in order, and what ended the call there, if anything did
  pub data StartsEager (f : Frame) (c : ℕ) : List ℕ → List Entry → List Entry → Option Refusal → Type 0 where
    all_done : {h : List Entry} → StartsEager f c [] h h None
    next_one : {e : ℕ} {es : List ℕ} {h₀ h₁ h₂ : List Entry} {went : Result ActionResult Refusal}
        {end : Option Refusal}
        → RunsAction f c kind.Start e h₀ h₁ went
        → ends_eager went ≡ None
        → StartsEager f c es h₁ h₂ end
        → StartsEager f c (e ∷ es) h₀ h₂ end
    cut_at : {e : ℕ} {es : List ℕ} {h₀ h₁ : List Entry} {went : Result ActionResult Refusal} {x : Refusal}
        → RunsAction f c kind.Start e h₀ h₁ went
        → ends_eager went ≡ Some x
        → StartsEager f c (e ∷ es) h₀ h₁ (Some x)

-- an event is made again until a reply decides it; before each time what the reply asks for is done
pub data RetriesEvent (f : Frame) (c : ℕ) : Event → List Entry → List Entry → Result Reply Refusal
    → Type 0 where
  decided : {e : Event} {h₀ h₁ : List Entry} {r : Reply}
      → AddsWithinRoom f c h₀ e r h₁
      → needed r ≡ None
      → RetriesEvent f c e h₀ h₁ (Ok r)
  needs : {e : Event} {h₀ h₁ h₂ h₃ : List Entry} {r : Reply} {n : ActKind
      × ℕ} {went : Result ActionResult Refusal}
      {end : Result Reply Refusal}
      → AddsWithinRoom f c h₀ e r h₁
      → needed r ≡ Some n
      → RunsAction f c n.0 n.1 h₁ h₂ went
      → ends_call went ≡ None
      → RetriesEvent f c e h₂ h₃ end
      → RetriesEvent f c e h₀ h₃ end
  failed : {e : Event} {h₀ h₁ h₂ : List Entry} {r : Reply} {n : ActKind
      × ℕ} {went : Result ActionResult Refusal}
      {x : Refusal}
      → AddsWithinRoom f c h₀ e r h₁
      → needed r ≡ Some n
      → RunsAction f c n.0 n.1 h₁ h₂ went
      → ends_call went ≡ Some x
      → RetriesEvent f c e h₀ h₂ (Err x)
  cut_try : {e : Event} {h₀ h₁ : List Entry} {x : Refusal} → EndsWithoutEntry f c h₀ e h₁ x
      → RetriesEvent f c e h₀ h₁ (Err x)

-- a child that was created is started where it runs once, by the tree when the caller looks; whether
-- the start fails doesn't matter
pub data StartsSingleRun (f : Frame) (c i : ℕ) : List Entry → List Entry → Option Refusal → Type 0 where
  not_once : {h₀ h₁ : List Entry}
      → IsLaterHistory c h₀ h₁
      → IsFalse (runs_once (world_after f h₁).rows i)
      → StartsSingleRun f c i h₀ h₁ None
  once : {h₀ h₁ h₂ : List Entry} {went : Result ActionResult Refusal}
      → IsLaterHistory c h₀ h₁
      → IsTrue (runs_once (world_after f h₁).rows i)
      → RunsAction f c kind.Start i h₁ h₂ went
      → StartsSingleRun f c i h₀ h₂ (ends_eager went)
