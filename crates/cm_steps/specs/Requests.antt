-- Inside.
-- What is asked of a realm, as an event, and what its step comes to, whatever that is.
use Rattle.std.specs.Prelude.{◌≡◌, ℕ, Result, Err, IsTrue, IfOk, IfErr, OnOk, OnErr}
use Rattle.cm_world.specs.declared.event.Event.{Event}
use Rattle.cm_world.specs.declared.event.Event.TheVariants as event
use Rattle.cm_world.specs.declared.reply.Reply.{Reply}
use Rattle.cm_world.specs.Create.{child_with}
use Rattle.cm_world.specs.Step.{may_close, may_purge}
use Rattle.cm_world.specs.World.{World}
use Rattle.cm_laws.specs.Story.{Story, AddsEntry, world_of}
use Rattle.cm_steps.specs.declared.nostep.NoStep.{NoStep}
use Rattle.cm_steps.specs.declared.nostep.NoStep.TheVariants as nostep
use Rattle.cm_steps.specs.declared.request.Request.{Request}
use Rattle.cm_steps.specs.declared.request.Request.TheVariants as request
use Rattle.cm_steps.specs.declared.request.EventRef.{EventRef}
use Rattle.cm_steps.specs.declared.request.EventRef.TheVariants as lent
use Rattle.cm_steps.specs.Needs.{need}
use Rattle.cm_steps.specs.Steps.{RealmHasRoom, LacksRoom, RefusesStep}
use Rattle.cm_steps.specs.Steps.{WaitsToBegin, WaitsToExit, WaitsToPick}

-- ---- what is asked

-- the event by which this request is made of a row
abbrev pub event_for : Request → ℕ → Event
event_for (request.Begin kind) = λ i. event.Begin kind i
event_for (request.Create coll name url gives) = λ i.
    event.Create i (child_with coll.now name.now url.now gives.now)
event_for (request.Mark doom) = λ i. event.Mark doom i
event_for (request.Route path) = λ i. event.Route i path.now
event_for (request.OpenUse path) = λ i. event.OpenUse i path.now
event_for (request.OpenExposed name) = λ i. event.OpenExposed i name.now
event_for (request.List coll) = λ i. event.Listing i coll.now
event_for request.Show = event.Show
event_for request.Survey = event.Survey
event_for request.Exited = event.Exited
event_for (request.Tail from) = λ i. event.Tail i from

-- the event that is asked for; who asks has only lent its data
abbrev pub event_of : EventRef → Event
event_of (lent.Ask r i) = event_for r i
event_of (lent.Find m) = event.Find m.now
event_of (lent.Pick t) = event.Pick t
event_of (lent.Purge i) = event.Purge i
event_of (lent.Reap i) = event.Reap i

-- ---- its step

-- what the tree has to allow before such an event may be made
abbrev pub TreeAllows : World → Event → Type 0
TreeAllows w (event.Pick t) = IsTrue (may_close w.rows t)
TreeAllows w (event.Purge i) = IsTrue (may_purge w.rows i)
TreeAllows w _ = Unit {0}

-- an event has to wait for this action, which is pending in its way; only begins, picks and exits ever
-- wait
abbrev pub EventWaitsFor : World → Event → ℕ → Type 0
EventWaitsFor w (event.Begin kind i) = WaitsToBegin w kind i
EventWaitsFor w (event.Pick t) = WaitsToPick w t
EventWaitsFor w (event.Exited i) = WaitsToExit w i
EventWaitsFor w _ = λ a. ⊥

-- why an event is refused: it has to wait, there is no room for what it needs, or memory ran out
abbrev pub RefusesEvent : Story → Event → NoStep → Type 0
RefusesEvent s e = RefusesStep s (need e) (EventWaitsFor (world_of s) e)

-- a step: the event has its entry, for which there was room; or the realm is as before, and the refusal
-- is a true one. Without room it is always that the history is full
pub record Steps (old new : Story) (caller : ℕ) (e : Event) (result : Result Reply NoStep) : Type 0 where
  pub step : IfOk result (λ reply. AddsEntry old new caller e reply)
  pub room : OnOk result (RealmHasRoom old (need e))
  pub full : LacksRoom old (need e) → result ≡ Err nostep.HistoryFull
  pub refused : IfErr result (RefusesEvent old e)
  pub err : OnErr result (new ≡ old)
