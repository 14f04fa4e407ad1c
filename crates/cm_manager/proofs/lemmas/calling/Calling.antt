-- How a call is put together of its parts.
use Rattle.std.proofs.Common.{◌≡◌, ◌≢◌, ℕ, List, Bool, true, false, true≢false, Option, None, Result, Ok, Err, IsTrue, refl, sym, ap, subst, ◌∙◌}
use Rattle.cm_world.specs.declared.frame.Frame.{Frame}
use Rattle.cm_world.specs.declared.action.ActKind.{ActKind}
use Rattle.cm_world.specs.declared.action.ActKind.TheVariants as kind
use Rattle.cm_world.specs.declared.event.Event.{Event}
use Rattle.cm_world.specs.declared.event.Event.TheVariants as event
use Rattle.cm_world.specs.declared.event.Target.{Target}
use Rattle.cm_world.specs.declared.reply.Entry.{Entry}
use Rattle.cm_world.specs.declared.reply.Reply.{Reply}
use Rattle.cm_world.specs.declared.answer.Answer.{Answer}
use Rattle.cm_world.specs.declared.answer.Refusal.{Refusal}
use Rattle.cm_steps.specs.declared.request.Request.{Request}
use Rattle.cm_steps.specs.declared.request.Request.TheVariants as request
use Rattle.cm_steps.specs.Requests.{event_for}
use Rattle.cm_manager.specs.Runs.{RetriesEvent}
use Rattle.cm_answers.specs.Answers.{decided_by, unless_ended}
use Rattle.cm_manager.specs.Calls.{GoesOnWithRow, OnRow, Nothing, Then, CallsEvent, CallsEventThen, Calls}
use Rattle.cm_answers.specs.Questions.{asked_by}
use Rattle.cm_manager.specs.Questions.{Requested, AnswersTo, is_single}
use Rattle.cm_manager.specs.Asking.{is_asked, is_plain}

-- ---- a request of one event

-- A request that is no begin, no mark and no tail is a single one.
pub single_is : (r : Request) → ((k : ActKind) → r ≢ request.Begin k) → ((doom : Bool) → r ≢ request.Mark doom) → ((from : ℕ) → r ≢ request.Tail from) → IsTrue (is_single r)
single_is (request.Begin kind) begin mark tail = absurd (begin kind refl)
single_is (request.Mark doom) begin mark tail = absurd (mark doom refl)
single_is (request.Tail from) begin mark tail = absurd (tail from refl)
single_is _ begin mark tail = refl

-- The event of a request that comes to one turn is one that a call asks for.
pub single_asked : (r : Request) (i : ℕ) → IsTrue (is_single r) → IsTrue (is_asked (event_for r i))
single_asked (request.Begin kind) i single = refl
single_asked (request.Mark doom) i single = refl
single_asked (request.Tail from) i single = absurd (true≢false (sym single))
single_asked _ i single = refl

-- The event of a request that comes to one turn may come at any time, and begins no action.
pub single_plain : (r : Request) (i : ℕ) → IsTrue (is_single r) → IsTrue (is_plain (event_for r i))
single_plain (request.Begin kind) i single = absurd (true≢false (sym single))
single_plain _ i single = refl

-- its run is that of its call
pub single_answers : (f : Frame) (c : ℕ) (r : Request) (i : ℕ) (h k : List Entry) (a : Result Answer Refusal) → IsTrue (is_single r) → Requested f c r i h k a → AnswersTo f c r i h k a
single_answers f c (request.Begin kind) i h k a single way = absurd (true≢false (sym single))
single_answers f c (request.Mark doom) i h k a single way = absurd (true≢false (sym single))
single_answers f c (request.Tail from) i h k a single way = absurd (true≢false (sym single))
single_answers f c _ i h k a single way = way

-- ---- requests

-- Where nothing follows a reply, the history stays and no refusal ends the call.
nothing_then : (went : Result Reply Refusal) (h k : List Entry) (end : Option Refusal) → Then (λ r. Nothing) went h k end → (k ≡ h) × (end ≡ None)
nothing_then (Ok r) h k end is = is
nothing_then (Err x) h k end is = is

-- a call with one event, where nothing follows its reply
only_tried : (f : Frame) (c : ℕ) (e : ℕ → Event) (i : ℕ) (h k : List Entry) (a : Result Answer Refusal) → CallsEventThen f c e (λ j r. Nothing) i h k a → CallsEvent f c e i h k a
only_tried f c e i h k a it =
    let none = nothing_then it.went it.h₁ k it.end it.follows in
    (it.went, subst (λ (l : List Entry). RetriesEvent f c (e i) h l it.went) (sym none.0) it.tries, it.answer ∙ ap (λ (o : Option Refusal). unless_ended o (decided_by it.went)) none.1)

-- A call of one event on a row, behind whose reply nothing follows, is a call of that event.
behind_tried : (f : Frame) (c : ℕ) (e : ℕ → Event) (row : Result ℕ Refusal) (h k : List Entry) (a : Result Answer Refusal) → GoesOnWithRow row (CallsEventThen f c e (λ j r. Nothing)) h k a → GoesOnWithRow row (CallsEvent f c e) h k a
behind_tried f c e (Ok i) h k a it = only_tried f c e i h k a it
behind_tried f c e (Err x) h k a it = it

-- A call of one event on a target, behind whose reply nothing follows, is a call of that event.
on_row_tried : (f : Frame) (c : ℕ) (t : Target) (e : ℕ → Event) (x y : List Entry) (a : Result Answer Refusal) → OnRow f c t (CallsEventThen f c e (λ j r. Nothing)) x y a → OnRow f c t (CallsEvent f c e) x y a
on_row_tried f c t e x y a on = record { row = on.row; h₁ = on.h₁; finding = on.finding; behind = behind_tried f c e on.row on.h₁ y a on.behind }

-- a request of a target is the call that its command names
pub request_called : (f : Frame) (c : ℕ) (t : Target) (r : Request) (x y : List Entry) (a : Result Answer Refusal) → OnRow f c t (AnswersTo f c r) x y a → Calls f c (asked_by t r) x y a
request_called f c t (request.Begin kind.Resolve) x y a on = on
request_called f c t (request.Begin kind.Start) x y a on = on
request_called f c t (request.Begin kind.Stop) x y a on = on
request_called f c t (request.Create coll name url gives) x y a on = on
request_called f c t (request.Mark false) x y a on = on
request_called f c t (request.Mark true) x y a on = on
request_called f c t (request.Route path) x y a on = on_row_tried f c t (λ i. event.Route i path.now) x y a on
request_called f c t (request.OpenUse path) x y a on = on_row_tried f c t (λ i. event.OpenUse i path.now) x y a on
request_called f c t (request.OpenExposed name) x y a on = on_row_tried f c t (λ i. event.OpenExposed i name.now) x y a on
request_called f c t (request.List coll) x y a on = on_row_tried f c t (λ i. event.Listing i coll.now) x y a on
request_called f c t request.Show x y a on = on_row_tried f c t event.Show x y a on
request_called f c t request.Survey x y a on = on_row_tried f c t event.Survey x y a on
request_called f c t request.Exited x y a on = on
request_called f c t (request.Tail from) x y a on = on
