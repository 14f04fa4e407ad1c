-- Inside.
-- The runs of calls by what they ask of the instance that their target names.
use Rattle.std.specs.Prelude.{ℕ, Bool, true, false, Option, Result}
use Rattle.cm_world.specs.declared.answer.Answer.{Answer}
use Rattle.cm_world.specs.declared.answer.Answer.TheVariants as answer
use Rattle.cm_world.specs.declared.answer.Refusal.{Refusal}
use Rattle.cm_world.specs.declared.frame.Frame.{Frame}
use Rattle.cm_world.specs.declared.reply.Reply.{Reply}
use Rattle.cm_steps.specs.declared.request.Request.{Request}
use Rattle.cm_steps.specs.declared.request.Request.TheVariants as request
use Rattle.cm_steps.specs.Requests.{event_for}
use Rattle.cm_manager.specs.Calls.{CallWay, Nothing, CallsEventThen, OnceCreated, SweptLeft}
use Rattle.cm_manager.specs.Calls.{CallsAction, ComesToAnswer}
use Rattle.cm_manager.specs.Streams.{Streams}
use Rattle.cm_manager.specs.Shutdowns.{Shuts, Destroys}
use Rattle.cm_answers.specs.AnswersInside.{answer_by}

-- what follows the reply to a request: a start after a create, a sweep after an exit, else nothing
abbrev pub FollowsBy : Frame → ℕ → Request → ℕ → Reply → CallWay (Option Refusal)
FollowsBy f c (request.Create coll name url gives) = OnceCreated f c
FollowsBy f c request.Exited = SweptLeft f c
FollowsBy f c _ = λ i r. Nothing

-- the run of a request to an instance, with what follows its reply; `request` of `parts.rt` promises it
abbrev pub Requested : Frame → ℕ → Request → ℕ → CallWay (Result Answer Refusal)
Requested f c r = CallsEventThen f c (event_for r) (FollowsBy f c r)

-- whether a call is made by this event alone, which is made again until a reply decides it, with what
-- follows the reply
abbrev pub is_single : Request → Bool
is_single (request.Begin kind) = false
is_single (request.Mark doom) = false
is_single (request.Tail from) = false
is_single _ = true

-- the run of a call that marks an instance, to be destroyed or to be shut down, with the answer
abbrev pub CallsMark : Frame → ℕ → Bool → ℕ → CallWay (Result Answer Refusal)
CallsMark f c false = λ i. ComesToAnswer answer.Shut (Shuts f c false i)
CallsMark f c true = λ i. ComesToAnswer answer.Destroyed (Destroys f c i)

-- the run of a call that begins with this request of an instance, with the answer; what `calls.rt`
-- promises of any request
abbrev pub AnswersTo : Frame → ℕ → Request → ℕ → CallWay (Result Answer Refusal)
AnswersTo f c (request.Begin k) = CallsAction f c k (answer_by k)
AnswersTo f c (request.Mark doom) = CallsMark f c doom
AnswersTo f c (request.Tail from) = Streams f c from
AnswersTo f c r = Requested f c r
