use Rattle.cm_answers.specs.AnswersInside.{answer_by}
use Rattle.cm_manager.specs.Calls.{CallsAction}
use Rattle.cm_manager.specs.Questions.{AnswersTo, Requested}
use Rattle.cm_manager.specs.Runs.{RunsAction}
use Rattle.cm_manager.specs.Streams.{Streams}
use Rattle.cm_manager.proofs.lemmas.calling.Calling.{single_is, single_answers}
use Rattle.cm_manager.proofs.lemmas.callers.CallerRuns.{runs_as, turns_run}
use Rattle.cm_manager.proofs.lemmas.onward.Streaming.{streamed_helps}
use Rattle.cm_manager.proofs.caller.Caller.answer.Goals as goal

pub returns-in-Begin : goal.returns-in-Begin
returns-in-Begin g c =
    rw c.in-Begin.is
    (runs_as (λ f n x y. RunsAction f n c.in-Begin.kind c.args.inc x y c.act.result) (λ f n x y. CallsAction f n c.in-Begin.kind (answer_by c.in-Begin.kind) c.args.inc x y c.acted.result) _ _
    (λ f n x y way. (c.act.result, way, c.acted.ensures)) c.act.ensures)

pub returns-in-Mark : goal.returns-in-Mark
returns-in-Mark g c = rw c.in-Mark.is c.mark_row.ensures

pub returns-in-Tail : goal.returns-in-Tail
returns-in-Tail g c =
    rw c.in-Tail.is
    (turns_run (λ f n x y. Streams f n c.in-Tail.from c.args.inc x y c.events_at.result) _ _ c.events_at.ensures.turns
    (streamed_helps _ _ _ _ _ _ _ c.events_at.ensures.turns.pass c.events_at.ensures.streamed))

pub request-requires : goal.request-requires
request-requires g c = (c.type_bounds.sync-R, single_is c.args.request c.in_default.not-Begin c.in_default.not-Mark c.in_default.not-Tail)

pub returns-in_default : goal.returns-in_default
returns-in_default g c =
    let single = single_is c.args.request c.in_default.not-Begin c.in_default.not-Mark c.in_default.not-Tail in
    runs_as (λ f n x y. Requested f n c.args.request c.args.inc x y c.request.result) (λ f n x y. AnswersTo f n c.args.request c.args.inc x y c.request.result) _ _
    (λ f n x y way. single_answers f n c.args.request c.args.inc x y c.request.result single way) c.request.ensures
