use Rattle.std.proofs.lemmas.Result.{err_from_is_err_and}
use Rattle.std.proofs.Common.{Ok, Err, List, subst, sym, ◌∙◌}
use Rattle.cm_world.specs.declared.reply.Entry.{Entry}
use Rattle.cm_world.specs.declared.reply.Reply.{Reply}
use Rattle.cm_steps.specs.Requests.{event_of}
use Rattle.cm_manager.specs.Runs.{RunsAction, RetriesEvent}
use Rattle.cm_manager.specs.Turns.{AddsWithinRoom}
use Rattle.cm_manager.proofs.lemmas.callers.CallerRuns.{asked_runs, cut_event, runs_as, runs_then, loop_on}
use Rattle.cm_manager.proofs.caller.Caller.try_event.Goals as goal

pub loop-init : goal.loop-init
loop-init g c = record { rest = λ t end it. it }

pub returns-in-Decided : goal.returns-in-Decided
returns-in-Decided g c =
    let e = event_of c.args.wish in
    c.loop.invariant.rest _ (Ok c.in-Decided.reply)
    (runs_as (λ f d a b. AddsWithinRoom f d a e c.in_ok-reply.reply b) (λ f d a b. RetriesEvent f d e a b (Ok c.in-Decided.reply)) _ _
    (λ f d a b x. subst (λ (r : Reply). RetriesEvent f d e a b (Ok r)) (sym c.in-Decided.ensures.0) (RetriesEvent.decided x c.in-Decided.ensures.1))
    (asked_runs e c.in_ok-reply.reply _ _ c.requires.asked c.requires.plain c.in_ok-reply.ensures.turns c.in_ok-reply.ensures.asked))

pub returns-in-Some-ending : goal.returns-in-Some-ending
returns-in-Some-ending g c =
    let e = event_of c.args.wish in
    c.loop.invariant.rest _ (Err c.in-Some-ending.refusal)
    (runs_then (λ f d a b. AddsWithinRoom f d a e c.in_ok-reply.reply b) (λ f d a b. RunsAction f d c.in-Action.kind c.in-Action.row a b c.act.result) (λ f d a b. RetriesEvent f d e a b (Err c.in-Some-ending.refusal)) _ _ _
    (λ f d x y z asks acts. RetriesEvent.failed {n = (c.in-Action.kind, c.in-Action.row)} asks c.in-Action.ensures acts (sym c.in-Some-ending.ensures))
    (asked_runs e c.in_ok-reply.reply _ _ c.requires.asked c.requires.plain c.in_ok-reply.ensures.turns c.in_ok-reply.ensures.asked)
    c.act.ensures)

pub loop-preserved : goal.loop-preserved
loop-preserved g c =
    let e = event_of c.args.wish in
    let step = runs_then (λ f d a b. AddsWithinRoom f d a e c.in_ok-reply.reply b) (λ f d a b. RunsAction f d c.in-Action.kind c.in-Action.row a b c.act.result) (λ f d a z. (b : List Entry) × AddsWithinRoom f d a e c.in_ok-reply.reply b × RunsAction f d c.in-Action.kind c.in-Action.row b z c.act.result) _ _ _
    (λ f d x y z asks acts. (y, asks, acts))
    (asked_runs e c.in_ok-reply.reply _ _ c.requires.asked c.requires.plain c.in_ok-reply.ensures.turns c.in_ok-reply.ensures.asked)
    c.act.ensures in
    loop_on _ (λ end f d a b. RetriesEvent f d e a b end) (λ end f d a b. RetriesEvent f d e a b end) (λ end f d a b. RetriesEvent f d e a b end) _ _ _
    (λ f d end a b z s more. RetriesEvent.needs {n = (c.in-Action.kind, c.in-Action.row)} s.1 c.in-Action.ensures s.2 (sym c.ending.ensures ∙ c.in_default.is) more)
    c.loop.invariant step

pub returns-in_err-reply : goal.returns-in_err-reply
returns-in_err-reply g c =
    let p = err_from_is_err_and c.from_residual.result c.from_residual.ensures.1 in
    rw (p.1, p.2)
    (c.loop.invariant.rest _ _ (cut_event (event_of c.args.wish) _ _ _ c.in_err-reply.ensures.turns c.in_err-reply.ensures.asked))
