use Rattle.std.proofs.Common.{false}
use Rattle.cm_world.specs.declared.answer.Answer.TheVariants as answer
use Rattle.cm_manager.specs.Calls.{ComesToAnswer}
use Rattle.cm_manager.specs.Shutdowns.{Destroys, Shuts}
use Rattle.cm_manager.proofs.lemmas.callers.CallerRuns.{runs_as}
use Rattle.cm_manager.proofs.caller.Caller.mark_row.Goals as goal

pub returns-then-doom : goal.returns-then-doom
returns-then-doom g c =
    rw c.if-doom.true
    (runs_as (λ f n x y. Destroys f n c.args.inc x y c.destroy_row.result) (λ f n x y. ComesToAnswer answer.Destroyed (Destroys f n c.args.inc) x y c.unless_ended.result) _ _
    (λ f n x y way. (c.destroy_row.result, way, c.unless_ended.ensures)) c.destroy_row.ensures)

pub returns-else-doom : goal.returns-else-doom
returns-else-doom g c =
    rw c.if-doom.false
    (runs_as (λ f n x y. Shuts f n false c.args.inc x y c.shut_row.result) (λ f n x y. ComesToAnswer answer.Shut (Shuts f n false c.args.inc) x y c.unless_ended-else-doom.result) _ _
    (λ f n x y way. (c.shut_row.result, way, c.unless_ended-else-doom.ensures)) c.shut_row.ensures.runs)
