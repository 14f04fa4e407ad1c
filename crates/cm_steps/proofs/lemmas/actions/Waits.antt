-- What a begin, an exit and a pick wait for.
use Rattle.std.proofs.Common.{ℕ}
use Rattle.cm_world.specs.declared.action.ActKind.{ActKind}
use Rattle.cm_world.specs.World.{World}
use Rattle.cm_laws.specs.Tasks.{IsTasked}
use Rattle.cm_steps.specs.Answers.{AnswersBegin, AnswersExit, AnswersPick, BeginsOrWaits, ExitsBy, PicksOrWaits}
use Rattle.cm_steps.specs.declared.replies.beginning.BeginAnswer.{BeginAnswer}
use Rattle.cm_steps.specs.declared.replies.beginning.BeginAnswer.TheVariants as begin
use Rattle.cm_steps.specs.declared.replies.showing.ExitAnswer.{ExitAnswer}
use Rattle.cm_steps.specs.declared.replies.showing.ExitAnswer.TheVariants as exit
use Rattle.cm_steps.specs.declared.replies.picking.PickAnswer.{PickAnswer}
use Rattle.cm_steps.specs.declared.replies.picking.PickAnswer.TheVariants as pick

-- Where rows and actions agree, a begin with an answer right for the rows comes to that answer.
pub begins_by : (w : World) (kind : ActKind) (i : ℕ) (answer : BeginAnswer) → IsTasked w.rows w.acts → AnswersBegin w.rows w.next_action kind i answer → BeginsOrWaits w kind i answer
begins_by w kind i (begin.Busy a) tasked it =
    record { unanswered = it.0; at = it.1; pending = tasked.acts_of i a it.1.kind it.1.row it.1.lives it.1.pending }
begins_by w kind i (begin.Quiet r) tasked it = it
begins_by w kind i (begin.Joins a) tasked it = it
begins_by w kind i (begin.Begins work) tasked it = it

-- Where rows and actions agree, an exit with an answer right for the rows comes to that answer.
pub exits_by : (w : World) (i : ℕ) (answer : ExitAnswer) → IsTasked w.rows w.acts → AnswersExit w.rows i answer → ExitsBy w i answer
exits_by w i (exit.Busy a) tasked it =
    record { unanswered = it.0; at = it.1; pending = tasked.acts_of i a it.1.kind it.1.row it.1.lives it.1.pending }
exits_by w i (exit.Quiet r) tasked it = it
exits_by w i (exit.Leaves m) tasked it = it

-- Where rows and actions agree, a pick with an answer right for the rows comes to that answer.
pub picks_by : (w : World) (target : ℕ) (answer : PickAnswer) → IsTasked w.rows w.acts → AnswersPick w.rows w.next_action target answer → PicksOrWaits w target answer
picks_by w target (pick.Busy a) tasked it =
    let b = it.blocked in
    record { undone = it.undone; stuck = it.stuck; blocked = b; pending = tasked.acts_of b.inc a b.kind b.row b.lives b.pending }
picks_by w target pick.Done tasked it = it
picks_by w target (pick.Shuts i) tasked it = it
picks_by w target (pick.Stops work) tasked it = it
