-- Inside.
-- The command that makes a request of an instance, and what follows the reply.
use Rattle.std.specs.Prelude.{ℕ, Bool, true, false, Option, Some, None, Result}
use Rattle.cm_world.specs.declared.action.ActKind.TheVariants as kind
use Rattle.cm_world.specs.declared.answer.Refusal.{Refusal}
use Rattle.cm_world.specs.declared.event.Target.{Target}
use Rattle.cm_world.specs.declared.reply.Reply.{Reply}
use Rattle.cm_command.specs.declared.command.Command.{Command}
use Rattle.cm_command.specs.declared.command.Command.TheVariants as command
use Rattle.cm_steps.specs.declared.request.Request.{Request}
use Rattle.cm_steps.specs.declared.request.Request.TheVariants as request
use Rattle.cm_answers.specs.declared.question.Follow.{Follow}
use Rattle.cm_answers.specs.declared.question.Follow.TheVariants as follow
use Rattle.cm_answers.specs.AnswersInside.{created_in, has_left}

-- the command whose call begins with this request of this instance; only `doctor` asks many
abbrev pub asked_by : Target → Request → Command
asked_by t (request.Begin kind.Resolve) = command.Resolve t
asked_by t (request.Begin kind.Start) = command.Start t
asked_by t (request.Begin kind.Stop) = command.Stop t
asked_by t (request.Create coll name url gives) = command.Create t coll.now name.now url.now gives.now
asked_by t (request.Mark false) = command.Shutdown t
asked_by t (request.Mark true) = command.Destroy t
asked_by t (request.Route path) = command.RouteOf t path.now
asked_by t (request.OpenUse path) = command.OpenUse t path.now
asked_by t (request.OpenExposed name) = command.OpenExposed t name.now
asked_by t (request.List coll) = command.ListChildren t coll.now
asked_by t request.Show = command.Show t
asked_by t request.Survey = command.Survey t
asked_by t request.Exited = command.Exited t
asked_by t (request.Tail from) = command.Events t from

-- what follows a create: the start of the child that it made, if it made one
abbrev pub started_for : Option ℕ → Follow
started_for (Some i) = follow.Start i
started_for None = follow.Nothing

-- what follows an exit: where it found the program on, what goes with the row is removed
abbrev pub swept_for : ℕ → Bool → Follow
swept_for i true = follow.Sweep i
swept_for i false = follow.Nothing

-- what follows the reply to a request of row i
abbrev pub follow_of : Request → ℕ → Result Reply Refusal → Follow
follow_of (request.Create coll name url gives) i went = started_for (created_in went)
follow_of request.Exited i went = swept_for i (has_left went)
follow_of _ i went = follow.Nothing
