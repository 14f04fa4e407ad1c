-- Inside.
-- Histories that worked examples of actions speak of. They go on where the root, the logger 1
-- and the client 2 are resolved and off, and three actions have ended.
use Rattle.std.specs.Prelude.{ℕ, List, [], ◌∷◌, Some}
use Rattle.cm_names.specs.declared.dependency.Dependency.TheVariants.{Strong}
use Rattle.cm_names.specs.declared.availability.Availability.TheVariants.{Required}
use Rattle.cm_decl.specs.declared.rows.Give.{Give}
use Rattle.cm_decl.specs.declared.origin.Origin.TheVariants.{Own}
use Rattle.cm_decl.specs.Examples.{give}
use Rattle.cm_world.specs.declared.action.ActKind.TheVariants.{Start, Stop}
use Rattle.cm_world.specs.declared.action.Outcome.TheVariants as outcome
use Rattle.cm_world.specs.declared.action.Finish.TheVariants.{Other}
use Rattle.cm_world.specs.declared.action.Work.{Work}
use Rattle.cm_world.specs.declared.report.Kid.{Kid}
use Rattle.cm_world.specs.declared.event.Event.TheVariants.{Begin, End, Await, OpenUse, Exited}
use Rattle.cm_world.specs.declared.reply.Reply.TheVariants as reply
use Rattle.cm_world.specs.declared.reply.Entry.{Entry}
use Rattle.cm_world.specs.Examples.{c, l, s, x, s_path, entry, entry_of, at_child, resolving, whole_route}

-- the work of a start of the logger, under this action's number
abbrev pub starting_logger : ℕ → Work
starting_logger action = record (resolving action 1 (at_child l) [] (76 ∷ [])) { runner = Some (101 ∷ []) }

-- the work of a start of the client, under this action's number
abbrev pub starting_client : ℕ → Work
starting_client action = record (resolving action 2 (at_child c) [] (67 ∷ [])) { runner = Some (101 ∷ []) }

-- caller 0 begins a start of the logger, and caller 1 joins it
abbrev pub joined_entries : List Entry
joined_entries =
    entry (Begin Start 1) (reply.Begun (starting_logger 4))
    ∷ entry_of 1 (Begin Start 1) (reply.Joined 4)
    ∷ []

-- the start that they share fails: the beginner is told when it ends, the other when it awaits it
abbrev pub failed_entries : List Entry
failed_entries =
    entry (End 4 (Other outcome.GateFailed)) (reply.Ended outcome.GateFailed)
    ∷ entry_of 1 (Await 4) (reply.Ended outcome.GateFailed)
    ∷ []

-- the client runs and opens what the logger provides, which has to be started first; then the
-- logger ends by itself
abbrev pub opened_entries : List Entry
opened_entries =
    entry (Begin Start 2) (reply.Begun (starting_client 4))
    ∷ entry (End 4 (Other outcome.Started)) (reply.Ended outcome.Started)
    ∷ entry (OpenUse 2 s_path) (reply.NeedStart 1)
    ∷ entry (Begin Start 1) (reply.Begun (starting_logger 5))
    ∷ entry (End 5 (Other outcome.Started)) (reply.Ended outcome.Started)
    ∷ entry (OpenUse 2 s_path) (reply.Opened whole_route)
    ∷ entry (Exited 1) (reply.Left (at_child l))
    ∷ entry (Exited 1) reply.Already
    ∷ entry (Begin Stop 1) reply.Already
    ∷ []

-- ---- a child that was created

-- the child x with incarnation 1, as a listing of its collection tells it
abbrev pub x_kid : Kid
x_kid = record { name = x; inc = 1 }

-- offers that a new child in a collection is given when it is created
abbrev pub given : List Give
given = give s Own Strong Required ∷ []
