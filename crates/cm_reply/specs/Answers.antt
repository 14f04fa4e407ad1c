-- Promised.
-- How the answers to commands are written. Lines after the first begin with two spaces, and no line
-- feed comes after the last.
use Rattle.std.specs.Prelude.{ℕ, List, [], ◌++◌, length, codes, decimal, not, Option, Some, None, Result, Ok}
use Rattle.std.specs.Prelude.{Err}
use Rattle.cm_names.specs.Child.{in_collection}
use Rattle.cm_names.specs.Moniker.{moniker_text}
use Rattle.cm_world.specs.declared.event.Target.{Target}
use Rattle.cm_world.specs.declared.route.Route.{Route}
use Rattle.cm_world.specs.declared.answer.Refusal.{Refusal}
use Rattle.cm_world.specs.declared.answer.Checked.{Checked}
use Rattle.cm_world.specs.declared.answer.Answer.{Answer}
use Rattle.cm_world.specs.declared.answer.Answer.TheVariants as answer
use Rattle.cm_command.specs.declared.command.Command.{Command}
use Rattle.cm_command.specs.declared.command.Command.TheVariants as command
use Rattle.cm_command.specs.Written.{target_text}
use Rattle.cm_reply.specs.Lists.{TextBytes, further_lines, when}
use Rattle.cm_reply.specs.Routes.{place_text, route_text}
use Rattle.cm_reply.specs.States.{happening_text, incarnation_text, look_text, survey_text, kid_text}
use Rattle.cm_reply.specs.Refusals.{refusal_text}

-- the instance that a command is for, as it names it
abbrev pub target_of : Command → Target
target_of (command.Resolve target) = target
target_of (command.Start target) = target
target_of (command.Stop target) = target
target_of (command.Shutdown target) = target
target_of (command.Create parent coll name url gives) = parent
target_of (command.Destroy target) = target
target_of (command.ListChildren target coll) = target
target_of (command.OpenUse target path) = target
target_of (command.OpenExposed target name) = target
target_of (command.RouteOf target path) = target
target_of (command.Doctor target) = target
target_of (command.Show target) = target
target_of (command.Survey target) = target
target_of (command.Exited target) = target
target_of (command.Events target from) = target

-- the child that a command creates, with its collection; empty for all other commands
abbrev pub child_of : Command → TextBytes
child_of (command.Create parent coll name url gives) = in_collection (Some coll) name
child_of _ = []

-- the collection whose children a command lists; empty for all other commands
abbrev pub collection_of : Command → TextBytes
collection_of (command.ListChildren target coll) = coll
collection_of _ = []

-- a word, and after it the instance as the command names it
abbrev pub of_target : TextBytes → Command → TextBytes
of_target word c = word ++ (codes " " ++ target_text (target_of c))

-- the number of the action that brought something about, or `already` where it was so before
abbrev pub done_by : Option ℕ → TextBytes
done_by None = codes " already"
done_by (Some action) = codes " action " ++ decimal action

-- what `doctor` says of a use: its route, or why it has none
abbrev pub found_text : Result Route Refusal → TextBytes
found_text (Ok route) = codes "route " ++ route_text route
found_text (Err refusal) = refusal_text refusal

-- what `doctor` says of one use, by its path; or that the instance isn't resolved
abbrev pub checked_words : Option TextBytes → Result Route Refusal → TextBytes
checked_words None found = codes "unresolved"
checked_words (Some path) found = path ++ (codes " " ++ found_text found)

-- a line of `doctor`: the instance, and what is said of it or of one of its uses
abbrev pub checked_text : Checked → TextBytes
checked_text c = moniker_text c.moniker ++ (codes " " ++ checked_words c.path c.result)

-- a space, how many items there are, and each item on a line of its own
abbrev pub counted : {A : Type 0} → (A → TextBytes) → List A → TextBytes
counted text items = codes " " ++ (decimal (length items) ++ further_lines text items)

-- the text of an answer to this command
abbrev pub answer_text : Command → Answer → TextBytes
answer_text c (answer.Resolved action) = of_target (codes "resolved") c ++ done_by action
answer_text c (answer.Started action) = of_target (codes "started") c ++ done_by action
answer_text c (answer.Stopped action forced) =
    of_target (codes "stopped") c ++ (when forced (codes " by-force") ++ done_by action)
answer_text c answer.Shut = of_target (codes "shut") c
answer_text c (answer.Created inc) =
    of_target (codes "created") c ++ (codes " " ++ (child_of c ++ incarnation_text inc))
answer_text c answer.Destroyed = of_target (codes "destroyed") c
answer_text c (answer.Children kids) =
    of_target (codes "children") c ++ (codes " " ++ (collection_of c ++ counted kid_text kids))
answer_text c (answer.Opened route) = codes "opened " ++ place_text route
answer_text c (answer.Routed route) = codes "route " ++ route_text route
answer_text c (answer.Shown look) =
    of_target (codes "shown") c
    ++ (incarnation_text look.inc ++ (codes " url " ++ (look.url ++ (codes " " ++ look_text look))))
answer_text c (answer.Surveyed rows) = of_target (codes "survey") c ++ counted survey_text rows
answer_text c (answer.Doctored lines) = of_target (codes "doctor") c ++ counted checked_text lines
answer_text c (answer.Left was_on) = of_target (codes "exited") c ++ when (not was_on) (codes " already")
answer_text c (answer.Streamed next told) =
    of_target (codes "events") c
    ++ (codes " " ++ (decimal (length told) ++ (codes " next " ++ (decimal next
    ++ further_lines happening_text told))))

-- the text that answers a command: its answer, or why it was refused
abbrev pub reply_text : Command → Result Answer Refusal → TextBytes
reply_text c (Ok answer) = answer_text c answer
reply_text c (Err refusal) = refusal_text refusal
