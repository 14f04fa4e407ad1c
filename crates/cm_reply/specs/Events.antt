-- Promised.
-- How events are written in a journal.
use Rattle.std.specs.Prelude.{◌++◌, List, flat_map, codes, decimal, Bool, true, false}
use Rattle.cm_names.specs.Moniker.{moniker_text}
use Rattle.cm_decl.specs.declared.rows.Give.{Give}
use Rattle.cm_read.specs.Writing.{decl_text}
use Rattle.cm_world.specs.declared.action.Finish.{Finish}
use Rattle.cm_world.specs.declared.action.Finish.TheVariants as finish
use Rattle.cm_world.specs.declared.event.Event.{Event}
use Rattle.cm_world.specs.declared.event.Event.TheVariants as event
use Rattle.cm_command.specs.Written.{spaced, give_words}
use Rattle.cm_reply.specs.Lists.{TextBytes}
use Rattle.cm_reply.specs.States.{act_word, outcome_text}

-- the offers that a new child is given, as the command `create` writes them, each word after a space
abbrev pub groups_text : List Give → TextBytes
groups_text gives = flat_map spaced (flat_map give_words gives)

-- what a mark is for: to destroy (true), or only to shut down
abbrev pub mark_word : Bool → TextBytes
mark_word true = codes "doomed"
mark_word false = codes "closing"

-- how an action ended, as its beginner told it
abbrev pub finish_text : Finish → TextBytes
finish_text (finish.Resolved url decl) = codes "resolved " ++ (url ++ (codes " " ++ decl_text decl))
finish_text (finish.Other outcome) = outcome_text outcome

-- an event: its word, and what it is about
abbrev pub event_text : Event → TextBytes
event_text (event.Find moniker) = codes "find " ++ moniker_text moniker
event_text (event.Begin kind inc) = codes "begin " ++ (act_word kind ++ (codes " " ++ decimal inc))
event_text (event.End action finish) = codes "end " ++ (decimal action ++ (codes " " ++ finish_text finish))
event_text (event.Await action) = codes "await " ++ decimal action
event_text (event.Create inc child) =
    codes "create " ++ (decimal inc ++ (codes " " ++ (child.coll ++ (codes " " ++ (child.name ++ (codes " "
    ++ (child.url ++ groups_text child.gives)))))))
event_text (event.Mark doomed inc) = codes "mark " ++ (mark_word doomed ++ (codes " " ++ decimal inc))
event_text (event.Pick inc) = codes "pick " ++ decimal inc
event_text (event.Purge inc) = codes "purge " ++ decimal inc
event_text (event.Route inc path) = codes "route " ++ (decimal inc ++ (codes " " ++ path))
event_text (event.OpenUse inc path) = codes "open " ++ (decimal inc ++ (codes " " ++ path))
event_text (event.OpenExposed inc name) = codes "open-exposed " ++ (decimal inc ++ (codes " " ++ name))
event_text (event.Listing inc coll) = codes "list " ++ (decimal inc ++ (codes " " ++ coll))
event_text (event.Show inc) = codes "show " ++ decimal inc
event_text (event.Survey inc) = codes "survey " ++ decimal inc
event_text (event.Exited inc) = codes "exited " ++ decimal inc
event_text (event.Tail inc from) = codes "tail " ++ (decimal inc ++ (codes " " ++ decimal from))
event_text (event.Reap inc) = codes "reap " ++ decimal inc
