-- Inside.
-- Which actions a part of a history tells of that earlier entries began, so that their works have to
-- be looked for.
use Rattle.std.specs.Prelude.{◌≡◌, ◌⊎◌, ℕ, ◌==◌, Bool, false, cond, not, ◌&&◌, ◌||◌, List, [], ◌∷◌, ◌++◌}
use Rattle.std.specs.Prelude.{Option, Some, None, is_some}
use Rattle.cm_world.specs.declared.action.Work.{Work}
use Rattle.cm_world.specs.declared.event.Event.{Event}
use Rattle.cm_world.specs.declared.event.Event.TheVariants as event
use Rattle.cm_world.specs.declared.reply.Reply.{Reply}
use Rattle.cm_world.specs.declared.reply.Reply.TheVariants as reply
use Rattle.cm_world.specs.declared.reply.Entry.{Entry}
use Rattle.cm_events.specs.Stream.{begun_by, work_of, kind_of}

-- no entry begins an action that an earlier one began
abbrev pub BeginsOnce : List Entry → Type 0
BeginsOnce es =
    (prefix rest : List Entry) (e : Entry) (work : Work) → es ≡ prefix ++ e ∷ rest
    → begun_by e.reply ≡ Some work → work_of prefix work.action ≡ None

-- whether the work of action a is looked for before this entry, by whether the later entries look for
-- it: an end that tells something does, and where the action begins nobody does any more
abbrev pub wants : Reply → Event → ℕ → Bool → Bool
wants (reply.Begun work) e a later = later && not (work.action == a)
wants (reply.Stopping work) e a later = later && not (work.action == a)
wants (reply.Ended o) (event.End b finish) a later = later || (is_some (kind_of o) && b == a)
wants r e a later = later

-- whether these entries tell of action a, and none of them begins it
abbrev pub is_wanted : List Entry → ℕ → Bool
is_wanted [] a = false
is_wanted (e ∷ es) a = wants e.reply e.event a (is_wanted es a)

-- the work was found where there is one; or it wasn't, and isn't wanted
abbrev pub HasFound : Option Work → Option Work → Bool → Type 0
HasFound found whole wanted = (found ≡ whole) ⊎ ((found ≡ None) × (wanted ≡ false))

-- one entry of the search: whether the action is still looked for before it, and what is found of it
-- by then
abbrev pub TakesWork : Option Work → Bool → Option Work → Bool → Option Work → Type 0
TakesWork None sought found still now = (still ≡ sought) × (now ≡ found)
TakesWork (Some work) sought found still now = (still ≡ false) × (now ≡ cond sought (Some work) found)
