-- Promised.
-- What goes with an instance that stops: its children in collections, or, where its collection runs each
-- child once, it itself.
use Rattle.std.specs.Prelude.{ℕ, List, [], ◌∷◌, Bool, true, false, not, ◌&&◌, ◌==◌, Option, Some, None}
use Rattle.std.specs.Prelude.{map, filter, option_and_then, if◌then◌else◌}
use Rattle.std.specs.Option.{option_map_or}
use Rattle.cm_decl.specs.declared.decl.Decl.{Decl}
use Rattle.cm_decl.specs.declared.rows.Durability.{Durability}
use Rattle.cm_decl.specs.declared.rows.Durability.TheVariants.{Transient, SingleRun}
use Rattle.cm_world.specs.declared.row.Row.{Row}
use Rattle.cm_world.specs.declared.action.Outcome.{Outcome}
use Rattle.cm_world.specs.declared.action.Outcome.TheVariants as outcome
use Rattle.cm_world.specs.declared.reply.Reply.{Reply}
use Rattle.cm_world.specs.declared.reply.Reply.TheVariants.{Reaping}
use Rattle.cm_world.specs.Rows.{row_of, decl_of, is_closed, has_parent}
use Rattle.cm_world.specs.Create.{collection_of}
use Rattle.cm_world.specs.End.{set_doomed}
use Rattle.cm_world.specs.Marks.{is_dynamic}

-- ---- instances that run once

-- whether a collection of this durability runs each child once, and then removes it
abbrev pub is_single_run : Durability → Bool
is_single_run SingleRun = true
is_single_run Transient = false

-- whether the declaration's collection of this name runs each child once
abbrev pub has_single_run : Decl → List ℕ → Bool
has_single_run d coll = option_map_or (λ c. is_single_run c.durability) (collection_of d coll) false

-- the name of the collection that a row is in, if it is in one
abbrev pub coll_of : Row → Option (List ℕ)
coll_of r = option_and_then (λ c. c.coll) r.name

-- the declaration of a row's parent, if that is resolved
abbrev pub decl_above : List Row → Row → Option Decl
decl_above rows r = option_and_then (decl_of rows) r.parent

-- whether a row in this collection runs once, by the declaration of its parent; a row in none doesn't
abbrev pub is_once_by : Option Decl → Option (List ℕ) → Bool
is_once_by (Some d) (Some coll) = has_single_run d coll
is_once_by _ _ = false

-- whether a row lives in a collection that runs each child once
abbrev pub runs_once : List Row → ℕ → Bool
runs_once rows i = option_map_or (λ r. is_once_by (decl_above rows r) (coll_of r)) (row_of rows i) false

-- ---- expiring

-- whether a row goes with row i, which stops: nothing does where i is being shut down; row i itself where it
-- runs once; else each of its children in a collection
abbrev pub goes_with : List Row → ℕ → Row → Bool
goes_with rows i r =
    if is_closed rows i then false
    else if runs_once rows i then r.inc == i
    else has_parent i r && is_dynamic r

-- the rows after row i has stopped: what goes with it is doomed
abbrev pub expired : ℕ → List Row → List Row
expired i rows = map (λ r. if goes_with rows i r && not r.doomed then set_doomed r else r) rows

-- whether an action that ended so has stopped its row; the gate may have stopped or killed it
abbrev pub is_stopped : Outcome → Bool
is_stopped outcome.Stopped = true
is_stopped outcome.Killed = true
is_stopped _ = false

-- the rows after an action at row i had this outcome; nothing expires unless it stopped the row
abbrev pub expired_by : Outcome → ℕ → List Row → List Row
expired_by o i rows = if is_stopped o then expired i rows else rows

-- ---- what is left to be removed

-- the incarnations of a row's doomed children
abbrev pub doomed_children : List Row → ℕ → List ℕ
doomed_children rows i = map (λ r. r.inc) (filter (λ r. has_parent i r && r.doomed) rows)

-- what a reap names for its caller to destroy: the row itself where it is doomed, else its doomed
-- children; nothing where it doesn't live
abbrev pub reaped : List Row → ℕ → List ℕ
reaped rows i =
    elim (row_of rows i) as (λ _. List ℕ) [
      | None ↦ []
      | Some r ↦ if r.doomed then i ∷ [] else doomed_children rows i
    ]

-- the reply to a reap, which asks what is left to be destroyed
abbrev pub reap_reply : List Row → ℕ → Reply
reap_reply rows i = Reaping (reaped rows i)
