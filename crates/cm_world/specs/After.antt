-- Promised.
-- The world that an entry leaves.
-- ---- actions
use Rattle.std.specs.Prelude.{ℕ, ◌+◌, List, [], ◌∷◌, ◌++◌, Bool, false, not, ◌&&◌, Option}
use Rattle.std.specs.Prelude.{Some, None, filter, if◌then◌else◌}
use Rattle.std.specs.List.{list_any}
use Rattle.cm_world.specs.declared.row.Row.{Row}
use Rattle.cm_world.specs.declared.action.Act.{Act}
use Rattle.cm_world.specs.declared.action.Join.{Join}
use Rattle.cm_world.specs.declared.action.ActKind.{ActKind}
use Rattle.cm_world.specs.declared.action.ActKind.TheVariants.{Stop}
use Rattle.cm_world.specs.declared.action.Outcome.{Outcome}
use Rattle.cm_world.specs.declared.action.Finish.{Finish}
use Rattle.cm_world.specs.declared.reply.Reply.{Reply}
use Rattle.cm_world.specs.declared.reply.Reply.TheVariants as reply
use Rattle.cm_world.specs.declared.reply.Entry.{Entry}
use Rattle.cm_world.specs.declared.event.Event.{Event}
use Rattle.cm_world.specs.declared.event.Event.TheVariants.{Begin, End, Await, Create, Mark, Pick, Purge}
use Rattle.cm_world.specs.declared.event.Event.TheVariants.{Exited}
use Rattle.cm_world.specs.Edits.{drop_first}
use Rattle.cm_world.specs.Rows.{is_below, has_doomed}
use Rattle.cm_world.specs.World.{World, act_of}
use Rattle.cm_world.specs.End.{changed, set_pending, set_on, set_closing, set_doomed, set_shut, rows_by}
use Rattle.cm_world.specs.End.{added_by, ended}
use Rattle.cm_world.specs.Create.{created_row}
use Rattle.cm_world.specs.Expiring.{expired, expired_by}
use Rattle.cm_world.specs.Step.{is_join}

-- the record of an action that was just begun: its number, its kind, its row and its beginner; it has
-- no outcome yet
abbrev pub new_act : ℕ → ActKind → ℕ → ℕ → Act
new_act action kind i caller = record { action = action; kind = kind; inc = i; by = caller; outcome = None }

-- the world in which an action begins at a row: the row is pending, and the next free number is taken
abbrev pub with_action : World → ℕ → ActKind → ℕ → World
with_action w caller kind i = record w {
  rows = changed i (set_pending (Some (kind, w.next_action))) w.rows;
  next_action = w.next_action + 1;
  acts = w.acts ++ new_act w.next_action kind i caller ∷ [];
}

-- the world behind the end of an action, whose record is given where the number was ever given out.
-- The record names the row that changes; where the end stops that row, what expires with it is doomed
abbrev pub with_end_of : World → ℕ → Finish → Outcome → Option Act → World
with_end_of w a finish o None = w
with_end_of w a finish o (Some x) = record w {
  rows = expired_by o x.inc (rows_by x.inc w.next_inc finish o w.rows);
  next_inc = w.next_inc + added_by finish o;
  acts = ended a o w.acts;
}

-- the world behind the end of the action with this number
abbrev pub with_end : World → ℕ → Finish → Outcome → World
with_end w a finish o = with_end_of w a finish o (act_of w.acts a)

-- ---- joins

-- the joins with one more, which stands there once however often it is made
abbrev pub joined : ℕ → ℕ → List Join → List Join
joined caller action joins =
    if list_any (is_join caller action) joins then joins
    else joins ++ record { caller = caller; action = action } ∷ []

-- the joins without this caller's join of the action, which was awaited
abbrev pub unjoined : ℕ → ℕ → List Join → List Join
unjoined caller action joins = drop_first (is_join caller action) joins

-- the world with these joins, all else as before
abbrev pub with_joins : World → List Join → World
with_joins w joins = record w { joins = joins }

-- ---- rows

-- the world with these rows, all else as before
abbrev pub with_rows : World → List Row → World
with_rows w rows = record w { rows = rows }

-- the world with one more row, which stands last and takes the next incarnation
abbrev pub with_row : World → Row → World
with_row w r = record w { rows = w.rows ++ r ∷ []; next_inc = w.next_inc + 1 }

-- the rows that are left when a row goes with all below it
abbrev pub others_than : List Row → ℕ → List Row
others_than rows top = filter (λ r. not (is_below rows top r.inc)) rows

-- ---- entries

-- what an entry changes in the world, but for the count of entries; an event whose reply only tells
-- something changes nothing
abbrev pub moved : World → ℕ → Event → Reply → World
moved w caller (Begin kind i) (reply.Begun work) = with_action w caller kind i
moved w caller (Begin kind i) (reply.Joined a) = with_joins w (joined caller a w.joins)
moved w caller (End a finish) (reply.Ended o) = with_end w a finish o
moved w caller (Await a) (reply.Ended o) = with_joins w (unjoined caller a w.joins)
moved w caller (Create p child) (reply.Created i) =
    with_row w (created_row i p child.coll child.name child.url child.gives)
moved w caller (Mark doom i) reply.Marked =
    with_rows w (changed i (if doom then set_doomed else set_closing) w.rows)
moved w caller (Pick t) (reply.Stopping work) = with_action w caller Stop work.inc
moved w caller (Pick t) (reply.ShutDown i) = with_rows w (changed i set_shut w.rows)
moved w caller (Purge i) (reply.Purged lost) = with_rows w (others_than w.rows i)
moved w caller (Exited i) (reply.Left m) = with_rows w (expired i (changed i (set_on false) w.rows))
moved w caller event r = w

-- the world with one more entry counted
abbrev pub counted : World → World
counted w = record w { entries = w.entries + 1 }

-- the world that an entry leaves: what its event and reply change, and one more entry
unfoldable pub after : World → Entry → World
after w e = counted (moved w e.caller e.event e.reply)

-- whether this entry is the one that dooms a row: it isn't doomed before, and is afterwards
abbrev pub dooms : World → Entry → ℕ → Bool
dooms w e i = not (has_doomed w.rows i) && has_doomed (after w e).rows i
