-- Promised.
-- The end of an action: which ends fit it, and what they change.
use Rattle.std.specs.Prelude.{ℕ, ◌+◌, List, [], ◌∷◌, ◌++◌, Bool, true, false, Option, Some, None, length}
use Rattle.std.specs.Prelude.{if◌then◌else◌, ◌==◌}
use Rattle.cm_decl.specs.declared.decl.Decl.{Decl}
use Rattle.cm_decl.specs.declared.rows.Child.{Child}
use Rattle.cm_decl.specs.Graph.{static_name}
use Rattle.cm_decl.specs.Valid.{IsValid}
use Rattle.cm_world.specs.declared.row.Row.{Row}
use Rattle.cm_world.specs.declared.action.Act.{Act}
use Rattle.cm_world.specs.declared.action.ActKind.{ActKind}
use Rattle.cm_world.specs.declared.action.ActKind.TheVariants.{Resolve, Start, Stop}
use Rattle.cm_world.specs.declared.action.Outcome.{Outcome}
use Rattle.cm_world.specs.declared.action.Outcome.TheVariants as outcome
use Rattle.cm_world.specs.declared.action.Finish.{Finish}
use Rattle.cm_world.specs.declared.action.Finish.TheVariants.{Resolved, Other}
use Rattle.cm_world.specs.Edits.{edit_first}
use Rattle.cm_world.specs.World.{new_row, rows_fit}

-- ---- which ends are possible

-- whether an action of this kind can end so: which ends a resolve, a start and a stop have
abbrev pub fits_kind : ActKind → Finish → Bool
fits_kind Resolve (Resolved url d) = true
fits_kind Resolve (Other outcome.Absent) = true
fits_kind Resolve (Other outcome.BadUrl) = true
fits_kind Resolve (Other (outcome.Invalid note)) = true
fits_kind Resolve (Other outcome.GateFailed) = true
fits_kind Resolve (Other outcome.NoMemory) = true
fits_kind Start (Other outcome.Started) = true
fits_kind Start (Other outcome.Declined) = true
fits_kind Start (Other outcome.GateFailed) = true
fits_kind Stop (Other outcome.Stopped) = true
fits_kind Stop (Other outcome.Killed) = true
fits_kind _ _ = false

-- a declaration that an end brings is valid
abbrev pub HasValid : Finish → Type 0
HasValid (Resolved url d) = IsValid d
HasValid (Other o) = Unit {0}

-- the outcome of an action that ends so: as its gate told it, but Full where the declaration's
-- children don't fit
abbrev pub outcome_by : ℕ → List Row → ℕ → Finish → Outcome
outcome_by limit rows next_inc (Resolved url d) =
    if rows_fit limit rows next_inc (length d.children) then outcome.Resolved else outcome.Full
outcome_by limit rows next_inc (Other o) = o

-- ---- changes of one row

-- the rows with the one of this incarnation changed
abbrev pub changed : ℕ → (Row → Row) → List Row → List Row
changed i change rows = edit_first (λ r. r.inc == i) change rows

-- the row with this pending action and its number, or with none
abbrev pub set_pending : Option (ActKind × ℕ) → Row → Row
set_pending pending r = record r { pending = pending }

-- the row with its program on or off
abbrev pub set_on : Bool → Row → Row
set_on on r = record r { on = on }

-- the row marked to be shut down
abbrev pub set_closing : Row → Row
set_closing r = record r { closing = true }

-- the row marked to be destroyed; it is to be shut down too
abbrev pub set_doomed : Row → Row
set_doomed r = record r { doomed = true; closing = true }

-- the row shut down, after which nothing starts it again
abbrev pub set_shut : Row → Row
set_shut r = record r { shut = true }

-- the row resolved: with its absolute URL and its declaration
abbrev pub set_decl : List ℕ → Decl → Row → Row
set_decl url d r = record r { absolute = Some url; decl = Some d }

-- the row after an action that brings no declaration ended so: no action is pending there, and a start
-- or a stop has turned it on or off
abbrev pub end_row : Outcome → Row → Row
end_row outcome.Started r = set_on true (set_pending None r)
end_row outcome.Stopped r = set_on false (set_pending None r)
end_row outcome.Killed r = set_on false (set_pending None r)
end_row _ r = set_pending None r

-- ---- what an end leaves

-- the row of a declared child, new and not resolved
abbrev pub child_row : ℕ → ℕ → Child → Row
child_row parent i k = new_row i (Some parent) (Some (static_name k.name)) k.url []

-- the rows of declared children, with the next incarnations in their order
abbrev pub child_rows : ℕ → ℕ → List Child → List Row
child_rows parent next [] = []
child_rows parent next (k ∷ ks) = child_row parent next k ∷ child_rows parent (next + 1) ks

-- the rows after an action at row i ended with this outcome; next is the incarnation of the first row
-- to be added
abbrev pub rows_by : ℕ → ℕ → Finish → Outcome → List Row → List Row
rows_by i next (Other _) o rows = changed i (end_row o) rows
rows_by i next (Resolved url d) outcome.Resolved rows =
    changed i (λ r. set_decl url d (set_pending None r)) rows ++ child_rows i next d.children
rows_by i next (Resolved url d) o rows = changed i (end_row o) rows

-- how many rows such an end adds: the declared children, where they fit
abbrev pub added_by : Finish → Outcome → ℕ
added_by (Other _) o = 0
added_by (Resolved url d) outcome.Resolved = length d.children
added_by (Resolved url d) o = 0

-- the record of an action with its outcome
abbrev pub put_outcome : Outcome → Act → Act
put_outcome o x = record x { outcome = Some o }

-- the records of the actions after the one of this number ended
abbrev pub ended : ℕ → Outcome → List Act → List Act
ended a o acts = edit_first (λ x. x.action == a) (put_outcome o) acts
