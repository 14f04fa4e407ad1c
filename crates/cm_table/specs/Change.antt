-- Inside.
-- The changes of rows in a table. A table keeps the rows of a realm tree in slots, with indexes.
use Rattle.std.specs.Prelude.{ℕ, ◌+◌, ◌-◌, [], ◌∷◌, ◌++◌, None, length}
use Rattle.cm_decl.specs.Valid.{IsValid}
use Rattle.cm_world.specs.declared.row.Row.{Row}
use Rattle.cm_world.specs.declared.action.Outcome.{Outcome}
use Rattle.cm_world.specs.declared.action.Outcome.TheVariants as outcome
use Rattle.cm_world.specs.declared.action.Finish.{Finish}
use Rattle.cm_world.specs.declared.action.Finish.TheVariants as finish
use Rattle.cm_world.specs.End.{changed, set_on, set_pending, set_closing, set_doomed, set_shut, set_decl}
use Rattle.cm_world.specs.End.{end_row, rows_by, added_by}
use Rattle.cm_table.specs.declared.change.Change.{Change}
use Rattle.cm_table.specs.declared.change.Change.TheVariants.{On, Pending, Closing, Doomed, Shut, End}
use Rattle.cm_table.specs.declared.change.Change.TheVariants.{Resolve}
use Rattle.cm_table.specs.Ready.{Ready}
use Rattle.cm_table.specs.Tree.{Tree}

-- a row after this change
abbrev pub change_row : Change → Row → Row
change_row (On on) r = set_on on r
change_row (Pending pending) r = set_pending pending r
change_row Closing r = set_closing r
change_row Doomed r = set_doomed r
change_row Shut r = set_shut r
change_row (End o) r = end_row o r
change_row (Resolve absolute d) r = set_decl absolute d (set_pending None r)

-- a declaration that the change brings is valid
abbrev pub IsSafe : Change → Type 0
IsSafe (Resolve absolute d) = IsValid d
IsSafe _ = Unit {0}

-- the change puts no mark at its row, so nothing below it has to be told
abbrev pub IsSparing : Change → Type 0
IsSparing Closing = ⊥
IsSparing Doomed = ⊥
IsSparing _ = Unit {0}

-- the tree with one row changed
abbrev pub with_changed : ℕ → (Row → Row) → Tree → Tree
with_changed i change t = record t { rows = changed i change t.rows }

-- the next incarnation after an end of an action with this outcome
abbrev pub next_by : ℕ → Finish → Outcome → ℕ
next_by next end o = next + added_by end o

-- the tree after row i was resolved to this declaration, whose children fit
abbrev pub resolved : ℕ → Ready → Tree → Tree
resolved i ready t = record t {
  rows = rows_by i t.next_inc (finish.Resolved ready.absolute ready.decl) outcome.Resolved t.rows;
  next_inc = t.next_inc + length ready.decl.children;
  spare = t.spare - 1;
}

-- the tree with one more row, which gets the next incarnation
abbrev pub with_row : Row → Tree → Tree
with_row r t = record t { rows = t.rows ++ r ∷ []; next_inc = t.next_inc + 1 }
