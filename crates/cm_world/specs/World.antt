-- Promised.
-- The realm tree as a whole.
use Rattle.std.specs.Prelude.{ℕ, ◌+◌, ◌-◌, ◌^◌, List, [], ◌∷◌, Bool, false, ◌&&◌, nat_le, ◌==◌, Option, None}
use Rattle.std.specs.Prelude.{find, is_none, length, count_by, option_and_then}
use Rattle.cm_names.specs.declared.child.ChildName.{ChildName}
use Rattle.cm_decl.specs.declared.rows.Give.{Give}
use Rattle.cm_world.specs.declared.row.Row.{Row}
use Rattle.cm_world.specs.declared.action.Act.{Act}
use Rattle.cm_world.specs.declared.action.Join.{Join}
use Rattle.cm_world.specs.declared.action.Outcome.{Outcome}
use Rattle.cm_world.specs.declared.frame.Frame.{Frame}

-- the realm tree, with what is under way: the instances that live, all actions that were ever begun,
-- the callers that wait for one, and how many entries the history has. The frame never changes
pub record World : Type 0 where
  pub frame : Frame
  pub rows : List Row
  pub next_inc : ℕ
  pub next_action : ℕ
  pub acts : List Act
  pub joins : List Join
  pub entries : ℕ

-- a new row: not resolved, off, and with nothing pending
abbrev pub new_row : ℕ → Option ℕ → Option ChildName → List ℕ → List Give → Row
new_row i parent name url gives = record {
  inc = i;
  parent = parent;
  name = name;
  url = url;
  absolute = None;
  decl = None;
  on = false;
  pending = None;
  closing = false;
  doomed = false;
  shut = false;
  gives = gives;
}

-- the row of the root, as the tree begins
abbrev pub root_row : List ℕ → Row
root_row url = new_row 0 None None url []

-- the world before any entry: one row, the root, which isn't resolved
abbrev pub start : Frame → World
start f = record {
  frame = f;
  rows = root_row f.root ∷ [];
  next_inc = 1;
  next_action = 1;
  acts = [];
  joins = [];
  entries = 0;
}

-- whether n more rows fit in the limit of rows, and none of them needs an incarnation above 2 ^ 64 - 2
abbrev pub rows_fit : ℕ → List Row → ℕ → ℕ → Bool
rows_fit limit rows next_inc n = nat_le (length rows + n) limit && nat_le (next_inc + n) (2 ^ 64 - 1)

-- the action of this number, if it was ever begun
abbrev pub act_of : List Act → ℕ → Option Act
act_of acts a = find (λ x. x.action == a) acts

-- the outcome that is kept of an action, if it has ended
abbrev pub outcome_of : List Act → ℕ → Option Outcome
outcome_of acts a = option_and_then (λ x. x.outcome) (act_of acts a)

-- whether an action hasn't ended yet
abbrev pub is_open : Act → Bool
is_open x = is_none x.outcome

-- how many entries have to come still: an end for each open action, an await for each join
abbrev pub owed : List Act → List Join → ℕ
owed acts joins = count_by is_open acts + length joins
