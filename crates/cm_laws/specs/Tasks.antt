-- Inside.
-- Which action is pending at which row.
use Rattle.std.specs.Prelude.{◌≡◌, ℕ, ◌+◌, List, [], ◌∷◌, Some, None}
use Rattle.cm_world.specs.declared.row.Row.{Row}
use Rattle.cm_world.specs.declared.action.Act.{Act}
use Rattle.cm_world.specs.declared.action.ActKind.{ActKind}
use Rattle.cm_world.specs.declared.action.ActKind.TheVariants.{Resolve}
use Rattle.cm_world.specs.Rows.{row_of}
use Rattle.cm_world.specs.World.{act_of}

-- action a was begun at row i and hasn't ended
pub record IsPendingAt (acts : List Act) (i a : ℕ) : Type 0 where
  pub act : Act
  pub there : act_of acts a ≡ Some act
  pub pending : act.outcome ≡ None
  pub at : act.inc ≡ i

-- these actions are numbered one after another from n on
abbrev pub IsNumbered : ℕ → List Act → Type 0
IsNumbered n [] = Unit {0}
IsNumbered n (x ∷ xs) = (x.action ≡ n) × IsNumbered (n + 1) xs

-- the row of an action that hasn't ended says that it is pending there; one that is being resolved has
-- no declaration
pub record HasRow (rows : List Row) (x : Act) : Type 0 where
  pub row : Row
  pub lives : row_of rows x.inc ≡ Some row
  pub pending : row.pending ≡ Some (x.kind, x.action)
  pub unresolved : x.kind ≡ Resolve → row.decl ≡ None

-- rows and actions agree: what hasn't ended is pending at its row, and what is pending at a row hasn't
-- ended
pub record IsTasked (rows : List Row) (acts : List Act) : Type 0 where
  pub rows_of : (a : ℕ) (x : Act) → act_of acts a ≡ Some x → x.outcome ≡ None → HasRow rows x
  pub acts_of :
      (i a : ℕ) (kind : ActKind) (r : Row) → row_of rows i ≡ Some r → r.pending ≡ Some (kind, a)
      → IsPendingAt acts i a
