-- Inside.
-- Where an action may begin, and which action is waited for.
use Rattle.std.specs.Prelude.{◌≡◌, ℕ, List, Bool, Some, None, ◌&&◌}
use Rattle.cm_world.specs.declared.row.Row.{Row}
use Rattle.cm_world.specs.declared.action.Act.{Act}
use Rattle.cm_world.specs.declared.action.ActKind.{ActKind}
use Rattle.cm_world.specs.declared.action.ActKind.TheVariants.{Resolve}
use Rattle.cm_world.specs.Rows.{row_of}
use Rattle.cm_world.specs.World.{is_open}
use Rattle.cm_world.specs.Begin.{same_act}

-- whether an action is a resolve that hasn't ended
abbrev pub is_open_resolve : Act → Bool
is_open_resolve x = same_act x.kind Resolve && is_open x

-- an action of this kind may begin at this row: none is pending there, and one that is to be resolved
-- isn't yet
pub record IsIdleAt (rows : List Row) (kind : ActKind) (i : ℕ) : Type 0 where
  pub row : Row
  pub lives : row_of rows i ≡ Some row
  pub idle : row.pending ≡ None
  pub unresolved : kind ≡ Resolve → row.decl ≡ None

-- action a, of some kind, is pending at row i
pub record IsPendingAs (rows : List Row) (i a : ℕ) : Type 0 where
  pub row : Row
  pub lives : row_of rows i ≡ Some row
  pub kind : ActKind
  pub pending : row.pending ≡ Some (kind, a)
