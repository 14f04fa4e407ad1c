-- Inside.
-- What a realm reads of its actions, and how they end.
use Rattle.std.specs.Prelude.{◌≡◌, ℕ, ◌<◌, List, None, IsTrue}
use Rattle.std.specs.Option.{option_map_or}
use Rattle.cm_world.specs.declared.action.Act.{Act}
use Rattle.cm_world.specs.declared.action.Finish.{Finish}
use Rattle.cm_world.specs.declared.action.Finish.TheVariants as finish
use Rattle.cm_world.specs.Rows.{is_live, decl_of}
use Rattle.cm_world.specs.World.{act_of}
use Rattle.cm_table.specs.Tree.{Tree}
use Rattle.cm_steps.specs.declared.ending.Ending.{Ending}
use Rattle.cm_steps.specs.declared.ending.Ending.TheVariants as ending

-- the row of an action; 0 where there is no such action
abbrev pub inc_of : List Act → ℕ → ℕ
inc_of acts a = option_map_or (λ x. x.inc) (act_of acts a) 0

-- an end as the history records it
abbrev pub finish_of : Ending → Finish
finish_of (ending.Resolved p) = finish.Resolved p.absolute p.decl
finish_of (ending.Other o) = finish.Other o

-- how many of the resolves for which memory is kept an end uses up: one where it brings a declaration
abbrev pub takes_of : Finish → ℕ
takes_of (finish.Resolved url d) = 1
takes_of (finish.Other o) = 0

-- a row that can take a declaration, for which memory was kept when its resolve began
pub record IsOpenRow (t : Tree) (i : ℕ) : Type 0 where
  pub lives : IsTrue (is_live t.rows i)
  pub unresolved : decl_of t.rows i ≡ None
  pub spare : 0 < t.spare

-- the tree can take this end of an action at row i
abbrev pub CanTakeEnd : Tree → ℕ → Ending → Type 0
CanTakeEnd t i (ending.Resolved p) = IsOpenRow t i
CanTakeEnd t i (ending.Other o) = Unit {0}
