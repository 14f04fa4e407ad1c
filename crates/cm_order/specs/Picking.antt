-- Inside.
-- What a pick comes to in a shutdown.
use Rattle.std.specs.Prelude.{◌≡◌, ℕ, List, Bool, true, false, Some, IsTrue}
use Rattle.cm_world.specs.declared.row.Row.{Row}
use Rattle.cm_world.specs.declared.action.ActKind.{ActKind}
use Rattle.cm_world.specs.Rows.{row_of, is_below, is_subtree_shut}
use Rattle.cm_world.specs.Stopping.{outermost, MayStop, MayPick, CanPick}
use Rattle.cm_order.specs.declared.picking.Picked.{Picked}
use Rattle.cm_order.specs.declared.picking.Picked.TheVariants.{StopNow, ShutNow, Waits, Done}

-- not all of the target is shut, and this row may be picked; `on` says whether it is on
pub record PicksNow (rows : List Row) (target y : ℕ) (on : Bool) : Type 0 where
  pub undone : is_subtree_shut rows target ≡ false
  pub row : Row
  pub may : MayPick rows target y row
  pub state : row.on ≡ on

-- this action is pending at a row that isn't shut and could stop, in the shutdown of the target
pub record BlockedBy (rows : List Row) (target a : ℕ) : Type 0 where
  pub inc : ℕ
  pub row : Row
  pub lives : row_of rows inc ≡ Some row
  pub top : ℕ
  pub outermost : outermost rows target ≡ Some top
  pub below : IsTrue (is_below rows top inc)
  pub unshut : row.shut ≡ false
  pub kind : ActKind
  pub pending : row.pending ≡ Some (kind, a)
  pub may_stop : MayStop rows inc

-- not all of the target is shut, no row may be picked, and this action is what is waited for
pub record PickWaitsFor (rows : List Row) (target a : ℕ) : Type 0 where
  pub undone : is_subtree_shut rows target ≡ false
  pub stuck : CanPick rows target → ⊥
  pub blocked : BlockedBy rows target a

-- what a pick comes to: all of the target is shut; or a row that may be picked, by whether it is on;
-- or what to wait for
abbrev pub IsPicked : List Row → ℕ → Picked → Type 0
IsPicked rows target Done = IsTrue (is_subtree_shut rows target)
IsPicked rows target (StopNow y) = PicksNow rows target y true
IsPicked rows target (ShutNow y) = PicksNow rows target y false
IsPicked rows target (Waits a) = PickWaitsFor rows target a

-- not all of the target is shut, and a pick for it may choose this row
abbrev pub MayBePicked : List Row → ℕ → ℕ → Type 0
MayBePicked rows target y = (on : Bool) × PicksNow rows target y on
