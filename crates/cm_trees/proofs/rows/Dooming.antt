-- What a row keeps where it may be marked to be destroyed.
use Rattle.std.proofs.Common.{◌≡◌, Bool, true, false, cond, refl}
use Rattle.cm_world.specs.declared.row.Row.{Row}
use Rattle.cm_world.specs.End.{set_doomed}

-- A row that is marked as doomed, or isn't, keeps its incarnation.
pub doom_inc : (t : Bool) (r : Row) → (cond t (set_doomed r) r).inc ≡ r.inc
doom_inc true r = refl
doom_inc false r = refl

-- the action that is pending there
pub doom_pending : (t : Bool) (r : Row) → (cond t (set_doomed r) r).pending ≡ r.pending
doom_pending true r = refl
doom_pending false r = refl
