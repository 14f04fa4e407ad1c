-- What was told last: nothing is right for any rows, and what stays is right while the rows do.
use Rattle.std.proofs.Common.{◌≡◌, List, sym, subst}
use Rattle.cm_world.specs.declared.row.Row.{Row}
use Rattle.cm_steps.specs.declared.told.LastTold.{LastTold}
use Rattle.cm_steps.specs.LastTold.{nothing_told, IsToldNow}

-- where nothing was told, nothing is wrong
pub told_none : (rows : List Row) (last : LastTold) → last ≡ nothing_told → IsToldNow rows last
told_none rows last is = subst (IsToldNow rows) (sym is) (record { survey = tt; list = tt })

-- What was told last is still right where it stayed and the rows did.
pub told_same : (rows : List Row) (old new : LastTold) → new ≡ old → IsToldNow rows old → IsToldNow rows new
told_same rows old new is it = subst (IsToldNow rows) (sym is) it
