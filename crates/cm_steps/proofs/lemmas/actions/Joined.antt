-- The joins behind one more.
use Rattle.std.proofs.Common.{ℕ, ◌≤◌, List, [], ◌∷◌, ◌++◌, length, Bool, true, false, cond, length-append, arith}
use Rattle.std.specs.List.{list_any}
use Rattle.cm_world.specs.declared.action.Join.{Join}
use Rattle.cm_world.specs.Step.{is_join}
use Rattle.cm_world.specs.After.{joined}

-- Joins to which one may have been put are no fewer.
longer_by : (b : Bool) (j : Join) (js : List Join) → length js ≤ length (cond b js (js ++ j ∷ []))
longer_by true j js = omega arith
longer_by false j js = let l = length-append js (j ∷ []) in omega arith

-- Where a join is put down, none that was there is lost.
pub length-joined : (caller a : ℕ) (js : List Join) → length js ≤ length (joined caller a js)
length-joined caller a js =
    longer_by (list_any (is_join caller a) js) (record { caller = caller; action = a }) js
