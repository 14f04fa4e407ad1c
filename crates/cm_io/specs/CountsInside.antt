-- Inside.
-- Counts of faults, by whether a call failed.
use Rattle.std.specs.Prelude.{ℕ, ◌-◌, Bool, true, false}
use Rattle.cm_io.specs.Counts.{one_more}

-- the count of faults after a call, which failed or not
abbrev pub count_after : Bool → ℕ → ℕ
count_after true count = one_more count
count_after false count = count
