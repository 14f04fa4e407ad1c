use Rattle.std.proofs.Common.{◌≡◌, ◌≤◌, ◌++◌, length, vec_len}
use Rattle.cm_manager.proofs.starting.in_prefix.Given as goal

-- the rows that are left and those before the others are all of them, and there are no more than at first
abbrev pub invariant-loop-row : goal.invariant-loop-row
invariant-loop-row l = record {
  whole : l.rows.items ++ l.all.items ≡ l.fn.rows ++ l.fn.others.items;
  few : length l.rows.items ≤ length l.fn.rows;
}

abbrev pub decreases-loop-row : goal.decreases-loop-row
decreases-loop-row l = vec_len l.rows
