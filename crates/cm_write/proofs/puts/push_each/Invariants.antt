use Rattle.std.proofs.Common.{◌≡◌, ◌++◌, map, take}
use Rattle.serde_json.specs.View.{view}
use Rattle.cm_write.proofs.puts.push_each.Given as goal

abbrev pub invariant-loop-row : goal.invariant-loop-row
invariant-loop-row g l = map view l.values.items ≡ map view l.fn.values.items ++ map g.T.WritableRow.writes (take l.row-index l.rows)
