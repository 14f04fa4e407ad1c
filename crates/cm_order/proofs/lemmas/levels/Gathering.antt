-- How many children of a row a loop over them can still come to.
use Rattle.std.proofs.Common.{◌≡◌, ℕ, ◌+◌, ◌-◌, ◌<◌, List, Option, Some, None, IsTrue, sym, arith}
use Rattle.std.proofs.lemmas.Bool.{ltb-true}
use Rattle.cm_world.specs.declared.row.Row.{Row}
use Rattle.cm_world.specs.RowsInside.{is_behind, child_behind}
use Rattle.cm_world.specs.Sound.{IsOrderly}
use Rattle.cm_trees.specs.Kids.{IsKid}
use Rattle.cm_trees.proofs.trees.Trees.{kid_within}
use Rattle.cm_trees.proofs.levels.Kids.{next_kid}

-- How many incarnations of children may still come behind the given one, at most.
abbrev pub room : ℕ → Option ℕ → ℕ
room next None = next + 1
room next (Some b) = next - b

-- Behind a later child there is less room than behind the place before it.
room_by : (next c : ℕ) (after : Option ℕ) → c < next → IsTrue (is_behind after c) → room next (Some c) < room next after
room_by next c None high behind = omega arith
room_by next c (Some b) high behind = let low : b < c = ltb-true b c behind in omega arith

-- Behind the next child fewer incarnations may come than behind the one before it.
pub room_less : (rows : List Row) (next p c : ℕ) (after : Option ℕ) → IsOrderly rows next → Some c ≡ child_behind rows p after → room next (Some c) < room next after
room_less rows next p c after orderly found =
    let kid : IsKid rows p c × IsTrue (is_behind after c) = next_kid rows next orderly p after c (sym found) in
    room_by next c after (kid_within rows next orderly p c kid.0) kid.1
