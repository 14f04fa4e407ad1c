-- Inside.
-- The moves of a link in memory.
use Rattle.std.specs.Prelude.{ℕ, List, map, Option, option_map}
use Rattle.cm_io.specs.Orders.{Move, gave, wrote, hung_up}
use Rattle.cm_io.specs.declared.steps.LoggedMove.{LoggedMove}
use Rattle.cm_io.specs.declared.steps.LoggedMove.TheVariants as step

-- a logged move as contracts see it
abbrev pub move_of : LoggedMove → Move
move_of (step.Gave bytes) = gave bytes
move_of (step.Wrote bytes) = wrote bytes
move_of step.HungUp = hung_up

-- the move of a read that gave these bytes
abbrev pub gave_of : List ℕ → Move
gave_of bytes = gave bytes

-- the move of a write that took these bytes
abbrev pub wrote_of : List ℕ → Move
wrote_of bytes = wrote bytes

-- the order of a link's moves, where its log is told
abbrev pub order_of : Option (List LoggedMove) → Option (List Move)
order_of steps = option_map (λ s. map move_of s) steps
