-- Inside.
-- Places in the search down the tree: a row, with the child at which it was left.
use Rattle.std.specs.Prelude.{ℕ, List, [], ◌∷◌, Option, Some, None}
use Rattle.cm_order.specs.declared.below.Spot.{Spot}

-- what is left of a place once a child was found there: the later children, and first the child's own
-- level
abbrev pub further : ℕ → Option ℕ → List Spot
further inc None = []
further inc (Some c) = record { inc = inc; behind = Some c } ∷ record { inc = c; behind = None } ∷ []
