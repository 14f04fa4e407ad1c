-- Inside.
-- How many steps a walk can still make. It goes up while it follows uses and offers, each time
-- to a row with a lower incarnation; then it goes down by exposes, each time to a row with a
-- higher one, and never up again.
use Rattle.std.specs.Prelude.{◌≡◌, ℕ, ◌+◌, ◌-◌, ◌<◌, List, Bool, true, false, ◌&&◌, Option, Some, None}
use Rattle.cm_decl.specs.declared.origin.Origin.{Origin}
use Rattle.cm_decl.specs.declared.origin.Origin.TheVariants.{Parent}
use Rattle.cm_world.specs.declared.row.Row.{Row}
use Rattle.cm_world.specs.declared.frame.Builtin.{Builtin}
use Rattle.cm_world.specs.declared.route.Start.{Start}
use Rattle.cm_world.specs.declared.route.Walked.{Walked}
use Rattle.cm_world.specs.declared.route.StepKind.{StepKind}
use Rattle.cm_world.specs.declared.route.StepKind.TheVariants.{ExposeHop}
use Rattle.cm_world.specs.Stations.{Station}
use Rattle.cm_world.specs.NextStation.{To, next_of}
use Rattle.cm_world.specs.Route.{First, named_by, IsWalked}
use Rattle.cm_world.specs.Sound.{IsOrderly}

-- whether a hop is an expose, by which a walk goes down the tree
abbrev pub is_expose : StepKind → Bool
is_expose ExposeHop = true
is_expose _ = false

-- a bound of the steps that are left at incarnation i, below the next incarnation: on the way down
-- (true), or still on the way up
abbrev pub left_at : ℕ → ℕ → Bool → ℕ
left_at next i true = (next - i) + 1
left_at next i false = next + i + 2

-- a bound of the steps that are left behind a hop; none where it has no source
abbrev pub left_from : ℕ → ℕ → StepKind → Option Origin → ℕ
left_from next i step None = 0
left_from next i step (Some from) = left_at next i (is_expose step)

-- at most so many stations of a walk follow this one; next is the tree's next incarnation
abbrev pub steps_left : ℕ → Station → ℕ
steps_left next s = left_from next s.hop.inc s.hop.step s.source

-- whether a source is the parent
abbrev pub is_from_parent : Option Origin → Bool
is_from_parent (Some Parent) = true
is_from_parent _ = false

-- the station isn't an expose from the parent, so a walk that goes down never turns up again
abbrev pub KeepsDown : Station → Type 0
KeepsDown s = (is_from_parent s.source && is_expose s.hop.step) ≡ false

-- ---- laws

-- the first station of a walk keeps down
abbrev pub BeginsDown : Type 0
BeginsDown =
    (rows : List Row) (next : ℕ) (begin : Start) (s : Station) → IsOrderly rows next
    → named_by rows begin ≡ First s → KeepsDown s

-- from a station that keeps down, the next one keeps down too and has fewer steps left
abbrev pub StepsFall : Type 0
StepsFall =
    (rows : List Row) (next : ℕ) (builtins : List Builtin) (s t : Station) → IsOrderly rows next
    → KeepsDown s → next_of rows builtins s ≡ To t → (steps_left next t < steps_left next s) × KeepsDown t

-- in an orderly tree every walk comes to an answer
abbrev pub WalksEnd : Type 0
WalksEnd =
    (rows : List Row) (next : ℕ) (builtins : List Builtin) (begin : Start) → IsOrderly rows next
    → (v : Walked) × IsWalked rows builtins begin v
