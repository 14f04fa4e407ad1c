-- Inside.
-- Where rows look for what is registered: what is kept of it as a report goes down from a parent to
-- its children.
use Rattle.std.specs.Prelude.{◌≡◌, ℕ, ◌<◌, List, Option, None, map, option_map, if◌then◌else◌}
use Rattle.std.specs.Option.{option_or}
use Rattle.cm_decl.specs.declared.environment.Environment.{Environment}
use Rattle.cm_decl.specs.declared.environment.Registration.{Registration}
use Rattle.cm_world.specs.declared.row.Row.{Row}
use Rattle.cm_env.specs.declared.scope.Which.{Which}
use Rattle.cm_env.specs.declared.reach.Reach.{Reach}
use Rattle.cm_env.specs.declared.reach.Reach.TheVariants.{Nothing, From, Unknown}
use Rattle.cm_env.specs.declared.reach.Looker.{Looker}
use Rattle.cm_env.specs.Scope.{registered}
use Rattle.cm_env.specs.Looks.{found_in}

-- what is found in an environment of row p, and else, where that extends the realm's, what p itself
-- finds
abbrev pub found_by : Which → List Row → ℕ → Environment → List ℕ → Option (ℕ × Registration)
found_by which rows p e name =
    option_or (option_map (λ r. (p, r)) (found_in which e name))
    (if e.extends then registered which rows p name else None)

-- what is kept for row i is right: it finds nothing, or what is found in this environment of a row
-- above it; where it is unknown, nothing is said
abbrev pub IsReachOf : List Row → ℕ → Reach → Type 0
IsReachOf rows i Nothing = (which : Which) (name : List ℕ) → registered which rows i name ≡ None
IsReachOf rows i (From p e place) =
    (p < i)
    × ((which : Which) (name : List ℕ) → registered which rows i name ≡ found_by which rows p e.now name)
IsReachOf rows i Unknown = Unit {0}

-- what is kept for this instance is right
abbrev pub LooksThere : List Row → Looker → Type 0
LooksThere rows s = IsReachOf rows s.inc s.reach

-- the incarnations of these instances
abbrev pub incs : List Looker → List ℕ
incs stands = map (λ s. s.inc) stands
