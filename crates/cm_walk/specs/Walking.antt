-- Inside.
-- How far a walk along a route has come, and what the code's values stand for in the definitions.
use Rattle.std.specs.Prelude.{◌≡◌, ℕ, List, [], ◌∷◌, ◌++◌, Bool, true, false, Option, Some, None, map}
use Rattle.std.specs.Prelude.{filter_map, option_and_then}
use Rattle.cm_names.specs.declared.availability.Availability.{Availability}
use Rattle.cm_names.specs.Availability.{stated_itself}
use Rattle.cm_names.specs.Path.{joined_text}
use Rattle.cm_decl.specs.Clashes.{or_else}
use Rattle.cm_decl.specs.declared.origin.Origin.{Origin}
use Rattle.cm_world.specs.declared.row.Row.{Row}
use Rattle.cm_world.specs.declared.route.StepKind.{StepKind}
use Rattle.cm_world.specs.declared.route.StepKind.TheVariants.{FrameworkHop}
use Rattle.cm_world.specs.declared.route.Walked.{Walked}
use Rattle.cm_world.specs.declared.route.Walked.TheVariants.{Failed}
use Rattle.cm_world.specs.declared.route.Why.TheVariants.{NoInstance}
use Rattle.cm_world.specs.declared.route.Hop.{Hop}
use Rattle.cm_world.specs.Rows.{moniker_of}
use Rattle.cm_world.specs.Stations as world
use Rattle.cm_world.specs.NextStation as spec
use Rattle.cm_world.specs.Route.{Named, First, NoUse, NoneExposed, standing}
use Rattle.cm_world.specs.Route.{asked_rights, is_use, weak_availability, weak_rights}
use Rattle.cm_walk.specs.declared.station.HopStation.{HopStation}
use Rattle.cm_walk.specs.declared.station.StationSource.{StationSource}
use Rattle.cm_walk.specs.declared.station.StationSource.TheVariants.{Row as FromRow, End}
use Rattle.cm_walk.specs.declared.next.NextOnWalk.{NextOnWalk}
use Rattle.cm_walk.specs.declared.next.NextOnWalk.TheVariants.{To, Ends, Needs, FromVoid, NoChild, Misses}
use Rattle.cm_walk.specs.declared.trail.Trail.{Trail}
use Rattle.cm_walk.specs.declared.walking.Begun.{Begun}
use Rattle.cm_walk.specs.declared.walking.Begun.TheVariants as begun

-- ---- what the code's values stand for

-- the source that the row of a station names; an end has none
abbrev pub origin_of : StationSource → Option Origin
origin_of (FromRow from name subdir) = Some from.now
origin_of (End path) = None

-- the name that the capability has at that source
abbrev pub name_of : StationSource → List ℕ
name_of (FromRow from name subdir) = name.now
name_of (End path) = []

-- the subdirectory that the row of a station states
abbrev pub subdir_of : StationSource → Option (List ℕ)
subdir_of (FromRow from name subdir) = subdir.now
subdir_of (End path) = None

-- the path that an end of a route provides
abbrev pub end_of : StationSource → List ℕ
end_of (FromRow from name subdir) = []
end_of (End path) = path

-- the station that the code's station stands for
abbrev pub as_station : HopStation → world.Station
as_station s = record {
  hop = s.hop;
  source = origin_of s.source;
  source_name = name_of s.source;
  subdir = subdir_of s.source;
  path = end_of s.source;
}

-- what follows a station, as the code tells it
abbrev pub as_next : NextOnWalk → spec.NextStation
as_next (To s) = spec.To (as_station s)
as_next (Ends path) = spec.Ends
as_next (Needs i) = spec.Needs i
as_next FromVoid = spec.FromVoid
as_next NoChild = spec.NoChild
as_next (Misses hop why) = spec.Misses hop why

-- the path that is told of an end is that of its station
abbrev pub EndsAt : world.Station → NextOnWalk → Type 0
EndsAt s (Ends path) = path ≡ s.path
EndsAt s _ = Unit {0}

-- what the start of a walk names, as the code tells it
abbrev pub as_named : Begun → Named
as_named (begun.At s) = First (as_station s)
as_named begun.NoUse = NoUse
as_named (begun.NoneExposed hop) = NoneExposed hop

-- a hop tells its instance's moniker rightly
abbrev pub IsHopPlaced : List Row → Hop → Type 0
IsHopPlaced rows hop = hop.moniker ≡ moniker_of rows hop.inc

-- whether what follows a station is a child that isn't there
abbrev pub is_no_child : spec.NextStation → Bool
is_no_child spec.NoChild = true
is_no_child _ = false

-- ---- how far a walk has come

-- whether the first of these stations is a use
abbrev pub begins_with_use : List world.Station → Bool
begins_with_use [] = false
begins_with_use (s ∷ ss) = is_use s.hop.step

-- the availability that holds after a station which states this, where that held before it
abbrev pub standing_by : Option Availability → Option Availability → Option Availability
standing_by before stated = or_else (option_and_then stated_itself stated) before

-- the trail keeps of the stations before s all by which s and later ones are judged
pub record IsBehind (prefix : List world.Station) (s : world.Station) (t : Trail) : Type 0 where
  pub hops : t.hops ≡ map (λ x. x.hop) prefix
  pub subdirs : t.subdirs ≡ filter_map (λ x. x.subdir) prefix
  pub availability : t.availability ≡ standing prefix
  pub from_use : t.from_use ≡ begins_with_use (prefix ++ s ∷ [])
  pub asked : t.asked ≡ asked_rights (prefix ++ s ∷ [])

-- what refuses a station before its next is looked at: a child that isn't there, or a hop that is too
-- weak
abbrev pub refused : List world.Station → world.Station → spec.NextStation → Option Walked
refused prefix s spec.NoChild = Some (Failed s.hop NoInstance)
refused prefix s _ = or_else (weak_availability prefix s) (weak_rights prefix s)

-- the path of a capability with the subdirectories from its provider on
abbrev pub path_at : StepKind → List ℕ → List (List ℕ) → List ℕ
path_at step path subdirs = elim step as (λ _. List ℕ) [ FrameworkHop ↦ path | _ ↦ joined_text path subdirs ]
