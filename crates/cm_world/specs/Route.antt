-- Promised.
-- Routes, and what a walk along one comes to.
use Rattle.std.specs.Prelude.{◌≡◌, ℕ, List, [], ◌∷◌, ◌++◌, Bool, true, false, Option, Some, None, find, map}
use Rattle.std.specs.Prelude.{filter_map, reverse, slice_get, option_and_then, if◌then◌else◌}
use Rattle.std.specs.Str.{bytes_eq}
use Rattle.cm_names.specs.declared.availability.Availability.{Availability}
use Rattle.cm_names.specs.Availability.{fits, stated_itself}
use Rattle.cm_names.specs.Path.{joined_text}
use Rattle.cm_names.specs.Rights.{RightSet, contains}
use Rattle.cm_decl.specs.declared.kind.Kind.TheVariants.{Protocol}
use Rattle.cm_decl.specs.Clashes.{or_else}
use Rattle.cm_world.specs.declared.row.Row.{Row}
use Rattle.cm_world.specs.declared.frame.Builtin.{Builtin}
use Rattle.cm_world.specs.declared.route.Hop.{Hop}
use Rattle.cm_world.specs.declared.route.StepKind.{StepKind}
use Rattle.cm_world.specs.declared.route.StepKind.TheVariants.{UseHop, OfferHop, ExposeHop, CapabilityHop}
use Rattle.cm_world.specs.declared.route.StepKind.TheVariants.{FrameworkHop, BuiltinHop}
use Rattle.cm_world.specs.declared.route.Why.TheVariants as why
use Rattle.cm_world.specs.declared.route.Provider.{Provider}
use Rattle.cm_world.specs.declared.route.Provider.TheVariants as provider
use Rattle.cm_world.specs.declared.route.Route.{Route}
use Rattle.cm_world.specs.declared.route.Start.{Start}
use Rattle.cm_world.specs.declared.route.Start.TheVariants.{UseAt, ExposeAt, OfferAt}
use Rattle.cm_world.specs.declared.route.Walked.{Walked}
use Rattle.cm_world.specs.declared.route.Walked.TheVariants.{Given, Failed, Need, Void, NoSuchUse}
use Rattle.cm_world.specs.Rows.{decl_of}
use Rattle.cm_world.specs.Stations.{Station, use_station, offer_station, expose_station, bare_hop}
use Rattle.cm_world.specs.NextStation.{NextStation, To, Ends, Needs, FromVoid, NoChild, Misses, next_of}

-- ---- routes

-- what the start of a walk names: the first station of a route, a use that isn't there, or an expose
-- that isn't
pub data Named : Type 0 where
  First : Station → Named
  NoUse : Named
  NoneExposed : Hop → Named

-- the first use of a path, the first expose of a name, whatever its kind, or the offer at an index
abbrev pub named_by : List Row → Start → Named
named_by rows (UseAt i path) =
    elim (option_and_then (λ d. find (λ u. bytes_eq u.path path) d.uses) (decl_of rows i)) as (λ _. Named) [
      | None ↦ NoUse
      | Some u ↦ First (use_station rows i u)
    ]
named_by rows (ExposeAt i name) =
    elim (option_and_then (λ d. find (λ g. bytes_eq g.target_name name) d.exposes) (decl_of rows i))
    as (λ _. Named) [
      | None ↦ NoneExposed (bare_hop rows ExposeHop i Protocol name)
      | Some g ↦ First (expose_station rows i g)
    ]
named_by rows (OfferAt i k) =
    elim (option_and_then (λ d. slice_get d.offers k) (decl_of rows i)) as (λ _. Named) [
      | None ↦ NoUse
      | Some o ↦ First (offer_station rows i o.give)
    ]

-- each of these stations follows the one before it
abbrev pub IsChain : List Row → List Builtin → Station → List Station → Type 0
IsChain rows builtins s [] = Unit {0}
IsChain rows builtins s (t ∷ ts) = (next_of rows builtins s ≡ To t) × IsChain rows builtins t ts

-- the last station of a route
abbrev pub last_of : Station → List Station → Station
last_of s [] = s
last_of s (t ∷ ts) = last_of t ts

-- a route from this start: its first station is what the start names, each other follows the one
-- before it, and nothing follows the last
pub record IsRoute (rows : List Row) (builtins : List Builtin) (begin : Start) (first : Station)
    (rest : List Station) : Type 0 where
  pub begins : named_by rows begin ≡ First first
  pub chain : IsChain rows builtins first rest
  pub ends : next_of rows builtins (last_of first rest) ≡ Ends

-- ---- what a route gives

-- who provides what a route ends at, by its last hop
abbrev pub provider_of : Hop → Provider
provider_of h = elim h.step as (λ _. Provider) [
  | CapabilityHop ↦ provider.Instance h.inc h.moniker
  | BuiltinHop ↦ provider.Builtin
  | _ ↦ provider.Framework
]

-- whether a hop is a use
abbrev pub is_use : StepKind → Bool
is_use UseHop = true
is_use _ = false

-- the first rights that a hop of these stations states
abbrev pub first_rights : List Station → Option RightSet
first_rights stations = slice_get (filter_map (λ s. s.hop.rights) stations) 0

-- the rights that a route asks for: those of its use; where it begins at an expose or an offer, the
-- first that a hop states
abbrev pub asked_rights : List Station → Option RightSet
asked_rights [] = None
asked_rights (s ∷ ss) = if is_use s.hop.step then s.hop.rights else first_rights (s ∷ ss)

-- the path at which a route that ends at s gives: the end's path and the subdirectories of the
-- stations before it, from the source to the use; what the framework provides has its path alone
abbrev pub path_of : List Station → Station → List ℕ
path_of prefix s = elim s.hop.step as (λ _. List ℕ) [
  | FrameworkHop ↦ s.path
  | _ ↦ joined_text s.path (filter_map (λ t. t.subdir) (reverse prefix))
]

-- the route whose last station is s, after the stations of the prefix
abbrev pub route_of : List Station → Station → Route
route_of prefix s = record {
  hops = map (λ t. t.hop) (prefix ++ s ∷ []);
  path = path_of prefix s;
  rights = asked_rights (prefix ++ s ∷ []);
  provider = provider_of s.hop;
}

-- ---- what is tried at a station, after the prefix of those before it

-- whether a hop is an offer or an expose
abbrev pub is_offer_or_expose : StepKind → Bool
is_offer_or_expose OfferHop = true
is_offer_or_expose ExposeHop = true
is_offer_or_expose _ = false

-- the availability that holds after these stations: the last that one of them states itself; one that
-- takes it over from its target changes nothing
abbrev pub standing : List Station → Option Availability
standing stations =
    slice_get (reverse (filter_map (λ t. option_and_then stated_itself t.hop.availability) stations)) 0

-- the failure at a hop whose availability is weaker than what is asked; none where one of them isn't
-- stated
abbrev pub unless_fitting : Hop → Option Availability → Option Availability → Option Walked
unless_fitting hop (Some asked) (Some given) =
    if fits asked given then None else Some (Failed hop (why.AvailabilityTooWeak asked given))
unless_fitting hop _ _ = None

-- the failure at an offer or expose hop whose availability doesn't fit what the stations before it ask
abbrev pub weak_availability : List Station → Station → Option Walked
weak_availability prefix s =
    if is_offer_or_expose s.hop.step
    then unless_fitting s.hop (standing prefix) (standing (prefix ++ s ∷ []))
    else None

-- the failure at a hop that states fewer rights than are asked; none where one of them isn't stated
abbrev pub unless_within : Hop → Option RightSet → Option RightSet → Option Walked
unless_within hop (Some asked) (Some stated) =
    if contains stated asked then None else Some (Failed hop (why.RightsTooWeak asked stated))
unless_within hop _ _ = None

-- the failure at a hop whose rights don't contain the ones asked for
abbrev pub weak_rights : List Station → Station → Option Walked
weak_rights prefix s = unless_within s.hop (asked_rights (prefix ++ s ∷ [])) s.hop.rights

-- what a walk comes to at a station by what follows it; nothing yet where another station does
abbrev pub said_by : List Station → Station → NextStation → Option Walked
said_by prefix s (To t) = None
said_by prefix s Ends = Some (Given (route_of prefix s))
said_by prefix s (Needs j) = Some (Need j)
said_by prefix s FromVoid = Some (Void s.hop)
said_by prefix s NoChild = Some (Failed s.hop why.NoInstance)
said_by prefix s (Misses hop reason) = Some (Failed hop reason)

-- what a walk comes to at a station: a missing instance is told first, then availability, then rights,
-- then what follows
abbrev pub trial_by : List Station → Station → NextStation → Option Walked
trial_by prefix s NoChild = Some (Failed s.hop why.NoInstance)
trial_by prefix s next =
    or_else (weak_availability prefix s) (or_else (weak_rights prefix s) (said_by prefix s next))

-- what a walk comes to at station s, after the stations of the prefix; nothing where it goes on
abbrev pub trial : List Row → List Builtin → List Station → Station → Option Walked
trial rows builtins prefix s = trial_by prefix s (next_of rows builtins s)

-- ---- the verdict

-- the walk over these stations comes to v at the last of them, and to nothing at any before it
abbrev pub IsDecided : List Row → List Builtin → List Station → Station → List Station → Walked → Type 0
IsDecided rows builtins prefix s [] v = trial rows builtins prefix s ≡ Some v
IsDecided rows builtins prefix s (t ∷ ts) v =
    (trial rows builtins prefix s ≡ None) × IsDecided rows builtins (prefix ++ s ∷ []) t ts v

-- the walk from a first station comes to v: at the first station at which something is decided
pub record IsRouteVerdict (rows : List Row) (builtins : List Builtin) (first : Station)
    (v : Walked) : Type 0 where
  pub rest : List Station
  pub chain : IsChain rows builtins first rest
  pub decided : IsDecided rows builtins [] first rest v

-- the walk comes to v, by what its start names
abbrev pub IsWalkedFrom : List Row → List Builtin → Named → Walked → Type 0
IsWalkedFrom rows builtins (First s) v = IsRouteVerdict rows builtins s v
IsWalkedFrom rows builtins NoUse v = v ≡ NoSuchUse
IsWalkedFrom rows builtins (NoneExposed hop) v = v ≡ Failed hop why.NoExpose

-- the walk from a start comes to v: a route that is given, or why none is
abbrev pub IsWalked : List Row → List Builtin → Start → Walked → Type 0
IsWalked rows builtins begin v = IsWalkedFrom rows builtins (named_by rows begin) v
