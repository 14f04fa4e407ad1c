-- Promised.
-- The stations of a route: its hops, each with the source that the declaration's row names.
use Rattle.std.specs.Prelude.{ℕ, List, [], Bool, true, Option, Some, None}
use Rattle.cm_names.specs.Path.{service_path}
use Rattle.cm_names.specs.Rights.{RightSet}
use Rattle.cm_names.specs.declared.availability.Availability.{Availability}
use Rattle.cm_decl.specs.declared.kind.Kind.{Kind}
use Rattle.cm_decl.specs.declared.origin.Origin.{Origin}
use Rattle.cm_decl.specs.declared.rows.Usage.{Usage}
use Rattle.cm_decl.specs.declared.rows.Give.{Give}
use Rattle.cm_decl.specs.declared.rows.Capability.{Capability}
use Rattle.cm_decl.specs.Graph.{is_strong}
use Rattle.cm_world.specs.declared.row.Row.{Row}
use Rattle.cm_world.specs.declared.frame.Builtin.{Builtin}
use Rattle.cm_world.specs.declared.route.Hop.{Hop}
use Rattle.cm_world.specs.declared.route.StepKind.{StepKind}
use Rattle.cm_world.specs.declared.route.StepKind.TheVariants.{UseHop, OfferHop, ExposeHop, CapabilityHop}
use Rattle.cm_world.specs.declared.route.StepKind.TheVariants.{FrameworkHop, BuiltinHop}
use Rattle.cm_world.specs.Rows.{moniker_of}

-- a step of a route: a hop, with the source, the name there and the subdirectory that its row of the
-- declaration states. An end has no source, and the path that it provides
pub record Station : Type 0 where
  pub hop : Hop
  pub source : Option Origin
  pub source_name : List ℕ
  pub subdir : Option (List ℕ)
  pub path : List ℕ

-- the hop at row i, with what its row of the declaration states
abbrev pub hop_at : List Row → StepKind → ℕ → Kind → List ℕ → Option RightSet → Option Availability → Bool
    → Hop
hop_at rows step i kind name rights availability strong = record {
  step = step;
  inc = i;
  moniker = moniker_of rows i;
  kind = kind;
  name = name;
  rights = rights;
  availability = availability;
  strong = strong;
}

-- a hop that no row of a declaration states: it has no rights and no availability, and counts as
-- strong
abbrev pub bare_hop : List Row → StepKind → ℕ → Kind → List ℕ → Hop
bare_hop rows step i kind name = hop_at rows step i kind name None None true

-- ---- stations that lead on to a source

-- the station of a use that row i declares
abbrev pub use_station : List Row → ℕ → Usage → Station
use_station rows i u = record {
  hop = hop_at rows UseHop i u.kind u.name u.rights (Some u.availability) (is_strong u.dependency);
  source = Some u.from;
  source_name = u.name;
  subdir = u.subdir;
  path = [];
}

-- the station of an offer or expose at row i; its hop has the name that the capability has at the
-- target
abbrev pub give_station : List Row → StepKind → ℕ → Give → Bool → Station
give_station rows step i g strong = record {
  hop = hop_at rows step i g.kind g.target_name g.rights (Some g.availability) strong;
  source = Some g.from;
  source_name = g.source_name;
  subdir = g.subdir;
  path = [];
}

-- the station of an offer at row i
abbrev pub offer_station : List Row → ℕ → Give → Station
offer_station rows i g = give_station rows OfferHop i g (is_strong g.dependency)

-- the station of an expose at row i, which counts as strong
abbrev pub expose_station : List Row → ℕ → Give → Station
expose_station rows i g = give_station rows ExposeHop i g true

-- ---- ends

-- a station at which a route ends, with the path that is provided there
abbrev pub end_station : Hop → List ℕ → Station
end_station hop path = record { hop = hop; source = None; source_name = []; subdir = None; path = path }

-- the end of a route at a capability that row i provides
abbrev pub capability_station : List Row → ℕ → Capability → Station
capability_station rows i c =
    end_station (hop_at rows CapabilityHop i c.kind c.name c.rights None true) c.path

-- the end of a route at a builtin of the root
abbrev pub builtin_station : List Row → ℕ → Builtin → Station
builtin_station rows i b = end_station (hop_at rows BuiltinHop i b.kind b.name b.rights None true) b.path

-- the end of a route at what the framework provides to row i; its path is /svc/ and the name
abbrev pub framework_station : List Row → ℕ → Kind → List ℕ → Station
framework_station rows i kind name = end_station (bare_hop rows FrameworkHop i kind name) (service_path name)
