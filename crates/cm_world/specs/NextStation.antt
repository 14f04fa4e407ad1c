-- Promised.
-- What follows a station of a route.
use Rattle.std.specs.Prelude.{ℕ, List, Bool, ◌&&◌, Option, Some, None, find, option_and_then}
use Rattle.std.specs.Str.{bytes_eq}
use Rattle.cm_names.specs.declared.child.ChildName.{ChildName}
use Rattle.cm_decl.specs.declared.decl.Decl.{Decl}
use Rattle.cm_decl.specs.declared.kind.Kind.{Kind}
use Rattle.cm_decl.specs.declared.rows.Give.{Give}
use Rattle.cm_decl.specs.declared.rows.Offer.{Offer}
use Rattle.cm_decl.specs.declared.rows.Capability.{Capability}
use Rattle.cm_decl.specs.declared.origin.Origin.{Origin}
use Rattle.cm_decl.specs.declared.origin.Origin.TheVariants.{Parent, Own, Framework, Child, Void}
use Rattle.cm_decl.specs.Same.{same_kind}
use Rattle.cm_decl.specs.Graph.{target_of}
use Rattle.cm_world.specs.declared.row.Row.{Row}
use Rattle.cm_world.specs.declared.frame.Builtin.{Builtin}
use Rattle.cm_world.specs.declared.route.Hop.{Hop}
use Rattle.cm_world.specs.declared.route.StepKind.TheVariants.{OfferHop, ExposeHop, BuiltinHop}
use Rattle.cm_world.specs.declared.route.Why.{Why}
use Rattle.cm_world.specs.declared.route.Why.TheVariants.{NoOffer, NoExpose, NoBuiltin}
use Rattle.cm_world.specs.Rows.{row_of, decl_of, child_of}
use Rattle.cm_world.specs.Stations.{Station, bare_hop, offer_station, expose_station, capability_station}
use Rattle.cm_world.specs.Stations.{builtin_station, framework_station}

-- what follows a station of a route: another station; nothing, since this is an end; nothing as long
-- as a row isn't resolved; the void; a child that isn't there; or a hop that is missing, and why
pub data NextStation : Type 0 where
  To : Station → NextStation
  Ends : NextStation
  Needs : ℕ → NextStation
  FromVoid : NextStation
  NoChild : NextStation
  Misses : Hop → Why → NextStation

-- ---- what is found by its kind and name: always the first

-- the builtin of this kind and name, if the tree has one
abbrev pub builtin_of : List Builtin → Kind → List ℕ → Option Builtin
builtin_of builtins kind name = find (λ b. same_kind b.kind kind && bytes_eq b.name name) builtins

-- the capability of this kind and name that a declaration provides itself
abbrev pub capability_of : Decl → Kind → List ℕ → Option Capability
capability_of d kind name = find (λ c. same_kind c.kind kind && bytes_eq c.name name) d.capabilities

-- the offer or expose, among these, that has this kind and this name at its target
abbrev pub give_of : List Give → Kind → List ℕ → Option Give
give_of gives kind name = find (λ g. same_kind g.kind kind && bytes_eq g.target_name name) gives

-- whether an offer gives this kind and name to the child, by the child's own name or by its
-- collection's
abbrev pub is_offer_to : ChildName → Kind → List ℕ → Offer → Bool
is_offer_to c kind name o =
    bytes_eq o.to (target_of c) && (same_kind o.give.kind kind && bytes_eq o.give.target_name name)

-- the first offer of a declaration that gives this kind and name to the child
abbrev pub offer_of : Decl → ChildName → Kind → List ℕ → Option Offer
offer_of d c kind name = find (is_offer_to c kind name) d.offers

-- what an offer of the declaration gives; without one, what was offered when the child was created
abbrev pub give_or : Option Offer → Option Give → Option Give
give_or (Some o) own = Some o.give
give_or None own = own

-- what a child is offered under this kind and name: by the declaration of its parent, else when it was
-- created
abbrev pub offered : Decl → ChildName → List Give → Kind → List ℕ → Option Give
offered d c gives kind name = give_or (offer_of d c kind name) (give_of gives kind name)

-- ---- from the parent

-- the station of the builtin that was found for the root, or that there is none
abbrev pub by_builtin : List Row → ℕ → Kind → List ℕ → Option Builtin → NextStation
by_builtin rows i kind name None = Misses (bare_hop rows BuiltinHop i kind name) NoBuiltin
by_builtin rows i kind name (Some b) = To (builtin_station rows i b)

-- the station of the offer that was found at p, or that there is none
abbrev pub by_offer : List Row → ℕ → Kind → List ℕ → Option Give → NextStation
by_offer rows p kind name None = Misses (bare_hop rows OfferHop p kind name) NoOffer
by_offer rows p kind name (Some g) = To (offer_station rows p g)

-- what follows a hop of row r from its parent p, which has this declaration
abbrev pub offered_by : List Row → ℕ → Row → Kind → List ℕ → Option Decl → NextStation
offered_by rows p r kind name None = Needs p
offered_by rows p r kind name (Some d) =
    by_offer rows p kind name (option_and_then (λ c. offered d c r.gives kind name) r.name)

-- what follows a hop of row r from its parent: at the root a builtin, else an offer of the parent
abbrev pub next_above : List Row → List Builtin → Row → Kind → List ℕ → Option ℕ → NextStation
next_above rows builtins r kind name None = by_builtin rows r.inc kind name (builtin_of builtins kind name)
next_above rows builtins r kind name (Some p) = offered_by rows p r kind name (decl_of rows p)

-- what follows a hop of a row from its parent, where the row is there
abbrev pub from_above : List Row → List Builtin → Kind → List ℕ → Option Row → NextStation
from_above rows builtins kind name None = NoChild
from_above rows builtins kind name (Some r) = next_above rows builtins r kind name r.parent

-- ---- from a child

-- the station of the expose that was found at row j, or that there is none
abbrev pub by_expose : List Row → ℕ → Kind → List ℕ → Option Give → NextStation
by_expose rows j kind name None = Misses (bare_hop rows ExposeHop j kind name) NoExpose
by_expose rows j kind name (Some g) = To (expose_station rows j g)

-- what follows a hop from child j, which has this declaration
abbrev pub exposed_by : List Row → ℕ → Kind → List ℕ → Option Decl → NextStation
exposed_by rows j kind name None = Needs j
exposed_by rows j kind name (Some d) = by_expose rows j kind name (give_of d.exposes kind name)

-- what follows a hop from a child, where the child is there
abbrev pub from_child : List Row → Kind → List ℕ → Option ℕ → NextStation
from_child rows kind name None = NoChild
from_child rows kind name (Some j) = exposed_by rows j kind name (decl_of rows j)

-- ---- from the component itself: a valid declaration has what it names so

-- the station of a capability that row i provides itself; a valid declaration has each one that it
-- names so
abbrev pub by_capability : List Row → ℕ → Option Capability → NextStation
by_capability rows i None = NoChild
by_capability rows i (Some c) = To (capability_station rows i c)

-- what follows a hop at row i whose source is this
abbrev pub next_from : List Row → List Builtin → ℕ → Kind → List ℕ → Origin → NextStation
next_from rows builtins i kind name Parent = from_above rows builtins kind name (row_of rows i)
next_from rows builtins i kind name (Child c) = from_child rows kind name (child_of rows i c)
next_from rows builtins i kind name Own =
    by_capability rows i (option_and_then (λ d. capability_of d kind name) (decl_of rows i))
next_from rows builtins i kind name Framework = To (framework_station rows i kind name)
next_from rows builtins i kind name Void = FromVoid

-- what follows a station with this source; nothing where it has none
abbrev pub next_by : List Row → List Builtin → Station → Option Origin → NextStation
next_by rows builtins s None = Ends
next_by rows builtins s (Some from) = next_from rows builtins s.hop.inc s.hop.kind s.source_name from

-- what follows a station of a route, in a tree with these builtins
abbrev pub next_of : List Row → List Builtin → Station → NextStation
next_of rows builtins s = next_by rows builtins s s.source
