-- Where the instance of each station stands, as its hop tells it.
use Rattle.std.proofs.Common.{◌≡◌, ℕ, ◌+◌, ◌-◌, List, [], ◌∷◌, ◌++◌, true≢false, Option, Some, None, IsSome, length, take, slice_get, option_to_list, option_map, option_and_then, refl, sym, ◌∙◌, ap, subst, arith}
use Rattle.std.proofs.Math.Seq.{take-append_seam}
use Rattle.std.proofs.lemmas.List.{length-append}
use Rattle.std.proofs.lemmas.Option.{none-some}
use Rattle.cm_names.specs.declared.child.ChildName.{ChildName}
use Rattle.cm_names.specs.declared.moniker.Moniker.{Moniker}
use Rattle.cm_facts.proofs.Lists.{slice_get_last}
use Rattle.cm_decl.specs.declared.decl.Decl.{Decl}
use Rattle.cm_decl.specs.declared.kind.Kind.{Kind}
use Rattle.cm_decl.specs.declared.rows.Give.{Give}
use Rattle.cm_decl.specs.declared.rows.Usage.{Usage}
use Rattle.cm_decl.specs.declared.rows.Offer.{Offer}
use Rattle.cm_decl.specs.declared.rows.Capability.{Capability}
use Rattle.cm_decl.specs.declared.origin.Origin.{Origin}
use Rattle.cm_decl.specs.declared.origin.Origin.TheVariants.{Parent, Own, Framework, Child, Void}
use Rattle.cm_world.specs.declared.row.Row.{Row}
use Rattle.cm_world.specs.declared.view.Facts.{Facts}
use Rattle.cm_world.specs.declared.frame.Builtin.{Builtin}
use Rattle.cm_world.specs.declared.route.Hop.{Hop}
use Rattle.cm_world.specs.declared.route.Start.{Start}
use Rattle.cm_world.specs.declared.route.Start.TheVariants.{UseAt, ExposeAt, OfferAt}
use Rattle.cm_world.specs.Rows.{row_of, child_of, names_to, moniker_of}
use Rattle.cm_world.specs.RowsInside.{facts_of}
use Rattle.cm_world.specs.Stations.{Station, use_station, offer_station, expose_station}
use Rattle.cm_world.specs.NextStation.{NextStation, To, next_of, next_by, next_from, from_above, next_above, offered_by, by_offer, by_builtin, from_child, exposed_by, by_expose, by_capability}
use Rattle.cm_world.specs.Route.{Named, First, NoUse, NoneExposed, named_by}
use Rattle.cm_world.specs.Sound.{IsOrderly}
use Rattle.cm_world.proofs.lemmas.trees.Finding.{some_same}
use Rattle.cm_walk.specs.Walking.{IsHopPlaced}
use Rattle.cm_walk.proofs.lemmas.ways.Monikers.{moniker_with, names-up}

-- ---- the station behind another

-- If what follows is a station, its hop tells where its instance stands.
abbrev PlacedNext : List Row → NextStation → Type 0
PlacedNext rows (To t) = IsHopPlaced rows t.hop
PlacedNext rows _ = Unit {0}

-- A station that follows by a builtin stands as its hop tells.
builtin_placed : (rows : List Row) (i : ℕ) (kind : Kind) (name : List ℕ) (o : Option Builtin) → PlacedNext rows (by_builtin rows i kind name o)
builtin_placed rows i kind name None = tt
builtin_placed rows i kind name (Some b) = refl

-- A station that follows by an offer of the parent stands as its hop tells.
offer_placed : (rows : List Row) (p : ℕ) (kind : Kind) (name : List ℕ) (o : Option Give) → PlacedNext rows (by_offer rows p kind name o)
offer_placed rows p kind name None = tt
offer_placed rows p kind name (Some g) = refl

-- A station that follows by what a parent's declaration offers stands as its hop tells.
offered_placed : (rows : List Row) (p : ℕ) (r : Row) (kind : Kind) (name : List ℕ) (o : Option Decl) → PlacedNext rows (offered_by rows p r kind name o)
offered_placed rows p r kind name None = tt
offered_placed rows p r kind name (Some d) = offer_placed rows p kind name _

-- A station that follows above an instance, at its parent or a builtin, stands as its hop tells.
above_placed : (rows : List Row) (builtins : List Builtin) (r : Row) (kind : Kind) (name : List ℕ) (o : Option ℕ) → PlacedNext rows (next_above rows builtins r kind name o)
above_placed rows builtins r kind name None = builtin_placed rows r.inc kind name _
above_placed rows builtins r kind name (Some p) = offered_placed rows p r kind name _

-- A station that follows from what the row above offers stands as its hop tells.
parent_placed : (rows : List Row) (builtins : List Builtin) (kind : Kind) (name : List ℕ) (o : Option Row) → PlacedNext rows (from_above rows builtins kind name o)
parent_placed rows builtins kind name None = tt
parent_placed rows builtins kind name (Some r) = above_placed rows builtins r kind name r.parent

-- A station that follows by an expose stands as its hop tells.
expose_placed : (rows : List Row) (j : ℕ) (kind : Kind) (name : List ℕ) (o : Option Give) → PlacedNext rows (by_expose rows j kind name o)
expose_placed rows j kind name None = tt
expose_placed rows j kind name (Some g) = refl

-- A station that follows by what a child's declaration exposes stands as its hop tells.
exposed_placed : (rows : List Row) (j : ℕ) (kind : Kind) (name : List ℕ) (o : Option Decl) → PlacedNext rows (exposed_by rows j kind name o)
exposed_placed rows j kind name None = tt
exposed_placed rows j kind name (Some d) = expose_placed rows j kind name _

-- A station that follows from a child stands as its hop tells.
child_placed : (rows : List Row) (kind : Kind) (name : List ℕ) (o : Option ℕ) → PlacedNext rows (from_child rows kind name o)
child_placed rows kind name None = tt
child_placed rows kind name (Some j) = exposed_placed rows j kind name _

-- A station that follows by a capability of the instance stands as its hop tells.
own_placed : (rows : List Row) (i : ℕ) (o : Option Capability) → PlacedNext rows (by_capability rows i o)
own_placed rows i None = tt
own_placed rows i (Some c) = refl

-- A station that follows from an origin stands as its hop tells.
source_placed : (rows : List Row) (builtins : List Builtin) (i : ℕ) (kind : Kind) (name : List ℕ) (from : Origin) → PlacedNext rows (next_from rows builtins i kind name from)
source_placed rows builtins i kind name Parent = parent_placed rows builtins kind name (row_of rows i)
source_placed rows builtins i kind name (Child c) = child_placed rows kind name (child_of rows i c)
source_placed rows builtins i kind name Own = own_placed rows i _
source_placed rows builtins i kind name Framework = refl
source_placed rows builtins i kind name Void = tt

-- A station that follows another stands as its hop tells.
station_placed : (rows : List Row) (builtins : List Builtin) (s : Station) (o : Option Origin) → PlacedNext rows (next_by rows builtins s o)
station_placed rows builtins s None = tt
station_placed rows builtins s (Some from) = source_placed rows builtins s.hop.inc s.hop.kind s.source_name from

-- the station behind another tells where its instance stands
pub next_placed : (rows : List Row) (builtins : List Builtin) (s t : Station) → next_of rows builtins s ≡ To t → IsHopPlaced rows t.hop
next_placed rows builtins s t e = subst (PlacedNext rows) e (station_placed rows builtins s s.source)

-- ---- the first station

-- If a walk has a first station, its hop tells where its instance stands.
abbrev PlacedFirst : List Row → Named → Type 0
PlacedFirst rows (First s) = IsHopPlaced rows s.hop
PlacedFirst rows _ = Unit {0}

-- A first station by a use stands as its hop tells.
used_placed : (rows : List Row) (i : ℕ) (o : Option Usage) → PlacedFirst rows (elim o as (λ _. Named) [ None ↦ NoUse | Some u ↦ First (use_station rows i u) ])
used_placed rows i None = tt
used_placed rows i (Some u) = refl

-- A first station by an expose stands as its hop tells.
exposing_placed : (rows : List Row) (i : ℕ) (missing : Hop) (o : Option Give) → PlacedFirst rows (elim o as (λ _. Named) [ None ↦ NoneExposed missing | Some g ↦ First (expose_station rows i g) ])
exposing_placed rows i missing None = tt
exposing_placed rows i missing (Some g) = refl

-- A first station by an offer stands as its hop tells.
offering_placed : (rows : List Row) (i : ℕ) (o : Option Offer) → PlacedFirst rows (elim o as (λ _. Named) [ None ↦ NoUse | Some x ↦ First (offer_station rows i x.give) ])
offering_placed rows i None = tt
offering_placed rows i (Some x) = refl

-- The first station of a walk stands as its hop tells.
start_placed : (rows : List Row) (start : Start) → PlacedFirst rows (named_by rows start)
start_placed rows (UseAt i path) = used_placed rows i _
start_placed rows (ExposeAt i name) = exposing_placed rows i _ _
start_placed rows (OfferAt i k) = offering_placed rows i _

-- The hop of the station that a start names is placed where its instance stands.
pub first_placed : (rows : List Row) (start : Start) (s : Station) → named_by rows start ≡ First s → IsHopPlaced rows s.hop
first_placed rows start s e = subst (PlacedFirst rows) e (start_placed rows start)

-- ---- the parent

-- the parent that is told of an instance is that of its row
pub told_parent : (o : Option Row) (facts : Facts) (p : ℕ) → Some facts ≡ option_map facts_of o → facts.parent ≡ Some p → option_and_then (λ r. r.parent) o ≡ Some p
told_parent None facts p told up = absurd (none-some facts (sym told))
told_parent (Some r) facts p told up = ap (λ f. f.parent) (some_same (facts_of r) facts (sym told)) ∙ up

-- A row that has a parent has a name, in orderly rows.
name_by : (rows : List Row) (next i p : ℕ) (o : Option Row) → IsOrderly rows next → row_of rows i ≡ o → option_and_then (λ r. r.parent) o ≡ Some p → IsSome (option_and_then (λ r. r.name) o)
name_by rows next i p None orderly lives up = absurd (none-some p up)
name_by rows next i p (Some r) orderly lives up = (orderly.parents i p r lives up).1

-- Where a row has a name, all names down to it but the last are those above it.
before_last : (above : List ChildName) (o : Option ChildName) → IsSome o → take (length (above ++ option_to_list o) - 1) (above ++ option_to_list o) ≡ above
before_last above None some = absurd (true≢false (sym some))
before_last above (Some c) some =
    let long : length (above ++ c ∷ []) ≡ length above + 1 = length-append above (c ∷ []) in
    let one_less : length (above ++ c ∷ []) - 1 ≡ length above = omega arith in
    ap (λ n. take n (above ++ c ∷ [])) one_less ∙ take-append_seam above (c ∷ [])

-- the names down to the parent are those down to the instance, but the last
pub names_above : (rows : List Row) (next i p : ℕ) (m : Moniker) (prefix : List ChildName) → IsOrderly rows next → m ≡ moniker_of rows i → option_and_then (λ r. r.parent) (row_of rows i) ≡ Some p → prefix ≡ take (length m.parts - 1) m.parts → moniker_with prefix ≡ moniker_of rows p
names_above rows next i p m prefix orderly placed up cut =
    let above : List ChildName = names_to (length rows) rows (Some p) in
    let name : Option ChildName = option_and_then (λ r. r.name) (row_of rows i) in
    let all : m.parts ≡ above ++ option_to_list name =
    ap (λ x. x.parts) placed ∙ names-up rows next i orderly ∙ ap (λ o. names_to (length rows) rows o ++ option_to_list name) up in
    ap moniker_with (cut ∙ ap (λ names. take (length names - 1) names) all ∙ before_last above name (name_by rows next i p (row_of rows i) orderly refl up))

-- Where a row has a name, the last name down to it is that name.
last_by : (above : List ChildName) (o : Option ChildName) (c : ChildName) → IsSome o → slice_get (above ++ option_to_list o) (length (above ++ option_to_list o) - 1) ≡ Some c → Some c ≡ o
last_by above None c some last = absurd (true≢false (sym some))
last_by above (Some n) c some last =
    let long : length (above ++ n ∷ []) ≡ length above + 1 = length-append above (n ∷ []) in
    let one_less : length (above ++ n ∷ []) - 1 ≡ length above = omega arith in
    sym last ∙ ap (slice_get (above ++ n ∷ [])) one_less ∙ slice_get_last above n

-- the last name of an instance that has a parent is its own
pub last_name : (rows : List Row) (next i p : ℕ) (m : Moniker) (c : ChildName) → IsOrderly rows next → m ≡ moniker_of rows i → option_and_then (λ r. r.parent) (row_of rows i) ≡ Some p → slice_get m.parts (length m.parts - 1) ≡ Some c → Some c ≡ option_and_then (λ r. r.name) (row_of rows i)
last_name rows next i p m c orderly placed up last =
    let above : List ChildName = names_to (length rows) rows (Some p) in
    let name : Option ChildName = option_and_then (λ r. r.name) (row_of rows i) in
    let all : m.parts ≡ above ++ option_to_list name =
    ap (λ x. x.parts) placed ∙ names-up rows next i orderly ∙ ap (λ o. names_to (length rows) rows o ++ option_to_list name) up in
    last_by above name c (name_by rows next i p (row_of rows i) orderly refl up) (sym (ap (λ names. slice_get names (length names - 1)) all) ∙ last)
