-- The stations of routes, and what walks come to, in a world that can be told of.
use Rattle.std.proofs.Common.{◌≡◌, ℕ, zero, suc, List, [], ◌∷◌, ◌++◌, reverse, length, Bool, true, false, cond, ◌&&◌, ◌==◌, Option, Some, None, find, All, IsTrue, refl, sym, subst, ◌∙◌}
use Rattle.std.specs.Prelude.{IfSome, option_and_then, option_to_list, filter_map}
use Rattle.std.specs.Str.{bytes_eq}
use Rattle.std.proofs.lemmas.Option.{none-some}
use Rattle.std.proofs.lemmas.List.Elements.{All-cons, All-append, All-tail, All-nil}
use Rattle.std.proofs.lemmas.List.{reverse-append}
use Rattle.cm_names.specs.declared.child.ChildName.{ChildName}
use Rattle.cm_names.specs.declared.availability.Availability.{Availability}
use Rattle.cm_names.specs.Availability.{fits}
use Rattle.cm_names.specs.Rights.{RightSet, contains}
use Rattle.cm_names.specs.Moniker.{IsChildName}
use Rattle.cm_names.specs.Name.{IsName}
use Rattle.cm_names.specs.Path.{is_path, is_subdir, joined_text}
use Rattle.cm_facts.proofs.Options.{IfSome_some}
use Rattle.cm_facts.proofs.Lists.{All_map, All_filter_map}
use Rattle.cm_decl.specs.Clashes.{or_else}
use Rattle.cm_decl.specs.Same.{same_kind}
use Rattle.cm_decl.specs.declared.decl.Decl.{Decl}
use Rattle.cm_decl.specs.declared.kind.Kind.{Kind}
use Rattle.cm_decl.specs.declared.kind.Kind.TheVariants.{Protocol}
use Rattle.cm_decl.specs.declared.origin.Origin.{Origin}
use Rattle.cm_decl.specs.declared.origin.Origin.TheVariants.{Parent, Own, Framework, Child, Void}
use Rattle.cm_decl.specs.declared.rows.Usage.{Usage}
use Rattle.cm_decl.specs.declared.rows.Offer.{Offer}
use Rattle.cm_decl.specs.declared.rows.Give.{Give}
use Rattle.cm_decl.specs.declared.rows.Capability.{Capability}
use Rattle.cm_world.specs.declared.row.Row.{Row}
use Rattle.cm_world.specs.declared.frame.Builtin.{Builtin}
use Rattle.cm_world.specs.declared.route.Hop.{Hop}
use Rattle.cm_world.specs.declared.route.StepKind.{StepKind}
use Rattle.cm_world.specs.declared.route.StepKind.TheVariants as step
use Rattle.cm_world.specs.declared.route.Provider.{Provider}
use Rattle.cm_world.specs.declared.route.Provider.TheVariants as provider
use Rattle.cm_world.specs.declared.route.Start.{Start}
use Rattle.cm_world.specs.declared.route.Start.TheVariants.{UseAt, ExposeAt}
use Rattle.cm_world.specs.declared.route.Walked.{Walked}
use Rattle.cm_world.specs.declared.route.Walked.TheVariants as walked
use Rattle.cm_world.specs.Rows.{row_of, decl_of, child_of, names_to, moniker_of}
use Rattle.cm_world.specs.Stations.{Station, use_station, offer_station, expose_station, bare_hop}
use Rattle.cm_world.specs.NextStation.{NextStation, To, Ends, Needs, FromVoid, NoChild, Misses, by_builtin, builtin_of, by_offer, offered, offer_of, is_offer_to, give_or, offered_by, next_above, from_above, by_expose, give_of, exposed_by, from_child, by_capability, capability_of, next_from, next_by, next_of}
use Rattle.cm_world.specs.Route.{Named, First, NoUse, NoneExposed, named_by, IsChain, route_of, weak_availability, weak_rights, unless_fitting, unless_within, is_offer_or_expose, standing, asked_rights, said_by, trial_by, trial, IsDecided, IsWalkedFrom, IsWalked}
use Rattle.cm_reply.specs.LegibleInside.{IsLegibleProvider, IsLegibleRoute, IsOfNames, IsLongPath}
use Rattle.cm_legible.specs.Tellable.{IsTellableDecl, IsTellableUsage, IsTellableGive, IsTellableRow}
use Rattle.cm_legible.proofs.lemmas.Lists.{head, find-All, and_then}
use Rattle.cm_legible.proofs.lemmas.Paths.{path_is_long, service_is_long, joined_is_long}

-- ---- names

-- What there is of a child's name, if it is proper, is a list of proper names.
last_name : (o : Option ChildName) → IfSome o IsChildName → All IsChildName (option_to_list o)
last_name None c = All-nil IsChildName
last_name (Some c) k = All-cons IsChildName c [] k (All-nil IsChildName)

-- The names down to a row are proper, where those down to its parent are.
names_by : (rows : List Row) (n : ℕ) (o : Option Row) → IfSome o IsTellableRow → ((q : Option ℕ) → All IsChildName (names_to n rows q)) → All IsChildName (elim o as (λ _. List ChildName) [ None ↦ [] | Some r ↦ names_to n rows r.parent ++ option_to_list r.name ])
names_by rows n None k above = All-nil IsChildName
names_by rows n (Some r) k above = All-append IsChildName (names_to n rows r.parent) (option_to_list r.name) (above r.parent) (last_name r.name k.name)

module _ (rows : List Row) (told : All IsTellableRow rows) where
  -- The names down to a row that can be told of are proper.
  names_told : (n : ℕ) (o : Option ℕ) → All IsChildName (names_to n rows o)
  names_told zero o = All-nil IsChildName
  names_told (suc n) None = All-nil IsChildName
  names_told (suc n) (Some i) = names_by rows n (row_of rows i) (find-All IsTellableRow (λ r. r.inc == i) rows told) (names_told n)

  -- The moniker of any row is of proper names, in rows that can be told.
  pub moniker_told : (i : ℕ) → IsOfNames (moniker_of rows i)
  moniker_told i = names_told (length rows) (Some i)

  -- The declaration of any row, if it has one, can be told, in rows that can be told.
  pub decl_told : (i : ℕ) → IfSome (decl_of rows i) IsTellableDecl
  decl_told i = and_then IsTellableRow IsTellableDecl (λ r. r.decl) (row_of rows i) (find-All IsTellableRow (λ r. r.inc == i) rows told) (λ r h. h.decl)

-- ---- stations

-- a station of names, where an end has a path
pub record IsTold (s : Station) : Type 0 where
  pub hop : IsOfNames s.hop.moniker
  pub name : IfSome s.source (λ o. IsName s.source_name)
  pub subdir : IfSome s.subdir (λ t. IsTrue (is_subdir t))
  pub path : s.source ≡ None → IsLongPath s.path

-- what comes behind a station is one; where nothing does, it is an end
abbrev NextIsTold : Station → NextStation → Type 0
NextIsTold s (To t) = IsTold t
NextIsTold s Ends = s.source ≡ None
NextIsTold s (Misses hop why) = IsOfNames hop.moniker
NextIsTold s _ = Unit {0}

-- A source that is there isn't missing.
some_source : (o : Origin) (p : Option Origin) → p ≡ Some o → p ≡ None → (A : Type 0) → A
some_source o p e f A = absurd (none-some o (sym f ∙ e))

module _ (rows : List Row) (builtins : List Builtin) (told : All IsTellableRow rows) (paths : All (λ (b : Builtin). IsLongPath b.path) builtins) (s : Station) where
  -- The station of an offer that can be told of can be told of.
  give_told : (i : ℕ) (g : Give) → IsTellableGive g → IsTold (offer_station rows i g)
  give_told i g h = record { hop = moniker_told rows told i; name = h.name; subdir = h.subdir; path = λ e. absurd (none-some g.from (sym e)) }

  -- The station of an expose that can be told of can be told of.
  exposed_told : (i : ℕ) (g : Give) → IsTellableGive g → IsTold (expose_station rows i g)
  exposed_told i g h = record { hop = moniker_told rows told i; name = h.name; subdir = h.subdir; path = λ e. absurd (none-some g.from (sym e)) }

  -- What comes behind a station from a builtin can be told of, where the builtin has a path.
  builtin_told : (i : ℕ) (kind : Kind) (name : List ℕ) (o : Option Builtin) → IfSome o (λ b. IsLongPath b.path) → NextIsTold s (by_builtin rows i kind name o)
  builtin_told i kind name None h = moniker_told rows told i
  builtin_told i kind name (Some b) h = record { hop = moniker_told rows told i; name = tt; subdir = tt; path = λ e. h }

  -- What comes behind a station by an offer can be told of, where the offer can.
  offer_told : (p : ℕ) (kind : Kind) (name : List ℕ) (o : Option Give) → IfSome o IsTellableGive → NextIsTold s (by_offer rows p kind name o)
  offer_told p kind name None h = moniker_told rows told p
  offer_told p kind name (Some g) h = give_told p g h

  -- An offer of a declaration or of a creation, whichever is there, can be told of.
  either_give : (x : Option Offer) (y : Option Give) → IfSome x (λ o. IsTellableGive o.give) → IfSome y IsTellableGive → IfSome (give_or x y) IsTellableGive
  either_give (Some o) y h k = h
  either_give None y h k = k

  -- What a declaration or a creation offers a child can be told of.
  is_given : (d : Decl) (r : Row) (kind : Kind) (name : List ℕ) → IsTellableDecl d → IsTellableRow r → (c : ChildName) → IfSome (offered d c r.gives kind name) IsTellableGive
  is_given d r kind name h k c =
      either_give (offer_of d c kind name) (give_of r.gives kind name)
      (find-All (λ o. IsTellableGive o.give) (is_offer_to c kind name) d.offers h.offers)
      (find-All IsTellableGive (λ g. same_kind g.kind kind && bytes_eq g.target_name name) r.gives k.gives)

  -- What comes behind a station by a parent's declaration can be told of.
  offered_told : (p : ℕ) (r : Row) (kind : Kind) (name : List ℕ) (o : Option Decl) → IfSome o IsTellableDecl → IsTellableRow r → NextIsTold s (offered_by rows p r kind name o)
  offered_told p r kind name None h k = tt
  offered_told p r kind name (Some d) h k =
      offer_told p kind name (option_and_then (λ c. offered d c r.gives kind name) r.name)
      (and_then IsChildName IsTellableGive (λ c. offered d c r.gives kind name) r.name k.name (λ c _. is_given d r kind name h k c))

  -- What comes behind a station from above can be told of.
  above_told : (r : Row) (kind : Kind) (name : List ℕ) (o : Option ℕ) → IsTellableRow r → NextIsTold s (next_above rows builtins r kind name o)
  above_told r kind name None k =
      builtin_told r.inc kind name (builtin_of builtins kind name) (find-All (λ b. IsLongPath b.path) (λ b. same_kind b.kind kind && bytes_eq b.name name) builtins paths)
  above_told r kind name (Some p) k = offered_told p r kind name (decl_of rows p) (decl_told rows told p) k

  -- What comes behind a station from its parent's row can be told of.
  parent_told : (kind : Kind) (name : List ℕ) (o : Option Row) → IfSome o IsTellableRow → NextIsTold s (from_above rows builtins kind name o)
  parent_told kind name None k = tt
  parent_told kind name (Some r) k = above_told r kind name r.parent k

  -- What comes behind a station by an expose can be told of, where the expose can.
  expose_told : (j : ℕ) (kind : Kind) (name : List ℕ) (o : Option Give) → IfSome o IsTellableGive → NextIsTold s (by_expose rows j kind name o)
  expose_told j kind name None h = moniker_told rows told j
  expose_told j kind name (Some g) h = exposed_told j g h

  -- What comes behind a station by a child's declaration can be told of.
  child_told : (j : ℕ) (kind : Kind) (name : List ℕ) (o : Option Decl) → IfSome o IsTellableDecl → NextIsTold s (exposed_by rows j kind name o)
  child_told j kind name None h = tt
  child_told j kind name (Some d) h =
      expose_told j kind name (give_of d.exposes kind name) (find-All IsTellableGive (λ g. same_kind g.kind kind && bytes_eq g.target_name name) d.exposes h.exposes)

  -- What comes behind a station from a child can be told of.
  kid_told : (kind : Kind) (name : List ℕ) (o : Option ℕ) → NextIsTold s (from_child rows kind name o)
  kid_told kind name None = tt
  kid_told kind name (Some j) = child_told j kind name (decl_of rows j) (decl_told rows told j)

  -- What comes behind a station by a row's own capability can be told of.
  own_told : (i : ℕ) (o : Option Capability) → IfSome o (λ c. IsTrue (is_path c.path)) → NextIsTold s (by_capability rows i o)
  own_told i None h = tt
  own_told i (Some c) h = record { hop = moniker_told rows told i; name = tt; subdir = tt; path = λ e. path_is_long c.path h }

  -- What comes behind a station from a source with a proper name can be told of.
  source_told : (i : ℕ) (kind : Kind) (name : List ℕ) (from : Origin) → IsName name → NextIsTold s (next_from rows builtins i kind name from)
  source_told i kind name Parent n = parent_told kind name (row_of rows i) (find-All IsTellableRow (λ r. r.inc == i) rows told)
  source_told i kind name (Child c) n = kid_told kind name (child_of rows i c)
  source_told i kind name Own n =
      own_told i (option_and_then (λ d. capability_of d kind name) (decl_of rows i))
      (and_then IsTellableDecl (λ c. IsTrue (is_path c.path)) (λ d. capability_of d kind name) (decl_of rows i) (decl_told rows told i)
      (λ d h. find-All (λ c. IsTrue (is_path c.path)) (λ c. same_kind c.kind kind && bytes_eq c.name name) d.capabilities h.capabilities))
  source_told i kind name Framework n = record { hop = moniker_told rows told i; name = tt; subdir = tt; path = λ e. service_is_long name n }
  source_told i kind name Void n = tt

  -- What comes behind a station, by whether it has a source, can be told of.
  next_by_told : (o : Option Origin) → s.source ≡ o → IfSome o (λ _. IsName s.source_name) → NextIsTold s (next_by rows builtins s o)
  next_by_told None e n = e
  next_by_told (Some from) e n = source_told s.hop.inc s.hop.kind s.source_name from n

  -- What comes behind a station of names is one too; where nothing comes, the station is an end.
  pub next_told : IsTold s → NextIsTold s (next_of rows builtins s)
  next_told h = next_by_told s.source refl h.name

-- ---- what walks come to

-- What a walk came to can be told: its route, or the moniker of the hop at which it ended.
abbrev pub WalkedIsTold : Walked → Type 0
WalkedIsTold (walked.Given route) = IsLegibleRoute route
WalkedIsTold (walked.Failed hop why) = IsOfNames hop.moniker
WalkedIsTold (walked.Void hop) = IsOfNames hop.moniker
WalkedIsTold _ = Unit {0}

-- What a walk comes to, if it comes to anything, can be told of.
abbrev OrTold : Option Walked → Type 0
OrTold o = IfSome o WalkedIsTold

-- Of two ends of walks that can be told of, the first that is there can be told of.
or_told : (o p : Option Walked) → OrTold o → OrTold p → OrTold (or_else o p)
or_told None p h k = k
or_told (Some v) p h k = h

-- A walk that fails by an availability can be told of, where its place is of names.
fits_told : (hop : Hop) (asked given : Option Availability) → IsOfNames hop.moniker → OrTold (unless_fitting hop asked given)
fits_told hop (Some a) (Some g) h = by (fits a g) h
  where
    by : (b : Bool) → IsOfNames hop.moniker → OrTold (cond b None (Some (walked.Failed hop (Rattle.cm_world.specs.declared.route.Why.TheVariants.AvailabilityTooWeak a g))))
    by true k = tt
    by false k = k
fits_told hop (Some a) None h = tt
fits_told hop None given h = tt

-- A walk that fails by rights can be told of, where its place is of names.
within_told : (hop : Hop) (asked stated : Option RightSet) → IsOfNames hop.moniker → OrTold (unless_within hop asked stated)
within_told hop (Some a) (Some g) h = by (contains g a) h
  where
    by : (b : Bool) → IsOfNames hop.moniker → OrTold (cond b None (Some (walked.Failed hop (Rattle.cm_world.specs.declared.route.Why.TheVariants.RightsTooWeak a g))))
    by true k = tt
    by false k = k
within_told hop (Some a) None h = tt
within_told hop None stated h = tt

-- A walk that may fail by an availability, or passes, can be told of.
available_told : (b : Bool) (hop : Hop) (x y : Option Availability) → IsOfNames hop.moniker → OrTold (cond b (unless_fitting hop x y) None)
available_told true hop x y h = fits_told hop x y h
available_told false hop x y h = tt

-- Stations that can be told of can be told of in reverse.
reverse_told : (prefix : List Station) → All IsTold prefix → All IsTold (reverse prefix)
reverse_told [] h = All-nil IsTold
reverse_told (s ∷ ss) h =
    subst (All IsTold) (sym (reverse-append (s ∷ []) ss))
    (All-append IsTold (reverse ss) (s ∷ []) (reverse_told ss (All-tail IsTold s ss h)) (All-cons IsTold s [] (head IsTold s ss h) (All-nil IsTold)))

-- The subdirectories of stations that can be told of are proper.
subdirs_told : (prefix : List Station) → All IsTold prefix → All (λ t. IsTrue (is_subdir t)) (filter_map (λ t. t.subdir) (reverse prefix))
subdirs_told prefix h = All_filter_map IsTold (λ t. IsTrue (is_subdir t)) (λ t. t.subdir) (reverse prefix) (λ t k. k.subdir) (reverse_told prefix h)

-- The path at the end of stations that can be told of is a proper path.
path_by : (prefix : List Station) (s : Station) (k : StepKind) → All IsTold prefix → IsLongPath s.path → IsLongPath (elim k as (λ _. List ℕ) [ step.FrameworkHop ↦ s.path | _ ↦ joined_text s.path (filter_map (λ t. t.subdir) (reverse prefix)) ])
path_by prefix s step.FrameworkHop h p = p
path_by prefix s step.UseHop h p = joined_is_long s.path _ p (subdirs_told prefix h)
path_by prefix s step.OfferHop h p = joined_is_long s.path _ p (subdirs_told prefix h)
path_by prefix s step.ExposeHop h p = joined_is_long s.path _ p (subdirs_told prefix h)
path_by prefix s step.CapabilityHop h p = joined_is_long s.path _ p (subdirs_told prefix h)
path_by prefix s step.BuiltinHop h p = joined_is_long s.path _ p (subdirs_told prefix h)

-- The provider at a place of names can be told of.
provider_by : (hop : Hop) (k : StepKind) → IsOfNames hop.moniker → IsLegibleProvider (elim k as (λ _. Provider) [ step.CapabilityHop ↦ provider.Instance hop.inc hop.moniker | step.BuiltinHop ↦ provider.Builtin | _ ↦ provider.Framework ])
provider_by hop step.FrameworkHop h = tt
provider_by hop step.UseHop h = tt
provider_by hop step.OfferHop h = tt
provider_by hop step.ExposeHop h = tt
provider_by hop step.CapabilityHop h = h
provider_by hop step.BuiltinHop h = tt

-- The route of stations that can be told of, to an end with a path, is legible.
route_told : (prefix : List Station) (s : Station) → All IsTold prefix → IsTold s → IsLongPath s.path → IsLegibleRoute (route_of prefix s)
route_told prefix s h k p = record {
  path = path_by prefix s s.hop.step h p;
  provider = provider_by s.hop s.hop.step k.hop;
  hops = All_map IsTold (λ (x : Hop). IsOfNames x.moniker) (λ t. t.hop) (prefix ++ s ∷ []) (λ t j. j.hop) (All-append IsTold prefix (s ∷ []) h (All-cons IsTold s [] k (All-nil IsTold)));
}

-- What is said behind a station that can be told of can be told of.
said_told : (prefix : List Station) (s : Station) (n : NextStation) → All IsTold prefix → IsTold s → NextIsTold s n → OrTold (said_by prefix s n)
said_told prefix s (To t) h k j = tt
said_told prefix s Ends h k j = route_told prefix s h k (k.path j)
said_told prefix s (Needs i) h k j = tt
said_told prefix s FromVoid h k j = k.hop
said_told prefix s NoChild h k j = k.hop
said_told prefix s (Misses hop why) h k j = j

-- The first fault at a station in availability, rights or what comes next can be told of.
others_told : (prefix : List Station) (s : Station) (n : NextStation) → All IsTold prefix → IsTold s → NextIsTold s n → OrTold (or_else (weak_availability prefix s) (or_else (weak_rights prefix s) (said_by prefix s n)))
others_told prefix s n h k j =
    or_told (weak_availability prefix s) _ (available_told (is_offer_or_expose s.hop.step) s.hop (standing prefix) (standing (prefix ++ s ∷ [])) k.hop)
    (or_told (weak_rights prefix s) _ (within_told s.hop (asked_rights (prefix ++ s ∷ [])) s.hop.rights k.hop) (said_told prefix s n h k j))

-- What the trial of a station comes to can be told of.
trial_told : (prefix : List Station) (s : Station) (n : NextStation) → All IsTold prefix → IsTold s → NextIsTold s n → OrTold (trial_by prefix s n)
trial_told prefix s NoChild h k j = k.hop
trial_told prefix s (To t) h k j = others_told prefix s (To t) h k j
trial_told prefix s Ends h k j = others_told prefix s Ends h k j
trial_told prefix s (Needs i) h k j = others_told prefix s (Needs i) h k j
trial_told prefix s FromVoid h k j = others_told prefix s FromVoid h k j
trial_told prefix s (Misses hop why) h k j = others_told prefix s (Misses hop why) h k j

module _ (rows : List Row) (builtins : List Builtin) (told : All IsTellableRow rows) (paths : All (λ (b : Builtin). IsLongPath b.path) builtins) where
  -- What a walk of stations that can be told of is decided as can be told of.
  decided_told : (prefix : List Station) (s : Station) (rest : List Station) (v : Walked) → All IsTold prefix → IsTold s → IsChain rows builtins s rest → IsDecided rows builtins prefix s rest v → WalkedIsTold v
  decided_told prefix s [] v h k chain decided =
      IfSome_some WalkedIsTold (trial rows builtins prefix s) v decided (trial_told prefix s (next_of rows builtins s) h k (next_told rows builtins told paths s k))
  decided_told prefix s (t ∷ ts) v h k chain decided =
      decided_told (prefix ++ s ∷ []) t ts v (All-append IsTold prefix (s ∷ []) h (All-cons IsTold s [] k (All-nil IsTold)))
      (subst (NextIsTold s) chain.0 (next_told rows builtins told paths s k)) chain.1 decided.1

  -- what a start names
  abbrev NamedIsTold : Named → Type 0
  NamedIsTold (First s) = IsTold s
  NamedIsTold NoUse = Unit {0}
  NamedIsTold (NoneExposed hop) = IsOfNames hop.moniker

  -- What a start at a use names can be told of.
  used_told : (i : ℕ) (o : Option Usage) → IfSome o IsTellableUsage → NamedIsTold (elim o as (λ _. Named) [ None ↦ NoUse | Some u ↦ First (use_station rows i u) ])
  used_told i None h = tt
  used_told i (Some u) h = record { hop = moniker_told rows told i; name = h.name; subdir = h.subdir; path = λ e. absurd (none-some u.from (sym e)) }

  -- What a start at an expose names can be told of.
  shown_told : (i : ℕ) (name : List ℕ) (o : Option Give) → IfSome o IsTellableGive → NamedIsTold (elim o as (λ _. Named) [ None ↦ NoneExposed (bare_hop rows step.ExposeHop i Protocol name) | Some g ↦ First (expose_station rows i g) ])
  shown_told i name None h = moniker_told rows told i
  shown_told i name (Some g) h = record { hop = moniker_told rows told i; name = h.name; subdir = h.subdir; path = λ e. absurd (none-some g.from (sym e)) }

  -- What the use of a path at a row names can be told, in rows that can be told.
  pub use_named : (i : ℕ) (path : List ℕ) → NamedIsTold (named_by rows (UseAt i path))
  use_named i path =
      used_told i (option_and_then (λ d. find (λ u. bytes_eq u.path path) d.uses) (decl_of rows i))
      (and_then IsTellableDecl IsTellableUsage (λ d. find (λ u. bytes_eq u.path path) d.uses) (decl_of rows i) (decl_told rows told i) (λ d h. find-All IsTellableUsage (λ u. bytes_eq u.path path) d.uses h.uses))

  -- What the expose of a name at a row names can be told, in rows that can be told.
  pub expose_named : (i : ℕ) (name : List ℕ) → NamedIsTold (named_by rows (ExposeAt i name))
  expose_named i name =
      shown_told i name (option_and_then (λ d. find (λ g. bytes_eq g.target_name name) d.exposes) (decl_of rows i))
      (and_then IsTellableDecl IsTellableGive (λ d. find (λ g. bytes_eq g.target_name name) d.exposes) (decl_of rows i) (decl_told rows told i) (λ d h. find-All IsTellableGive (λ g. bytes_eq g.target_name name) d.exposes h.exposes))

  -- What a walk from what is named comes to can be told of.
  from_told : (n : Named) (v : Walked) → NamedIsTold n → IsWalkedFrom rows builtins n v → WalkedIsTold v
  from_told (First s) v h walked = decided_told [] s walked.rest v (All-nil IsTold) h walked.chain walked.decided
  from_told NoUse v h walked = subst WalkedIsTold (sym walked) tt
  from_told (NoneExposed hop) v h walked = subst WalkedIsTold (sym walked) h

  -- In rows that can be told, what a walk comes to can be told where what its start names can.
  pub walked_told : (begin : Start) (v : Walked) → NamedIsTold (named_by rows begin) → IsWalked rows builtins begin v → WalkedIsTold v
  walked_told begin v h walked = from_told (named_by rows begin) v h walked
