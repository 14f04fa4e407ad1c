-- What walks read of a tree: trees that are the same without the rest have the same walks.
use Rattle.std.proofs.Common.{◌≡◌, ℕ, zero, suc, List, [], ◌∷◌, ◌++◌, Bool, true, false, cond, not, ◌&&◌, ◌==◌, Option, Some, None, find, length, map, option_map, option_and_then, option_to_list, refl, sym, ◌∙◌, ap, subst, bytes_eq}
use Rattle.std.specs.Prelude.{slice_get}
use Rattle.cm_names.specs.Path.{service_path}
use Rattle.cm_names.specs.Rights.{RightSet}
use Rattle.cm_names.specs.declared.availability.Availability.{Availability}
use Rattle.cm_names.specs.declared.child.ChildName.{ChildName}
use Rattle.cm_names.specs.declared.moniker.Moniker.{Moniker}
use Rattle.cm_decl.specs.declared.decl.Decl.{Decl}
use Rattle.cm_decl.specs.declared.kind.Kind.{Kind}
use Rattle.cm_decl.specs.declared.kind.Kind.TheVariants.{Protocol}
use Rattle.cm_decl.specs.declared.rows.Give.{Give}
use Rattle.cm_decl.specs.declared.rows.Usage.{Usage}
use Rattle.cm_decl.specs.declared.rows.Offer.{Offer}
use Rattle.cm_decl.specs.declared.rows.Capability.{Capability}
use Rattle.cm_decl.specs.declared.origin.Origin.{Origin}
use Rattle.cm_decl.specs.declared.origin.Origin.TheVariants.{Parent, Own, Framework, Child, Void}
use Rattle.cm_decl.specs.Graph.{is_strong}
use Rattle.cm_world.specs.declared.row.Row.{Row}
use Rattle.cm_world.specs.declared.frame.Builtin.{Builtin}
use Rattle.cm_world.specs.declared.route.Hop.{Hop}
use Rattle.cm_world.specs.declared.route.Start.{Start}
use Rattle.cm_world.specs.declared.route.Start.TheVariants.{UseAt, ExposeAt, OfferAt}
use Rattle.cm_world.specs.declared.route.Walked.{Walked}
use Rattle.cm_world.specs.declared.route.StepKind.{StepKind}
use Rattle.cm_world.specs.declared.route.StepKind.TheVariants.{UseHop, OfferHop, ExposeHop, CapabilityHop, FrameworkHop, BuiltinHop}
use Rattle.cm_world.specs.declared.route.Why.TheVariants.{NoOffer, NoExpose, NoBuiltin}
use Rattle.cm_world.specs.Rows.{row_of, decl_of, child_of, moniker_of, names_to, has_parent, has_name}
use Rattle.cm_world.specs.Stations.{Station, hop_at, bare_hop, use_station, offer_station, expose_station, end_station}
use Rattle.cm_world.specs.NextStation.{To, Misses, next_of, next_by, next_from, from_above, next_above, by_builtin, builtin_of, offered_by, offered, by_offer, from_child, exposed_by, by_expose, give_of, by_capability, capability_of}
use Rattle.cm_world.specs.Route.{Named, First, NoUse, NoneExposed, named_by, IsChain, IsDecided, IsWalkedFrom, trial, trial_by}
use Rattle.cm_cache.specs.Right.{bare}
use Rattle.cm_cache.specs.Laws.{WalksReadBareRows}

-- ---- rows without what no walk reads

-- What is found among rows as walks read them is the row found, as they read it, row by row.
bare_by : (t : Bool) (x : Row) (o p : Option Row) → p ≡ option_map bare o → cond t (Some (bare x)) p ≡ option_map bare (cond t (Some x) o)
bare_by true x o p later = refl
bare_by false x o p later = later

-- a row that is found by what is left is found as it was
find-bare : (test : Row → Bool) → ((r : Row) → test (bare r) ≡ test r) → (rows : List Row) → find test (map bare rows) ≡ option_map bare (find test rows)
find-bare test same [] = refl
find-bare test same (x ∷ xs) =
    ap (λ t. cond t (Some (bare x)) (find test (map bare xs))) (same x)
    ∙ bare_by (test x) x (find test xs) (find test (map bare xs)) (find-bare test same xs)

-- There are as many rows as walks read them as rows.
length-bare : (rows : List Row) → length (map bare rows) ≡ length rows
length-bare [] = refl
length-bare (x ∷ xs) = ap suc (length-bare xs)

-- what is read of a row is read of the bare row
read_bare : {B : Type 0} (g : Row → Option B) → ((r : Row) → g (bare r) ≡ g r) → (o : Option Row) → option_and_then g (option_map bare o) ≡ option_and_then g o
read_bare g same None = refl
read_bare g same (Some r) = same r

-- A row as walks read it has the same incarnation, if there is a row.
inc_bare : (o : Option Row) → option_map (λ r. r.inc) (option_map bare o) ≡ option_map (λ r. r.inc) o
inc_bare None = refl
inc_bare (Some r) = refl

-- The names down to a row that was found, at most so many, or none where none was.
abbrev names_at : ℕ → List Row → Option Row → List ChildName
names_at n rows o =
    elim o as (λ _. List ChildName) [ None ↦ [] | Some r ↦ names_to n rows r.parent ++ option_to_list r.name ]

-- The names down to a found row are the same for the row as walks read it.
names_bare : (n : ℕ) (rows : List Row) (o : Option Row) → names_at n rows (option_map bare o) ≡ names_at n rows o
names_bare n rows None = refl
names_bare n rows (Some r) = refl

-- ---- trees of which walks read the same

-- Two trees in which rows as walks read them, declarations, children and monikers are the same.
pub record ReadsSame (a b : List Row) : Type 0 where
  pub rows : (i : ℕ) → option_map bare (row_of a i) ≡ option_map bare (row_of b i)
  pub decls : (i : ℕ) → decl_of a i ≡ decl_of b i
  pub children : (p : ℕ) (c : ChildName) → child_of a p c ≡ child_of b p c
  pub monikers : (i : ℕ) → moniker_of a i ≡ moniker_of b i

module _ (a b : List Row) (bares : map bare a ≡ map bare b) where
  -- A search by what walks read finds the same row, as they read it, in both trees.
  found_same : (test : Row → Bool) → ((r : Row) → test (bare r) ≡ test r) → option_map bare (find test a) ≡ option_map bare (find test b)
  found_same test same = sym (find-bare test same a) ∙ ap (find test) bares ∙ find-bare test same b

  -- The row of an incarnation is the same in both trees as walks read it.
  rows_same : (i : ℕ) → option_map bare (row_of a i) ≡ option_map bare (row_of b i)
  rows_same i = found_same (λ r. r.inc == i) (λ r. refl)

  -- An incarnation has the same declaration in both trees.
  decls_same : (i : ℕ) → decl_of a i ≡ decl_of b i
  decls_same i =
      sym (read_bare (λ r. r.decl) (λ r. refl) (row_of a i)) ∙ ap (λ o. option_and_then (λ r. r.decl) o) (rows_same i)
      ∙ read_bare (λ r. r.decl) (λ r. refl) (row_of b i)

  -- Whether a row is the child of a name and isn't doomed.
  abbrev is_child : ℕ → ChildName → Row → Bool
  is_child p c r = has_parent p r && has_name c r && not r.doomed

  -- The child of a name is the same in both trees.
  children_same : (p : ℕ) (c : ChildName) → child_of a p c ≡ child_of b p c
  children_same p c =
      sym (inc_bare (find (is_child p c) a)) ∙ ap (λ o. option_map (λ r. r.inc) o) (found_same (is_child p c) (λ r. refl))
      ∙ inc_bare (find (is_child p c) b)

  -- The names down to a found row are the same in both trees, where those of all above are.
  names_step : (n : ℕ) (o : Option Row) → ((i : Option ℕ) → names_to n a i ≡ names_to n b i) → names_at n a o ≡ names_at n b o
  names_step n None later = refl
  names_step n (Some r) later = ap (λ names. names ++ option_to_list r.name) (later r.parent)

  -- The names down to an incarnation are the same in both trees.
  names_same : (n : ℕ) (i : Option ℕ) → names_to n a i ≡ names_to n b i
  names_same zero i = refl
  names_same (suc n) None = refl
  names_same (suc n) (Some i) =
      sym (names_bare n a (row_of a i)) ∙ ap (names_at n a) (rows_same i) ∙ names_bare n a (row_of b i)
      ∙ names_step n (row_of b i) (names_same n)

  -- Both trees have the same number of rows.
  lengths_same : length a ≡ length b
  lengths_same = sym (length-bare a) ∙ ap length bares ∙ length-bare b

  -- An incarnation has the same moniker in both trees.
  monikers_same : (i : ℕ) → moniker_of a i ≡ moniker_of b i
  monikers_same i =
      ap moniker_by (names_same (length a) (Some i) ∙ ap (λ n. names_to n b (Some i)) lengths_same) where
        moniker_by : List ChildName → Moniker
        moniker_by parts = record { parts = parts }

  -- bare rows that are the same are all that a walk reads
  pub reads_same : ReadsSame a b
  reads_same = record {
    rows = rows_same;
    decls = decls_same;
    children = children_same;
    monikers = monikers_same;
  }

-- ---- from station to station

-- A hop by its moniker, its step and what else it tells.
abbrev hop_by : Moniker → StepKind → ℕ → Kind → List ℕ → Option RightSet → Option Availability → Bool → Hop
hop_by m step i kind name rights availability strong = record {
  step = step;
  inc = i;
  moniker = m;
  kind = kind;
  name = name;
  rights = rights;
  availability = availability;
  strong = strong;
}

-- The station of a use, by its hop.
abbrev use_by : Hop → Usage → Station
use_by h u = record { hop = h; source = Some u.from; source_name = u.name; subdir = u.subdir; path = [] }

-- The station of a give, by its hop.
abbrev give_by : Hop → Give → Station
give_by h g = record { hop = h; source = Some g.from; source_name = g.source_name; subdir = g.subdir; path = [] }

-- What comes from the row above is the same for that row as walks read it.
above_bare : (rows : List Row) (builtins : List Builtin) (kind : Kind) (name : List ℕ) (o : Option Row) → from_above rows builtins kind name (option_map bare o) ≡ from_above rows builtins kind name o
above_bare rows builtins kind name None = refl
above_bare rows builtins kind name (Some r) = parted r.parent where
  parted : (p : Option ℕ) → next_above rows builtins (bare r) kind name p ≡ next_above rows builtins r kind name p
  parted None = refl
  parted (Some p) = offers (decl_of rows p) where
    offers : (d : Option Decl) → offered_by rows p (bare r) kind name d ≡ offered_by rows p r kind name d
    offers None = refl
    offers (Some d) = refl

module _ (a b : List Row) (builtins : List Builtin) (same : ReadsSame a b) where
  -- A hop at an instance is the same in both trees.
  hop_same : (step : StepKind) (i : ℕ) (kind : Kind) (name : List ℕ) (rights : Option RightSet) (availability : Option Availability) (strong : Bool) → hop_at a step i kind name rights availability strong ≡ hop_at b step i kind name rights availability strong
  hop_same step i kind name rights availability strong =
      ap (λ m. hop_by m step i kind name rights availability strong) (same.monikers i)

  -- The station of a use is the same in both trees.
  use_same : (i : ℕ) (u : Usage) → use_station a i u ≡ use_station b i u
  use_same i u =
      ap (λ h. use_by h u) (hop_same UseHop i u.kind u.name u.rights (Some u.availability) (is_strong u.dependency))

  -- The station of a give is the same in both trees.
  give_same : (step : StepKind) (i : ℕ) (g : Give) (strong : Bool) → give_by (hop_at a step i g.kind g.target_name g.rights (Some g.availability) strong) g ≡ give_by (hop_at b step i g.kind g.target_name g.rights (Some g.availability) strong) g
  give_same step i g strong = ap (λ h. give_by h g) (hop_same step i g.kind g.target_name g.rights (Some g.availability) strong)

  -- What follows by a builtin is the same in both trees.
  builtin_same : (i : ℕ) (kind : Kind) (name : List ℕ) (o : Option Builtin) → by_builtin a i kind name o ≡ by_builtin b i kind name o
  builtin_same i kind name None = ap (λ h. Misses h NoBuiltin) (hop_same BuiltinHop i kind name None None true)
  builtin_same i kind name (Some x) =
      ap (λ h. To (end_station h x.path)) (hop_same BuiltinHop i x.kind x.name x.rights None true)

  -- What follows by an offer is the same in both trees.
  offer_same : (p : ℕ) (kind : Kind) (name : List ℕ) (o : Option Give) → by_offer a p kind name o ≡ by_offer b p kind name o
  offer_same p kind name None = ap (λ h. Misses h NoOffer) (hop_same OfferHop p kind name None None true)
  offer_same p kind name (Some g) = ap To (give_same OfferHop p g (is_strong g.dependency))

  -- What follows by what a parent's declaration offers is the same in both trees.
  offered_same : (p : ℕ) (r : Row) (kind : Kind) (name : List ℕ) (d : Option Decl) → offered_by a p r kind name d ≡ offered_by b p r kind name d
  offered_same p r kind name None = refl
  offered_same p r kind name (Some d) = offer_same p kind name (option_and_then (λ c. offered d c r.gives kind name) r.name)

  -- What follows above a row is the same in both trees.
  next_above_same : (r : Row) (kind : Kind) (name : List ℕ) (p : Option ℕ) → next_above a builtins r kind name p ≡ next_above b builtins r kind name p
  next_above_same r kind name None = builtin_same r.inc kind name (builtin_of builtins kind name)
  next_above_same r kind name (Some p) =
      offered_same p r kind name (decl_of a p) ∙ ap (offered_by b p r kind name) (same.decls p)

  -- What comes from a found row above is the same in both trees.
  above_by : (kind : Kind) (name : List ℕ) (o : Option Row) → from_above a builtins kind name o ≡ from_above b builtins kind name o
  above_by kind name None = refl
  above_by kind name (Some r) = next_above_same r kind name r.parent

  -- What comes from the row of an incarnation above is the same in both trees.
  above_same : (i : ℕ) (kind : Kind) (name : List ℕ) → from_above a builtins kind name (row_of a i) ≡ from_above b builtins kind name (row_of b i)
  above_same i kind name =
      sym (above_bare a builtins kind name (row_of a i)) ∙ ap (from_above a builtins kind name) (same.rows i)
      ∙ above_bare a builtins kind name (row_of b i) ∙ above_by kind name (row_of b i)

  -- What follows by an expose is the same in both trees.
  expose_same : (j : ℕ) (kind : Kind) (name : List ℕ) (o : Option Give) → by_expose a j kind name o ≡ by_expose b j kind name o
  expose_same j kind name None = ap (λ h. Misses h NoExpose) (hop_same ExposeHop j kind name None None true)
  expose_same j kind name (Some g) = ap To (give_same ExposeHop j g true)

  -- What follows by what a child's declaration exposes is the same in both trees.
  exposed_same : (j : ℕ) (kind : Kind) (name : List ℕ) (d : Option Decl) → exposed_by a j kind name d ≡ exposed_by b j kind name d
  exposed_same j kind name None = refl
  exposed_same j kind name (Some d) = expose_same j kind name (give_of d.exposes kind name)

  -- What follows from a child is the same in both trees.
  child_same : (kind : Kind) (name : List ℕ) (o : Option ℕ) → from_child a kind name o ≡ from_child b kind name o
  child_same kind name None = refl
  child_same kind name (Some j) = exposed_same j kind name (decl_of a j) ∙ ap (exposed_by b j kind name) (same.decls j)

  -- What follows by a capability of the instance is the same in both trees.
  own_same : (i : ℕ) (o : Option Capability) → by_capability a i o ≡ by_capability b i o
  own_same i None = refl
  own_same i (Some c) = ap (λ h. To (end_station h c.path)) (hop_same CapabilityHop i c.kind c.name c.rights None true)

  -- What follows from an origin is the same in both trees.
  from_same : (i : ℕ) (kind : Kind) (name : List ℕ) (from : Origin) → next_from a builtins i kind name from ≡ next_from b builtins i kind name from
  from_same i kind name Parent = above_same i kind name
  from_same i kind name (Child c) = child_same kind name (child_of a i c) ∙ ap (from_child b kind name) (same.children i c)
  from_same i kind name Own =
      own_same i (option_and_then (λ d. capability_of d kind name) (decl_of a i))
      ∙ ap (λ d. by_capability b i (option_and_then (λ x. capability_of x kind name) d)) (same.decls i)
  from_same i kind name Framework =
      ap (λ h. To (end_station h (service_path name))) (hop_same FrameworkHop i kind name None None true)
  from_same i kind name Void = refl

  -- What follows a station is the same in both trees.
  next_by_same : (s : Station) (o : Option Origin) → next_by a builtins s o ≡ next_by b builtins s o
  next_by_same s None = refl
  next_by_same s (Some from) = from_same s.hop.inc s.hop.kind s.source_name from

  -- each station has the same next
  next_same : (s : Station) → next_of a builtins s ≡ next_of b builtins s
  next_same s = next_by_same s s.source

  -- ---- walks

  -- The first station of a use, or that there is no such use.
  abbrev used : List Row → ℕ → Option Usage → Named
  used rows i o = elim o as (λ _. Named) [ None ↦ NoUse | Some u ↦ First (use_station rows i u) ]

  -- The first station of an expose, or that none is exposed.
  abbrev exposed : List Row → ℕ → List ℕ → Option Give → Named
  exposed rows i name o = elim o as (λ _. Named) [
    | None ↦ NoneExposed (bare_hop rows ExposeHop i Protocol name)
    | Some g ↦ First (expose_station rows i g)
  ]

  -- The first station of an offer, or that there is no such use.
  abbrev given : List Row → ℕ → Option Offer → Named
  given rows i o = elim o as (λ _. Named) [ None ↦ NoUse | Some x ↦ First (offer_station rows i x.give) ]

  -- The first station of a use is the same in both trees.
  used_same : (i : ℕ) (o : Option Usage) → used a i o ≡ used b i o
  used_same i None = refl
  used_same i (Some u) = ap First (use_same i u)

  -- The first station of an expose is the same in both trees.
  exposed_named : (i : ℕ) (name : List ℕ) (o : Option Give) → exposed a i name o ≡ exposed b i name o
  exposed_named i name None = ap NoneExposed (hop_same ExposeHop i Protocol name None None true)
  exposed_named i name (Some g) = ap First (give_same ExposeHop i g true)

  -- The first station of an offer is the same in both trees.
  given_same : (i : ℕ) (o : Option Offer) → given a i o ≡ given b i o
  given_same i None = refl
  given_same i (Some x) = ap First (give_same OfferHop i x.give (is_strong x.give.dependency))

  -- What a walk begins with is the same in both trees.
  named_same : (begin : Start) → named_by a begin ≡ named_by b begin
  named_same (UseAt i path) =
      used_same i (option_and_then (λ d. find (λ u. bytes_eq u.path path) d.uses) (decl_of a i))
      ∙ ap (λ d. used b i (option_and_then (λ x. find (λ u. bytes_eq u.path path) x.uses) d)) (same.decls i)
  named_same (ExposeAt i name) =
      exposed_named i name (option_and_then (λ d. find (λ g. bytes_eq g.target_name name) d.exposes) (decl_of a i))
      ∙ ap (λ d. exposed b i name (option_and_then (λ x. find (λ g. bytes_eq g.target_name name) x.exposes) d)) (same.decls i)
  named_same (OfferAt i k) =
      given_same i (option_and_then (λ d. slice_get d.offers k) (decl_of a i))
      ∙ ap (λ d. given b i (option_and_then (λ x. slice_get x.offers k) d)) (same.decls i)

  -- Stations that follow one another in one tree do so in the other.
  chain_same : (s : Station) (ts : List Station) → IsChain a builtins s ts → IsChain b builtins s ts
  chain_same s [] chain = tt
  chain_same s (t ∷ ts) chain = (sym (next_same s) ∙ chain.0, chain_same t ts chain.1)

  -- What a walk comes to at a station is the same in both trees.
  trial_same : (prefix : List Station) (s : Station) → trial a builtins prefix s ≡ trial b builtins prefix s
  trial_same prefix s = ap (trial_by prefix s) (next_same s)

  -- A walk that is decided at a station of one tree is decided so in the other.
  decided_same : (prefix : List Station) (s : Station) (ts : List Station) (v : Walked) → IsDecided a builtins prefix s ts v → IsDecided b builtins prefix s ts v
  decided_same prefix s [] v decided = sym (trial_same prefix s) ∙ decided
  decided_same prefix s (t ∷ ts) v decided =
      (sym (trial_same prefix s) ∙ decided.0, decided_same (prefix ++ s ∷ []) t ts v decided.1)

  -- What a walk from its first station comes to in one tree it comes to in the other.
  walked_from_same : (n : Named) (v : Walked) → IsWalkedFrom a builtins n v → IsWalkedFrom b builtins n v
  walked_from_same (First s) v walked = record {
    rest = walked.rest;
    chain = chain_same s walked.rest walked.chain;
    decided = decided_same [] s walked.rest v walked.decided;
  }
  walked_from_same NoUse v walked = walked
  walked_from_same (NoneExposed hop) v walked = walked

  -- Where two trees are read the same, a walk comes to the same in both.
  pub walked_same : (begin : Start) (v : Walked) → IsWalkedFrom a builtins (named_by a begin) v → IsWalkedFrom b builtins (named_by b begin) v
  walked_same begin v walked =
      subst (λ n. IsWalkedFrom b builtins n v) (named_same begin) (walked_from_same (named_by a begin) v walked)

-- trees that are the same without what no walk reads have the same walks
pub walks_read_bare_rows : WalksReadBareRows
walks_read_bare_rows rows others builtins begin v bares walked =
    walked_same rows others builtins (reads_same rows others bares) begin v walked
