-- Rows that stand: they live, aren't doomed, and aren't below a doomed row. Each next station of a route is at such a row, and
-- so is what a walk along it names.
use Rattle.std.proofs.Common.{◌≡◌, ℕ, List, [], ◌∷◌, ◌++◌, map, Bool, true, false, cond, not, ◌&&◌, ◌||◌, Option, Some, None, find, slice_get, is_some, option_map, option_and_then, IsTrue, refl, sym, ◌∙◌, ap, subst, inl, inr}
use Rattle.std.specs.List.{list_all}
use Rattle.std.specs.Str.{bytes_eq}
use Rattle.std.proofs.lemmas.List.Folds.{list_all-map, list_all-append}
use Rattle.std.specs.Cmp.{first_so, second_so}
use Rattle.std.proofs.lemmas.Bool.{not-true}
use Rattle.cm_names.specs.declared.availability.Availability.{Availability}
use Rattle.cm_names.specs.Availability.{fits}
use Rattle.cm_names.specs.Rights.{RightSet, contains}
use Rattle.cm_names.specs.declared.child.ChildName.{ChildName}
use Rattle.cm_facts.proofs.Booleans.{true_and_false}
use Rattle.cm_facts.proofs.Options.{option_eq_some}
use Rattle.cm_decl.specs.Clashes.{or_else}
use Rattle.cm_decl.specs.declared.decl.Decl.{Decl}
use Rattle.cm_decl.specs.declared.kind.Kind.{Kind}
use Rattle.cm_decl.specs.declared.kind.Kind.TheVariants.{Protocol}
use Rattle.cm_decl.specs.declared.origin.Origin.{Origin}
use Rattle.cm_decl.specs.declared.origin.Origin.TheVariants.{Parent, Own, Framework, Child, Void}
use Rattle.cm_decl.specs.declared.rows.Usage.{Usage}
use Rattle.cm_decl.specs.declared.rows.Offer.{Offer}
use Rattle.cm_decl.specs.declared.rows.Give.{Give}
use Rattle.cm_decl.specs.declared.rows.Capability.{Capability}
use Rattle.cm_world.specs.declared.row.Row.{Row}
use Rattle.cm_world.specs.declared.frame.Builtin.{Builtin}
use Rattle.cm_world.specs.declared.route.Hop.{Hop}
use Rattle.cm_world.specs.declared.route.StepKind.{StepKind}
use Rattle.cm_world.specs.declared.route.StepKind.TheVariants as step
use Rattle.cm_world.specs.declared.route.Why.{Why}
use Rattle.cm_world.specs.declared.route.Start.{Start}
use Rattle.cm_world.specs.declared.route.Start.TheVariants.{UseAt, ExposeAt, OfferAt}
use Rattle.cm_world.specs.declared.route.Walked.{Walked}
use Rattle.cm_world.specs.declared.route.Walked.TheVariants as walked
use Rattle.cm_world.specs.Rows.{row_of, decl_of, child_of, has_parent, has_name, some_above, is_gone}
use Rattle.cm_world.specs.Sound.{IsOrderly, IsParent}
use Rattle.cm_world.specs.Stations.{Station, use_station, offer_station, expose_station, bare_hop}
use Rattle.cm_world.specs.NextStation.{NextStation, To, Ends, Needs, FromVoid, NoChild, Misses, by_builtin, builtin_of, by_offer, offered, offered_by, next_above, from_above, by_expose, give_of, exposed_by, from_child, by_capability, capability_of, next_from, next_by, next_of}
use Rattle.cm_world.specs.Route.{Named, First, NoUse, NoneExposed, named_by, IsChain, provider_of, route_of, weak_availability, weak_rights, unless_fitting, unless_within, is_offer_or_expose, standing as available, asked_rights, said_by, trial_by, IsDecided, IsWalkedFrom, IsWalked}
use Rattle.cm_world.proofs.lemmas.trees.Finding.{none_some, some_same, row_of-inc, find-passes}
use Rattle.cm_world.proofs.lemmas.trees.Walks.{find-lives}
use Rattle.cm_trees.proofs.trees.Trees.{and_pair, not_true}
use Rattle.cm_laws.specs.Destroying.{incs_of_provider, incs_of_route}
use Rattle.cm_laws.proofs.lemmas.sound.Above.{above_up, above_cases}

-- a row that isn't gone
abbrev pub stands : List Row → ℕ → Bool
stands rows i = not (is_gone rows i)

-- a row that is doomed, or below a doomed one
abbrev pub is_doomed : List Row → ℕ → Bool
is_doomed rows i = some_above (λ r. r.doomed) rows i

-- What is true is true together with what always is.
pub one : (b : Bool) → b ≡ true → (b && true) ≡ true
one b e = and_pair b true e refl

module _ (rows : List Row) (next : ℕ) (orderly : IsOrderly rows next) where
  -- ---- up and down the tree

  -- What isn't so by either of two isn't so by the second.
  spared_by : (a b : Bool) → IsTrue (not (a || b)) → b ≡ false
  spared_by true b h = true_and_false false h refl
  spared_by false b h = not-true b h

  -- A row that stands is neither doomed nor below a doomed row.
  spared : (i : ℕ) → IsTrue (stands rows i) → is_doomed rows i ≡ false
  spared i h = spared_by (not (is_some (row_of rows i))) (is_doomed rows i) h

  -- A row that lives, and neither is doomed nor below a doomed one, stands.
  pub standing : (i : ℕ) (r : Row) → row_of rows i ≡ Some r → is_doomed rows i ≡ false → IsTrue (stands rows i)
  standing i r lives e =
      ap (λ o. not (not (is_some o) || is_doomed rows i)) lives ∙ ap not e

  -- the parent of a row that stands
  pub stands_up : (i p : ℕ) (r : Row) → row_of rows i ≡ Some r → r.parent ≡ Some p → IsTrue (stands rows i) → IsTrue (stands rows p)
  stands_up i p r lives up h =
      let parent : IsParent rows p i = (orderly.parents i p r lives up).0 in
      standing p parent.row parent.lives
      (not_true (is_doomed rows p) (λ above. true_and_false (is_doomed rows i) (above_up (λ s. s.doomed) rows next orderly i p r lives up above) (spared i h)))

  -- a child of one, if it isn't doomed
  pub stands_down : (i p : ℕ) (r : Row) → row_of rows i ≡ Some r → r.parent ≡ Some p → r.doomed ≡ false → IsTrue (stands rows p) → IsTrue (stands rows i)
  stands_down i p r lives up undoomed h = standing i r lives (not_true (is_doomed rows i) by_cases) where
    by_cases : IsTrue (is_doomed rows i) → ⊥
    by_cases above = elim (above_cases (λ s. s.doomed) rows next orderly i r lives above) [
      | inl here ↦ true_and_false r.doomed here undoomed
      | inr higher ↦
          let same : higher.0 ≡ p = some_same higher.0 p (sym higher.1 ∙ up) in
          true_and_false (is_doomed rows p) (subst (λ j. IsTrue (is_doomed rows j)) same higher.2) (spared p h)
    ]

  -- A child that is found by its name below a row that stands stands.
  found_child : (p j : ℕ) (c : ChildName) (o : Option Row) → find (λ r. has_parent p r && has_name c r && not r.doomed) rows ≡ o → option_map (λ r. r.inc) o ≡ Some j → IsTrue (stands rows p) → IsTrue (stands rows j)
  found_child p j c None f e h = absurd (none_some j e)
  found_child p j c (Some r) f e h =
      let test : Row → Bool = λ r. has_parent p r && has_name c r && not r.doomed in
      let passes : IsTrue (test r) = find-passes test rows r f in
      let named : IsTrue (has_parent p r && has_name c r) = first_so (has_parent p r && has_name c r) (not r.doomed) passes in
      subst (λ i. IsTrue (stands rows i)) (some_same r.inc j e)
      (stands_down r.inc p r (find-lives test rows next r orderly.increasing f) (option_eq_some r.parent p (first_so (has_parent p r) (has_name c r) named)) (not-true r.doomed (second_so (has_parent p r && has_name c r) (not r.doomed) passes)) h)

  -- a child that is found by its name
  pub child_stands : (p j : ℕ) (c : ChildName) → child_of rows p c ≡ Some j → IsTrue (stands rows p) → IsTrue (stands rows j)
  child_stands p j c e h = found_child p j c (find (λ r. has_parent p r && has_name c r && not r.doomed) rows) refl e h

  -- ---- what comes behind a station

  -- Whether a station that follows is at a row that stands, if one follows.
  abbrev next_stands : NextStation → Bool
  next_stands (To t) = stands rows t.hop.inc
  next_stands (Needs j) = stands rows j
  next_stands (Misses hop reason) = stands rows hop.inc
  next_stands _ = true

  -- What follows by a builtin is at a row that stands, where the instance stands.
  builtin_stands : (i : ℕ) (kind : Kind) (name : List ℕ) (o : Option Builtin) → IsTrue (stands rows i) → IsTrue (next_stands (by_builtin rows i kind name o))
  builtin_stands i kind name None h = h
  builtin_stands i kind name (Some b) h = h

  -- What follows by an offer of the parent is at a row that stands, where the parent stands.
  offer_stands : (p : ℕ) (kind : Kind) (name : List ℕ) (o : Option Give) → IsTrue (stands rows p) → IsTrue (next_stands (by_offer rows p kind name o))
  offer_stands p kind name None h = h
  offer_stands p kind name (Some g) h = h

  -- What follows by the parent's declaration is at a row that stands, where the parent stands.
  offered_stands : (p : ℕ) (r : Row) (kind : Kind) (name : List ℕ) (o : Option Decl) → IsTrue (stands rows p) → IsTrue (next_stands (offered_by rows p r kind name o))
  offered_stands p r kind name None h = h
  offered_stands p r kind name (Some d) h =
      offer_stands p kind name (option_and_then (λ c. offered d c r.gives kind name) r.name) h

  -- What follows above a row that stands is at a row that stands.
  above_stands : (builtins : List Builtin) (i : ℕ) (r : Row) (kind : Kind) (name : List ℕ) (o : Option ℕ) → row_of rows i ≡ Some r → r.parent ≡ o → IsTrue (stands rows i) → IsTrue (next_stands (next_above rows builtins r kind name o))
  above_stands builtins i r kind name None lives up h =
      builtin_stands r.inc kind name (builtin_of builtins kind name)
      (subst (λ j. IsTrue (stands rows j)) (sym (row_of-inc rows i r lives)) h)
  above_stands builtins i r kind name (Some p) lives up h =
      offered_stands p r kind name (decl_of rows p) (stands_up i p r lives up h)

  -- What follows from above an instance that stands, if its row is there, is at a row that stands.
  parent_stands : (builtins : List Builtin) (i : ℕ) (kind : Kind) (name : List ℕ) (o : Option Row) → row_of rows i ≡ o → IsTrue (stands rows i) → IsTrue (next_stands (from_above rows builtins kind name o))
  parent_stands builtins i kind name None lives h = refl
  parent_stands builtins i kind name (Some r) lives h = above_stands builtins i r kind name r.parent lives refl h

  -- What follows by an expose of a child is at a row that stands, where the child stands.
  expose_stands : (j : ℕ) (kind : Kind) (name : List ℕ) (o : Option Give) → IsTrue (stands rows j) → IsTrue (next_stands (by_expose rows j kind name o))
  expose_stands j kind name None h = h
  expose_stands j kind name (Some g) h = h

  -- What follows by a child's declaration is at a row that stands, where the child stands.
  exposed_stands : (j : ℕ) (kind : Kind) (name : List ℕ) (o : Option Decl) → IsTrue (stands rows j) → IsTrue (next_stands (exposed_by rows j kind name o))
  exposed_stands j kind name None h = h
  exposed_stands j kind name (Some d) h = expose_stands j kind name (give_of d.exposes kind name) h

  -- What follows from a child, if it is there, is at a row that stands, where the parent stands.
  kid_stands : (i : ℕ) (c : ChildName) (kind : Kind) (name : List ℕ) (o : Option ℕ) → child_of rows i c ≡ o → IsTrue (stands rows i) → IsTrue (next_stands (from_child rows kind name o))
  kid_stands i c kind name None found h = refl
  kid_stands i c kind name (Some j) found h = exposed_stands j kind name (decl_of rows j) (child_stands i j c found h)

  -- What follows by an instance's capability is at a row that stands, where the instance stands.
  own_stands : (i : ℕ) (o : Option Capability) → IsTrue (stands rows i) → IsTrue (next_stands (by_capability rows i o))
  own_stands i None h = refl
  own_stands i (Some c) h = h

  -- What follows from an origin is at a row that stands, where the instance stands.
  source_stands : (builtins : List Builtin) (i : ℕ) (kind : Kind) (name : List ℕ) (from : Origin) → IsTrue (stands rows i) → IsTrue (next_stands (next_from rows builtins i kind name from))
  source_stands builtins i kind name Parent h = parent_stands builtins i kind name (row_of rows i) refl h
  source_stands builtins i kind name (Child c) h = kid_stands i c kind name (child_of rows i c) refl h
  source_stands builtins i kind name Own h =
      own_stands i (option_and_then (λ d. capability_of d kind name) (decl_of rows i)) h
  source_stands builtins i kind name Framework h = h
  source_stands builtins i kind name Void h = refl

  -- What follows a station at a row that stands is at a row that stands.
  behind_stands : (builtins : List Builtin) (s : Station) (o : Option Origin) → IsTrue (stands rows s.hop.inc) → IsTrue (next_stands (next_by rows builtins s o))
  behind_stands builtins s None h = refl
  behind_stands builtins s (Some from) h = source_stands builtins s.hop.inc s.hop.kind s.source_name from h

  -- ---- what a walk names

  -- The incarnations that a walk's outcome names.
  abbrev pub incs_of_walked : Walked → List ℕ
  incs_of_walked (walked.Given route) = incs_of_route route
  incs_of_walked (walked.Failed hop reason) = hop.inc ∷ []
  incs_of_walked (walked.Need j) = j ∷ []
  incs_of_walked (walked.Void hop) = hop.inc ∷ []
  incs_of_walked walked.NoSuchUse = []

  -- Whether all rows that a walk's outcome names stand.
  abbrev pub walked_stands : Walked → Bool
  walked_stands v = list_all (stands rows) (incs_of_walked v)

  -- if it is decided
  abbrev decided_stands : Option Walked → Bool
  decided_stands None = true
  decided_stands (Some v) = walked_stands v

  -- Whether all these stations are at rows that stand.
  abbrev prefix_stands : List Station → Bool
  prefix_stands prefix = list_all (λ t. stands rows t.hop.inc) prefix

  -- Stations at rows that stand are so with one more at a row that stands.
  prefix_push : (prefix : List Station) (s : Station) → IsTrue (prefix_stands prefix) → IsTrue (stands rows s.hop.inc) → IsTrue (prefix_stands (prefix ++ s ∷ []))
  prefix_push prefix s before here =
      list_all-append (λ t. stands rows t.hop.inc) prefix (s ∷ [])
      ∙ and_pair (prefix_stands prefix) (prefix_stands (s ∷ [])) before (one (stands rows s.hop.inc) here)

  -- The provider at a hop whose row stands names rows that stand.
  provider_stands : (h : Hop) (k : StepKind) → h.step ≡ k → IsTrue (stands rows h.inc) → IsTrue (list_all (stands rows) (incs_of_provider (provider_of h)))
  provider_stands h step.CapabilityHop e here = rw e (one (stands rows h.inc) here)
  provider_stands h step.BuiltinHop e here = rw e refl
  provider_stands h step.UseHop e here = rw e refl
  provider_stands h step.OfferHop e here = rw e refl
  provider_stands h step.ExposeHop e here = rw e refl
  provider_stands h step.FrameworkHop e here = rw e refl

  -- A route along stations at rows that stand names rows that stand.
  route_stands : (prefix : List Station) (s : Station) → IsTrue (prefix_stands prefix) → IsTrue (stands rows s.hop.inc) → IsTrue (walked_stands (walked.Given (route_of prefix s)))
  route_stands prefix s before here =
      list_all-append (stands rows) (map (λ h. h.inc) (map (λ t. t.hop) (prefix ++ s ∷ []))) (incs_of_provider (provider_of s.hop))
      ∙ and_pair (list_all (stands rows) (map (λ h. h.inc) (map (λ t. t.hop) (prefix ++ s ∷ [])))) (list_all (stands rows) (incs_of_provider (provider_of s.hop)))
      (list_all-map (stands rows) (λ h. h.inc) (map (λ t. t.hop) (prefix ++ s ∷ []))
      ∙ list_all-map (λ h. stands rows h.inc) (λ t. t.hop) (prefix ++ s ∷ [])
      ∙ prefix_push prefix s before here)
      (provider_stands s.hop s.hop.step refl here)

  -- What is said at a station names rows that stand, where the stations are at such rows.
  said_stands : (prefix : List Station) (s : Station) (n : NextStation) → IsTrue (prefix_stands prefix) → IsTrue (stands rows s.hop.inc) → IsTrue (next_stands n) → IsTrue (decided_stands (said_by prefix s n))
  said_stands prefix s (To t) before here behind = refl
  said_stands prefix s Ends before here behind = route_stands prefix s before here
  said_stands prefix s (Needs j) before here behind = one (stands rows j) behind
  said_stands prefix s FromVoid before here behind = one (stands rows s.hop.inc) here
  said_stands prefix s NoChild before here behind = one (stands rows s.hop.inc) here
  said_stands prefix s (Misses hop reason) before here behind = one (stands rows hop.inc) behind

  -- The first of two answers names rows that stand, where both do.
  either_stands : (a b : Option Walked) → IsTrue (decided_stands a) → IsTrue (decided_stands b) → IsTrue (decided_stands (or_else a b))
  either_stands None b first second = second
  either_stands (Some v) b first second = first

  -- A failure at a hop whose row stands names a row that stands.
  unless_stands : (b : Bool) (hop : Hop) (reason : Why) → IsTrue (stands rows hop.inc) → IsTrue (decided_stands (cond b None (Some (walked.Failed hop reason))))
  unless_stands true hop reason here = refl
  unless_stands false hop reason here = one (stands rows hop.inc) here

  -- A check of availability at a hop whose row stands names a row that stands.
  fitting_stands : (hop : Hop) (x y : Option Availability) → IsTrue (stands rows hop.inc) → IsTrue (decided_stands (unless_fitting hop x y))
  fitting_stands hop (Some asked) (Some given) here = unless_stands (fits asked given) hop _ here
  fitting_stands hop (Some asked) None here = refl
  fitting_stands hop None y here = refl

  -- An answer under a condition names rows that stand, where it does without.
  if_stands : (b : Bool) (o : Option Walked) → IsTrue (decided_stands o) → IsTrue (decided_stands (cond b o None))
  if_stands true o here = here
  if_stands false o here = refl

  -- A check of rights at a hop whose row stands names a row that stands.
  within_stands : (hop : Hop) (x y : Option RightSet) → IsTrue (stands rows hop.inc) → IsTrue (decided_stands (unless_within hop x y))
  within_stands hop (Some asked) (Some stated) here = unless_stands (contains stated asked) hop _ here
  within_stands hop (Some asked) None here = refl
  within_stands hop None y here = refl

  -- The checks of a station, or else an answer, name rows that stand, where both do.
  checked_stands : (prefix : List Station) (s : Station) (o : Option Walked) → IsTrue (stands rows s.hop.inc) → IsTrue (decided_stands o) → IsTrue (decided_stands (or_else (weak_availability prefix s) (or_else (weak_rights prefix s) o)))
  checked_stands prefix s o here said =
      either_stands (weak_availability prefix s) (or_else (weak_rights prefix s) o)
      (if_stands (is_offer_or_expose s.hop.step) _ (fitting_stands s.hop (available prefix) (available (prefix ++ s ∷ [])) here))
      (either_stands (weak_rights prefix s) o (within_stands s.hop (asked_rights (prefix ++ s ∷ [])) s.hop.rights here) said)

  -- What a walk comes to at a station names rows that stand, where all stations are at such.
  trial_stands : (prefix : List Station) (s : Station) (n : NextStation) → IsTrue (prefix_stands prefix) → IsTrue (stands rows s.hop.inc) → IsTrue (next_stands n) → IsTrue (decided_stands (trial_by prefix s n))
  trial_stands prefix s NoChild before here behind = one (stands rows s.hop.inc) here
  trial_stands prefix s (To t) before here behind = checked_stands prefix s _ here (said_stands prefix s (To t) before here behind)
  trial_stands prefix s Ends before here behind = checked_stands prefix s _ here (said_stands prefix s Ends before here behind)
  trial_stands prefix s (Needs j) before here behind = checked_stands prefix s _ here (said_stands prefix s (Needs j) before here behind)
  trial_stands prefix s FromVoid before here behind = checked_stands prefix s _ here (said_stands prefix s FromVoid before here behind)
  trial_stands prefix s (Misses hop reason) before here behind =
      checked_stands prefix s _ here (said_stands prefix s (Misses hop reason) before here behind)

  -- The verdict of a walk that goes on from rows that stand names rows that stand.
  verdict_stands : (builtins : List Builtin) (prefix : List Station) (s : Station) (rest : List Station) (v : Walked) → IsTrue (prefix_stands prefix) → IsTrue (stands rows s.hop.inc) → IsChain rows builtins s rest → IsDecided rows builtins prefix s rest v → IsTrue (walked_stands v)
  verdict_stands builtins prefix s [] v before here chain decided =
      sym (ap decided_stands decided)
      ∙ trial_stands prefix s (next_of rows builtins s) before here (behind_stands builtins s s.source here)
  verdict_stands builtins prefix s (t ∷ ts) v before here chain decided =
      verdict_stands builtins (prefix ++ s ∷ []) t ts v (prefix_push prefix s before here)
      (sym (ap next_stands chain.0) ∙ behind_stands builtins s s.source here) chain.1 decided.1

  -- Whether the first station of a walk is at a row that stands, if there is one.
  abbrev named_stands : Named → Bool
  named_stands (First s) = stands rows s.hop.inc
  named_stands NoUse = true
  named_stands (NoneExposed hop) = stands rows hop.inc

  -- What a walk comes to from a first station at a row that stands names rows that stand.
  from_stands : (builtins : List Builtin) (n : Named) (v : Walked) → IsTrue (named_stands n) → IsWalkedFrom rows builtins n v → IsTrue (walked_stands v)
  from_stands builtins (First s) v here it = verdict_stands builtins [] s it.rest v refl here it.chain it.decided
  from_stands builtins NoUse v here it = ap walked_stands it
  from_stands builtins (NoneExposed hop) v here it = ap walked_stands it ∙ one (stands rows hop.inc) here

  -- where a walk starts from
  abbrev pub inc_of_start : Start → ℕ
  inc_of_start (UseAt i path) = i
  inc_of_start (ExposeAt i name) = i
  inc_of_start (OfferAt i k) = i

  -- The first station of a use is at a row that stands, where the instance stands.
  use_stands : (i : ℕ) (path : List ℕ) (o : Option Usage) → IsTrue (stands rows i) → IsTrue (named_stands (elim o as (λ _. Named) [ None ↦ NoUse | Some u ↦ First (use_station rows i u) ]))
  use_stands i path None here = refl
  use_stands i path (Some u) here = here

  -- The first station of an expose is at a row that stands, where the instance stands.
  exposing_stands : (i : ℕ) (name : List ℕ) (o : Option Give) → IsTrue (stands rows i) → IsTrue (named_stands (elim o as (λ _. Named) [ None ↦ NoneExposed (bare_hop rows step.ExposeHop i Protocol name) | Some g ↦ First (expose_station rows i g) ]))
  exposing_stands i name None here = here
  exposing_stands i name (Some g) here = here

  -- The first station of an offer is at a row that stands, where the instance stands.
  offering_stands : (i : ℕ) (o : Option Offer) → IsTrue (stands rows i) → IsTrue (named_stands (elim o as (λ _. Named) [ None ↦ NoUse | Some x ↦ First (offer_station rows i x.give) ]))
  offering_stands i None here = refl
  offering_stands i (Some x) here = here

  -- The first station of a walk is at a row that stands, where its start stands.
  start_stands : (begin : Start) → IsTrue (stands rows (inc_of_start begin)) → IsTrue (named_stands (named_by rows begin))
  start_stands (UseAt i path) here =
      use_stands i path (option_and_then (λ d. find (λ u. bytes_eq u.path path) d.uses) (decl_of rows i)) here
  start_stands (ExposeAt i name) here =
      exposing_stands i name (option_and_then (λ d. find (λ g. bytes_eq g.target_name name) d.exposes) (decl_of rows i)) here
  start_stands (OfferAt i k) here =
      offering_stands i (option_and_then (λ d. slice_get d.offers k) (decl_of rows i)) here

  -- a walk from a row that stands names such rows alone
  pub walk_stands : (builtins : List Builtin) (begin : Start) (v : Walked) → IsTrue (stands rows (inc_of_start begin)) → IsWalked rows builtins begin v → IsTrue (walked_stands v)
  walk_stands builtins begin v here it = from_stands builtins (named_by rows begin) v (start_stands begin here) it
