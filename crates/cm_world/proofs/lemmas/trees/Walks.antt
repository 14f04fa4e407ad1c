-- Each walk ends: it goes up, to rows with lower incarnations, and then down, to rows with higher ones.
use Rattle.std.proofs.Common.{◌≡◌, ℕ, zero, suc, ◌+◌, ◌<◌, List, [], ◌∷◌, ◌++◌, Bool, true, false, cond, not, ◌&&◌, ◌==◌, true≢false, Option, Some, None, IsTrue, find, option_map, option_and_then, refl, sym, ◌∙◌, ap, subst, arith}
use Rattle.std.specs.List.{list_all}
use Rattle.std.specs.Cmp.{unsigned_Decides, first_so, second_so}
use Rattle.std.proofs.Math.Bool.{and-false}
use Rattle.cm_names.specs.declared.child.ChildName.{ChildName}
use Rattle.cm_facts.proofs.Numbers.{eq_of_lt, lt_of_lt_suc as fewer}
use Rattle.cm_facts.proofs.Options.{option_eq_some}
use Rattle.cm_decl.specs.declared.kind.Kind.{Kind}
use Rattle.cm_decl.specs.declared.decl.Decl.{Decl}
use Rattle.cm_decl.specs.declared.rows.Give.{Give}
use Rattle.cm_decl.specs.declared.rows.Usage.{Usage}
use Rattle.cm_decl.specs.declared.rows.Offer.{Offer}
use Rattle.cm_decl.specs.declared.rows.Capability.{Capability}
use Rattle.cm_decl.specs.declared.origin.Origin.{Origin}
use Rattle.cm_decl.specs.declared.origin.Origin.TheVariants.{Parent, Own, Framework, Child, Void}
use Rattle.cm_decl.specs.Clashes.{or_else}
use Rattle.cm_decl.specs.Valid.{IsValid, is_parent, is_void, is_further_formed}
use Rattle.cm_world.specs.declared.row.Row.{Row}
use Rattle.cm_world.specs.declared.frame.Builtin.{Builtin}
use Rattle.cm_world.specs.declared.route.Hop.{Hop}
use Rattle.cm_world.specs.declared.route.Start.{Start}
use Rattle.cm_world.specs.declared.route.Start.TheVariants.{UseAt, ExposeAt, OfferAt}
use Rattle.cm_world.specs.declared.route.Walked.{Walked}
use Rattle.cm_world.specs.declared.route.Walked.TheVariants.{Failed, NoSuchUse}
use Rattle.cm_world.specs.declared.route.Why.TheVariants as why
use Rattle.cm_world.specs.Rows.{row_of, decl_of, child_of, has_parent, has_name}
use Rattle.cm_world.specs.Stations.{Station, use_station, offer_station, expose_station, capability_station, builtin_station, framework_station}
use Rattle.cm_world.specs.NextStation.{NextStation, To, Ends, Needs, FromVoid, NoChild, Misses, next_of, next_by, next_from, from_above, next_above, by_builtin, offered_by, by_offer, from_child, exposed_by, by_expose, give_of, by_capability}
use Rattle.cm_world.specs.Route.{Named, First, NoUse, NoneExposed, named_by, IsChain, IsDecided, IsWalkedFrom, trial, trial_by, weak_availability, weak_rights}
use Rattle.cm_world.specs.Sound.{IncarnationsIncrease, IsOrderly}
use Rattle.cm_world.specs.Ending.{is_expose, left_at, left_from, steps_left, is_from_parent, KeepsDown, BeginsDown, StepsFall, WalksEnd}
use Rattle.cm_world.proofs.lemmas.trees.Finding.{some_same, none_some, find-passes, find-all}
use Rattle.cm_world.proofs.lemmas.trees.Chains.{same_station}

-- ---- rows that rise

-- A row's incarnation is below the next one, if so of the first row and of the rest.
below_by : (t : Bool) (next i : ℕ) (s r : Row) (o : Option Row) → (s.inc == i) ≡ t → s.inc < next → (o ≡ Some r → i < next) → cond t (Some s) o ≡ Some r → i < next
below_by true next i s r o same low later e = subst (λ n. n < next) ((unsigned_Decides s.inc i).0 same) low
below_by false next i s r o same low later e = later e

-- a row that lives is below the next incarnation
pub below_next : (rows : List Row) (next i : ℕ) (r : Row) → IncarnationsIncrease next rows → row_of rows i ≡ Some r → i < next
below_next [] next i r increasing e = absurd (none_some r e)
below_next (s ∷ ss) next i r increasing e = below_by (s.inc == i) next i s r (row_of ss i) refl increasing.0.0 (below_next ss next i r increasing.1) e

-- A row found by any test is the row of its incarnation, if so in the rest.
lives_by : (t : Bool) (q : Row → Bool) (next : ℕ) (s r : Row) (ss : List Row) → IncarnationsIncrease next (s ∷ ss) → (find q ss ≡ Some r → row_of ss r.inc ≡ Some r) → cond t (Some s) (find q ss) ≡ Some r → row_of (s ∷ ss) r.inc ≡ Some r
lives_by true q next s r ss increasing later e =
    let same : s ≡ r = some_same s r e in
    subst (λ z. row_of (s ∷ ss) z.inc ≡ Some z) same (rw ((unsigned_Decides s.inc s.inc).1 refl) refl)
lives_by false q next s r ss increasing later e =
    let lives : row_of ss r.inc ≡ Some r = later e in
    let low : s.inc < r.inc = increasing.0.1 r.inc (rw lives refl) in
    rw (eq_of_lt (s.inc == r.inc) s.inc r.inc refl low) lives

-- a row that is found by any test is the row of its incarnation
pub find-lives : (q : Row → Bool) (rows : List Row) (next : ℕ) (r : Row) → IncarnationsIncrease next rows → find q rows ≡ Some r → row_of rows r.inc ≡ Some r
find-lives q [] next r increasing e = absurd (none_some r e)
find-lives q (s ∷ ss) next r increasing e = lives_by (q s) q next s r ss increasing (find-lives q ss next r increasing.1) e

-- The child that is found by name is a row with that incarnation.
found_child : (rows : List Row) (p j : ℕ) (c : ChildName) (o : Option Row) → find (λ r. has_parent p r && has_name c r && not r.doomed) rows ≡ o → option_map (λ r. r.inc) o ≡ Some j → (r : Row) × (find (λ s. has_parent p s && has_name c s && not s.doomed) rows ≡ Some r) × (r.inc ≡ j)
found_child rows p j c None f e = absurd (none_some j e)
found_child rows p j c (Some r) f e = (r, f, some_same r.inc j e)

-- a child that is found lives, and has the row as its parent
pub child_lives : (rows : List Row) (next p j : ℕ) (c : ChildName) → IncarnationsIncrease next rows → child_of rows p c ≡ Some j → (r : Row) × (row_of rows j ≡ Some r) × (r.parent ≡ Some p)
child_lives rows next p j c increasing e =
    let test : Row → Bool = λ r. has_parent p r && has_name c r && not r.doomed in
    let found : (r : Row) × (find test rows ≡ Some r) × (r.inc ≡ j) = found_child rows p j c (find test rows) refl e in
    let passes : IsTrue (test found.0) = find-passes test rows found.0 found.1 in
    let lives : row_of rows found.0.inc ≡ Some found.0 = find-lives test rows next found.0 increasing found.1 in (
      found.0,
      subst (λ i. row_of rows i ≡ Some found.0) found.2 lives,
      option_eq_some found.0.parent p (first_so (has_parent p found.0) (has_name c found.0) (first_so (has_parent p found.0 && has_name c found.0) (not found.0.doomed) passes)),
    )

-- ---- exposes

-- an expose that isn't from the parent leads down
expose_down : (from : Origin) → IsTrue (not (is_parent from)) → (is_from_parent (Some from) && true) ≡ false
expose_down Parent h = absurd (true≢false (sym h))
expose_down Own h = refl
expose_down Framework h = refl
expose_down (Child c) h = refl
expose_down Void h = refl

-- The declaration of a row that lives in orderly rows is valid.
valid_by : (rows : List Row) (next j : ℕ) (d : Decl) (o : Option Row) → IsOrderly rows next → row_of rows j ≡ o → option_and_then (λ r. r.decl) o ≡ Some d → IsValid d
valid_by rows next j d None orderly f e = absurd (none_some d e)
valid_by rows next j d (Some r) orderly f e = orderly.valid j r d f e

-- what is declared at a row is valid
pub decl_valid : (rows : List Row) (next j : ℕ) (d : Decl) → IsOrderly rows next → decl_of rows j ≡ Some d → IsValid d
decl_valid rows next j d orderly e = valid_by rows next j d (row_of rows j) orderly refl e

-- an expose of a valid declaration leads down
valid_down : (d : Decl) (q : Give → Bool) (g : Give) → IsValid d → find q d.exposes ≡ Some g → (is_from_parent (Some g.from) && true) ≡ false
valid_down d q g valid e =
    expose_down g.from (find-all q (λ x. not (is_parent x.from)) d.exposes g (first_so (list_all (λ x. not (is_parent x.from)) d.exposes) (is_further_formed d) (second_so (list_all (λ u. not (is_void u.from)) d.uses) (list_all (λ x. not (is_parent x.from)) d.exposes && is_further_formed d) valid.well_formed)) e)

-- ---- from station to station

-- Whether a station follows.
is_to : NextStation → Bool
is_to (To t) = true
is_to _ = false

-- Where no station follows, this one doesn't.
not_to : (n : NextStation) (t : Station) → is_to n ≡ false → n ≡ To t → ⊥
unfolding is_to
not_to n t other e = true≢false (sym (ap is_to e) ∙ other)

-- a station from which fewer steps are left, and which leads up only from a use or an offer
IsNearer : ℕ → ℕ → Station → Type 0
IsNearer next n t = (steps_left next t < n) × KeepsDown t

-- Each incarnation has some steps left.
some_left : (next i : ℕ) (e : Bool) → 0 < left_at next i e
some_left next i true = omega arith
some_left next i false = omega arith

-- Fewer steps are left going down at a higher incarnation.
fewer_down : (next i j : ℕ) (e : Bool) → i < j → j < next → left_at next j true < left_at next i e
fewer_down next i j true up within = omega arith
fewer_down next i j false up within = omega arith

-- Fewer steps are left going up at a lower incarnation.
fewer_up : (next i p : ℕ) → p < i → left_at next p false < left_at next i false
fewer_up next i p down = omega arith

-- A builtin that is found for the root is nearer the end.
builtin_nearer : (rows : List Row) (next n i : ℕ) (kind : Kind) (name : List ℕ) (o : Option Builtin) (t : Station) → 0 < n → by_builtin rows i kind name o ≡ To t → IsNearer next n t
unfolding IsNearer is_to
builtin_nearer rows next n i kind name None t some e = absurd (not_to _ t refl e)
builtin_nearer rows next n i kind name (Some b) t some e = subst (λ z. IsNearer next n z) (same_station (builtin_station rows i b) t e) (some, refl)

-- An offer that is found at the parent is nearer the end.
offer_nearer : (rows : List Row) (next n p : ℕ) (kind : Kind) (name : List ℕ) (o : Option Give) (t : Station) → left_at next p false < n → by_offer rows p kind name o ≡ To t → IsNearer next n t
unfolding IsNearer is_to
offer_nearer rows next n p kind name None t fewer e = absurd (not_to _ t refl e)
offer_nearer rows next n p kind name (Some g) t fewer e = subst (λ z. IsNearer next n z) (same_station (offer_station rows p g) t e) (fewer, and-false (is_from_parent (Some g.from)))

-- What is offered by the parent's declaration, if that is there, is nearer the end.
offered_nearer : (rows : List Row) (next n p : ℕ) (r : Row) (kind : Kind) (name : List ℕ) (o : Option Decl) (t : Station) → left_at next p false < n → offered_by rows p r kind name o ≡ To t → IsNearer next n t
unfolding is_to
offered_nearer rows next n p r kind name None t fewer e = absurd (not_to _ t refl e)
offered_nearer rows next n p r kind name (Some d) t fewer e = offer_nearer rows next n p kind name _ t fewer e

-- What follows a row from above, a builtin at the root or else an offer, is nearer the end.
above_nearer : (rows : List Row) (next i : ℕ) (builtins : List Builtin) (r : Row) (kind : Kind) (name : List ℕ) (o : Option ℕ) (t : Station) → ((p : ℕ) → o ≡ Some p → p < i) → next_above rows builtins r kind name o ≡ To t → IsNearer next (left_at next i false) t
above_nearer rows next i builtins r kind name None t lower e = builtin_nearer rows next (left_at next i false) r.inc kind name _ t (some_left next i false) e
above_nearer rows next i builtins r kind name (Some p) t lower e = offered_nearer rows next (left_at next i false) p r kind name _ t (fewer_up next i p (lower p refl)) e

-- What follows a hop from the parent of a row that may be there is nearer the end.
parent_nearer : (rows : List Row) (next i : ℕ) (builtins : List Builtin) (kind : Kind) (name : List ℕ) (o : Option Row) (t : Station) → IsOrderly rows next → row_of rows i ≡ o → from_above rows builtins kind name o ≡ To t → IsNearer next (left_at next i false) t
unfolding is_to
parent_nearer rows next i builtins kind name None t orderly f e = absurd (not_to _ t refl e)
parent_nearer rows next i builtins kind name (Some r) t orderly f e = above_nearer rows next i builtins r kind name r.parent t (λ p below. (orderly.parents i p r f below).0.lower) e

-- An expose that is found in a valid declaration is nearer the end.
expose_nearer : (rows : List Row) (next n j : ℕ) (kind : Kind) (name : List ℕ) (d : Decl) (o : Option Give) (t : Station) → IsValid d → left_at next j true < n → give_of d.exposes kind name ≡ o → by_expose rows j kind name o ≡ To t → IsNearer next n t
unfolding IsNearer is_to
expose_nearer rows next n j kind name d None t valid fewer f e = absurd (not_to _ t refl e)
expose_nearer rows next n j kind name d (Some g) t valid fewer f e = subst (λ z. IsNearer next n z) (same_station (expose_station rows j g) t e) (fewer, valid_down d _ g valid f)

-- What is exposed by a child's declaration, if that is there, is nearer the end.
exposed_nearer : (rows : List Row) (next n j : ℕ) (kind : Kind) (name : List ℕ) (o : Option Decl) (t : Station) → IsOrderly rows next → left_at next j true < n → decl_of rows j ≡ o → exposed_by rows j kind name o ≡ To t → IsNearer next n t
unfolding is_to
exposed_nearer rows next n j kind name None t orderly fewer f e = absurd (not_to _ t refl e)
exposed_nearer rows next n j kind name (Some d) t orderly fewer f e = expose_nearer rows next n j kind name d _ t (decl_valid rows next j d orderly f) fewer refl e

-- What follows a hop from a child, if it is found, is nearer the end.
child_nearer : (rows : List Row) (next i : ℕ) (c : ChildName) (down : Bool) (kind : Kind) (name : List ℕ) (o : Option ℕ) (t : Station) → IsOrderly rows next → child_of rows i c ≡ o → from_child rows kind name o ≡ To t → IsNearer next (left_at next i down) t
unfolding is_to
child_nearer rows next i c down kind name None t orderly f e = absurd (not_to _ t refl e)
child_nearer rows next i c down kind name (Some j) t orderly f e =
    let child : (r : Row) × (row_of rows j ≡ Some r) × (r.parent ≡ Some i) = child_lives rows next i j c orderly.increasing f in
    let up : i < j = (orderly.parents j i child.0 child.1 child.2).0.lower in
    exposed_nearer rows next (left_at next i down) j kind name _ t orderly (fewer_down next i j down up (below_next rows next j child.0 orderly.increasing child.1)) refl e

-- A capability of the component's own that is found is nearer the end.
own_nearer : (rows : List Row) (next n i : ℕ) (o : Option Capability) (t : Station) → 0 < n → by_capability rows i o ≡ To t → IsNearer next n t
unfolding IsNearer is_to
own_nearer rows next n i None t some e = absurd (not_to _ t refl e)
own_nearer rows next n i (Some c) t some e = subst (λ z. IsNearer next n z) (same_station (capability_station rows i c) t e) (some, refl)

-- What follows a source is nearer the end, where it isn't the parent on the way down.
source_nearer : (rows : List Row) (next i : ℕ) (builtins : List Builtin) (kind : Kind) (name : List ℕ) (down : Bool) (from : Origin) (t : Station) → IsOrderly rows next → (is_from_parent (Some from) && down) ≡ false → next_from rows builtins i kind name from ≡ To t → IsNearer next (left_at next i down) t
unfolding IsNearer is_to
source_nearer rows next i builtins kind name true Parent t orderly keeps e = absurd (true≢false keeps)
source_nearer rows next i builtins kind name false Parent t orderly keeps e = parent_nearer rows next i builtins kind name _ t orderly refl e
source_nearer rows next i builtins kind name down (Child c) t orderly keeps e = child_nearer rows next i c down kind name _ t orderly refl e
source_nearer rows next i builtins kind name down Own t orderly keeps e = own_nearer rows next (left_at next i down) i _ t (some_left next i down) e
source_nearer rows next i builtins kind name down Framework t orderly keeps e = subst (λ z. IsNearer next (left_at next i down) z) (same_station (framework_station rows i kind name) t e) (some_left next i down, refl)
source_nearer rows next i builtins kind name down Void t orderly keeps e = absurd (not_to _ t refl e)

-- What follows a station with its source is nearer the end, where the station keeps down.
station_nearer : (rows : List Row) (next : ℕ) (builtins : List Builtin) (s : Station) (o : Option Origin) (t : Station) → IsOrderly rows next → (is_from_parent o && is_expose s.hop.step) ≡ false → next_by rows builtins s o ≡ To t → IsNearer next (left_from next s.hop.inc s.hop.step o) t
unfolding is_to
station_nearer rows next builtins s None t orderly keeps e = absurd (not_to _ t refl e)
station_nearer rows next builtins s (Some from) t orderly keeps e = source_nearer rows next s.hop.inc builtins s.hop.kind s.source_name (is_expose s.hop.step) from t orderly keeps e

-- From a station that keeps down the next one keeps down too, and has fewer steps left.
pub steps_fall : StepsFall
unfolding IsNearer
steps_fall rows next builtins s t orderly keeps e = station_nearer rows next builtins s s.source t orderly keeps e

-- ---- where a walk begins

-- Whether a start names a first station.
is_first : Named → Bool
is_first (First s) = true
is_first _ = false

-- Where a start names no first station, it doesn't name this one.
not_first : (n : Named) (s : Station) → is_first n ≡ false → n ≡ First s → ⊥
unfolding is_first
not_first n s other e = true≢false (sym (ap is_first e) ∙ other)

-- The first station that a start names, or a default.
station_in : Station → Named → Station
station_in d (First s) = s
station_in d _ = d

-- Starts that name the same have the same first station.
same_first : (s t : Station) → First s ≡ First t → s ≡ t
unfolding station_in
same_first s t e = ap (station_in s) e

-- The station of a use that is found keeps down.
used_down : (rows : List Row) (i : ℕ) (s : Station) (o : Option Usage) → elim o as (λ _. Named) [ None ↦ NoUse | Some u ↦ First (use_station rows i u) ] ≡ First s → KeepsDown s
unfolding is_first
used_down rows i s None e = absurd (not_first _ s refl e)
used_down rows i s (Some u) e = subst KeepsDown (same_first (use_station rows i u) s e) (and-false (is_from_parent (Some u.from)))

-- The station of an expose that is found, which isn't from the parent, keeps down.
exposed_down : (rows : List Row) (i : ℕ) (missing : Hop) (s : Station) (o : Option Give) → ((g : Give) → o ≡ Some g → (is_from_parent (Some g.from) && true) ≡ false) → elim o as (λ _. Named) [ None ↦ NoneExposed missing | Some g ↦ First (expose_station rows i g) ] ≡ First s → KeepsDown s
unfolding is_first
exposed_down rows i missing s None down e = absurd (not_first _ s refl e)
exposed_down rows i missing s (Some g) down e = subst KeepsDown (same_first (expose_station rows i g) s e) (down g refl)

-- What is found among a living row's exposes isn't from the parent.
given_down : (rows : List Row) (next i : ℕ) (q : Give → Bool) (g : Give) (o : Option Decl) → IsOrderly rows next → decl_of rows i ≡ o → option_and_then (λ d. find q d.exposes) o ≡ Some g → (is_from_parent (Some g.from) && true) ≡ false
given_down rows next i q g None orderly f e = absurd (none_some g e)
given_down rows next i q g (Some d) orderly f e = valid_down d q g (decl_valid rows next i d orderly f) e

-- The station of an offer that is found keeps down.
offered_down : (rows : List Row) (i : ℕ) (s : Station) (o : Option Offer) → elim o as (λ _. Named) [ None ↦ NoUse | Some x ↦ First (offer_station rows i x.give) ] ≡ First s → KeepsDown s
unfolding is_first
offered_down rows i s None e = absurd (not_first _ s refl e)
offered_down rows i s (Some x) e = subst KeepsDown (same_first (offer_station rows i x.give) s e) (and-false (is_from_parent (Some x.give.from)))

-- The first station of a walk keeps down.
pub begins_down : BeginsDown
begins_down rows next (UseAt i path) s orderly e = used_down rows i s _ e
begins_down rows next (OfferAt i k) s orderly e = offered_down rows i s _ e
begins_down rows next (ExposeAt i name) s orderly e = exposed_down rows i _ s _ (λ g f. given_down rows next i _ g _ orderly refl f) e

-- ---- the whole walk

-- a verdict on the stations from one on, behind a prefix
pub record HasEnd (rows : List Row) (builtins : List Builtin) (prefix : List Station) (s : Station) : Type 0 where
  pub verdict : Walked
  pub rest : List Station
  pub chain : IsChain rows builtins s rest
  pub decided : IsDecided rows builtins prefix s rest verdict

-- Where neither of two verdicts is there, the second isn't.
or_other : (o p : Option Walked) → or_else o p ≡ None → p ≡ None
or_other None p e = e
or_other (Some v) p e = absurd (none_some v (sym e))

-- Where a verdict is said at a station, the walk comes to that or to a weakness, not to nothing.
unsaid : (prefix : List Station) (s : Station) (said : Option Walked) (v : Walked) → said ≡ Some v → or_else (weak_availability prefix s) (or_else (weak_rights prefix s) said) ≡ None → ⊥
unsaid prefix s said v is e =
    none_some v (sym (or_other (weak_rights prefix s) said (or_other (weak_availability prefix s) (or_else (weak_rights prefix s) said) e)) ∙ is)

-- where nothing is decided, a station comes next
undecided : (prefix : List Station) (s : Station) (n : NextStation) → trial_by prefix s n ≡ None → is_to n ≡ true
unfolding is_to
undecided prefix s (To t) e = refl
undecided prefix s Ends e = absurd (unsaid prefix s _ _ refl e)
undecided prefix s (Needs j) e = absurd (unsaid prefix s _ _ refl e)
undecided prefix s FromVoid e = absurd (unsaid prefix s _ _ refl e)
undecided prefix s NoChild e = absurd (none_some _ (sym e))
undecided prefix s (Misses hop reason) e = absurd (unsaid prefix s _ _ refl e)

-- Where a station follows, there is one that does.
next_at : (n : NextStation) → is_to n ≡ true → (t : Station) × (n ≡ To t)
unfolding is_to
next_at (To t) h = (t, refl)
next_at Ends h = absurd (true≢false (sym h))
next_at (Needs j) h = absurd (true≢false (sym h))
next_at FromVoid h = absurd (true≢false (sym h))
next_at NoChild h = absurd (true≢false (sym h))
next_at (Misses hop reason) h = absurd (true≢false (sym h))

-- A walk has an end at a station, where it has one from each that follows it.
walk_at : (rows : List Row) (builtins : List Builtin) (prefix : List Station) (s : Station) (o : Option Walked) → trial rows builtins prefix s ≡ o → ((t : Station) → next_of rows builtins s ≡ To t → HasEnd rows builtins (prefix ++ s ∷ []) t) → HasEnd rows builtins prefix s
walk_at rows builtins prefix s (Some v) e more = record { verdict = v; rest = []; chain = tt; decided = e }
walk_at rows builtins prefix s None e more =
    let next : (t : Station) × (next_of rows builtins s ≡ To t) = next_at (next_of rows builtins s) (undecided prefix s (next_of rows builtins s) e) in
    let end : HasEnd rows builtins (prefix ++ s ∷ []) next.0 = more next.0 next.1 in
    record { verdict = end.verdict; rest = next.0 ∷ end.rest; chain = (next.1, end.chain); decided = (e, end.decided) }

-- A walk from a station with fewer than n steps left has an end.
pub walks_from : (n : ℕ) (rows : List Row) (next : ℕ) (builtins : List Builtin) (prefix : List Station) (s : Station) → IsOrderly rows next → KeepsDown s → steps_left next s < n → HasEnd rows builtins prefix s
walks_from zero rows next builtins prefix s orderly keeps low = absurd (omega arith)
walks_from (suc n) rows next builtins prefix s orderly keeps low =
    walk_at rows builtins prefix s (trial rows builtins prefix s) refl
    (λ t f. let fall : (steps_left next t < steps_left next s) × KeepsDown t = steps_fall rows next builtins s t orderly keeps f in
    walks_from n rows next builtins (prefix ++ s ∷ []) t orderly fall.1 (fewer (steps_left next t) (steps_left next s) n fall.0 low))

-- A walk from what a start names has a verdict, in orderly rows.
end_by : (rows : List Row) (next : ℕ) (builtins : List Builtin) (begin : Start) (n : Named) → IsOrderly rows next → named_by rows begin ≡ n → (v : Walked) × IsWalkedFrom rows builtins n v
end_by rows next builtins begin (First s) orderly f =
    let end : HasEnd rows builtins [] s = walks_from (steps_left next s + 1) rows next builtins [] s orderly (begins_down rows next begin s orderly f) (omega arith) in
    (end.verdict, record { rest = end.rest; chain = end.chain; decided = end.decided })
end_by rows next builtins begin NoUse orderly f = (NoSuchUse, refl)
end_by rows next builtins begin (NoneExposed hop) orderly f = (Failed hop why.NoExpose, refl)

-- The law that in an orderly tree every walk comes to an answer.
pub walks_end : WalksEnd
walks_end rows next builtins begin orderly = end_by rows next builtins begin (named_by rows begin) orderly refl
