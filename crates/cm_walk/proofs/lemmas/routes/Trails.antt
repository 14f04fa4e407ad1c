-- What a trail keeps, station by station.
use Rattle.std.proofs.Common.{◌≡◌, ℕ, List, [], ◌∷◌, ◌++◌, Bool, true, false, if◌then◌else◌, Option, Some, None, map, reverse, slice_get, option_and_then, option_to_list, refl, sym, ◌∙◌, ap, append-nil}
use Rattle.std.specs.List.{filter_map, cons_option}
use Rattle.std.proofs.lemmas.List.{reverse-append, map-append}
use Rattle.std.proofs.lemmas.List.Elements.{filter_map-append}
use Rattle.cm_names.specs.Rights.{RightSet}
use Rattle.cm_decl.specs.Clashes.{or_else}
use Rattle.cm_world.specs.declared.route.Hop.{Hop}
use Rattle.cm_world.specs.declared.route.Provider.{Provider}
use Rattle.cm_world.specs.declared.route.Route.{Route}
use Rattle.cm_world.specs.Stations.{Station}
use Rattle.cm_world.specs.Route.{asked_rights, first_rights, standing, is_use, is_offer_or_expose, unless_fitting, unless_within, weak_availability, weak_rights, path_of, provider_of, route_of}
use Rattle.cm_walk.specs.declared.trail.Trail.{Trail}
use Rattle.cm_names.specs.Availability.{stated_itself}
use Rattle.cm_facts.proofs.Options.{cons_option_nil}
use Rattle.cm_walk.specs.Walking.{begins_with_use, standing_by, IsBehind, path_at}

-- ---- lists of options

-- The first item of a list of one item or none is that item.
first_option : {Y : Type 0} (o : Option Y) → slice_get (cons_option o []) 0 ≡ o
first_option None = refl
first_option (Some y) = refl

-- With an item or none put before, the first is still that of the shorter list, or else the last.
first_by : {Y : Type 0} (o : Option Y) (xs ys : List Y) (z : Option Y) → slice_get ys 0 ≡ or_else (slice_get xs 0) z → slice_get (cons_option o ys) 0 ≡ or_else (slice_get (cons_option o xs) 0) z
first_by None xs ys z later = later
first_by (Some y) xs ys z later = refl

-- A list with an item or none put before is, in reverse, that list's reverse with it at the end.
back_by : {Y : Type 0} (o : Option Y) (xs : List Y) → reverse xs ++ cons_option o [] ≡ reverse (cons_option o xs)
back_by None xs = append-nil (reverse xs)
back_by (Some y) xs = sym (reverse-append (y ∷ []) xs)

-- what is read of a list backwards is what is read of it, backwards
filter_map-reverse : {X Y : Type 0} (h : X → Option Y) (xs : List X) → filter_map h (reverse xs) ≡ reverse (filter_map h xs)
filter_map-reverse h [] = refl
filter_map-reverse h (x ∷ xs) =
    ap (filter_map h) (reverse-append (x ∷ []) xs)
    ∙ filter_map-append h (reverse xs) (x ∷ [])
    ∙ ap (λ ys. ys ++ cons_option (h x) []) (filter_map-reverse h xs)
    ∙ back_by (h x) (filter_map h xs)

-- ---- one station more

-- what stands at the last station of a list, behind those before it
last-more : {Y : Type 0} (xs : List Y) (o : Option Y) → slice_get (reverse (xs ++ cons_option o [])) 0 ≡ or_else o (slice_get (reverse xs) 0)
last-more xs None = ap (λ ys. slice_get (reverse ys) 0) (append-nil xs)
last-more xs (Some y) = ap (λ ys. slice_get ys 0) (reverse-append xs (y ∷ []))

-- With one station more that availability holds which it states, or else the one that held before.
pub standing-more : (prefix : List Station) (s : Station) → standing (prefix ++ s ∷ []) ≡ standing_by (standing prefix) s.hop.availability
standing-more prefix s =
    ap (λ ys. slice_get (reverse ys) 0) (filter_map-append (λ t. option_and_then stated_itself t.hop.availability) prefix (s ∷ []))
    ∙ last-more (filter_map (λ t. option_and_then stated_itself t.hop.availability) prefix) (option_and_then stated_itself s.hop.availability)

-- One more station at the end doesn't change whether the first is a use.
begins-more : (prefix : List Station) (s t : Station) → begins_with_use ((prefix ++ s ∷ []) ++ t ∷ []) ≡ begins_with_use (prefix ++ s ∷ [])
begins-more [] s t = refl
begins-more (x ∷ xs) s t = refl

-- The first rights with one more station are the first so far, or else those of its hop.
first-more : (xs : List Station) (t : Station) → first_rights (xs ++ t ∷ []) ≡ or_else (first_rights xs) t.hop.rights
first-more [] t = first_option t.hop.rights
first-more (x ∷ xs) t =
    first_by x.hop.rights (filter_map (λ s. s.hop.rights) xs) (filter_map (λ s. s.hop.rights) (xs ++ t ∷ [])) t.hop.rights (first-more xs t)

-- The rights asked for stay those of the use, or else become the first that are stated.
asked_by : (at_use : Bool) (first a b : Option RightSet) (r : Option RightSet) → b ≡ or_else a r → (if at_use then first else b) ≡ (if at_use then (if at_use then first else a) else or_else (if at_use then first else a) r)
asked_by true first a b r e = refl
asked_by false first a b r e = e

-- One more station adds its rights to those asked for where the first isn't a use and none were.
asked_of : (xs : List Station) (x t : Station) → asked_rights ((x ∷ xs) ++ t ∷ []) ≡ (if is_use x.hop.step then asked_rights (x ∷ xs) else or_else (asked_rights (x ∷ xs)) t.hop.rights)
asked_of xs x t =
    asked_by (is_use x.hop.step) x.hop.rights (first_rights (x ∷ xs)) (first_rights ((x ∷ xs) ++ t ∷ [])) t.hop.rights (first-more (x ∷ xs) t)

-- Stations that begin with a use ask for the same with one more; others may ask for its rights.
asked-more : (prefix : List Station) (s t : Station) → asked_rights ((prefix ++ s ∷ []) ++ t ∷ []) ≡ (if begins_with_use (prefix ++ s ∷ []) then asked_rights (prefix ++ s ∷ []) else or_else (asked_rights (prefix ++ s ∷ [])) t.hop.rights)
asked-more [] s t = asked_of [] s t
asked-more (x ∷ xs) s t = asked_of (xs ++ s ∷ []) x t

-- the trail with one station more at its end
pub IsBehind-more : (prefix : List Station) (s u : Station) (next : Hop) (t made : Trail) → IsBehind prefix s t → u.hop ≡ next → made.hops ≡ t.hops ++ s.hop ∷ [] → made.subdirs ≡ t.subdirs ++ option_to_list s.subdir → made.availability ≡ standing_by t.availability s.hop.availability → made.from_use ≡ t.from_use → made.asked ≡ (if t.from_use then t.asked else or_else t.asked next.rights) → IsBehind (prefix ++ s ∷ []) u made
IsBehind-more prefix s u next t made behind same hops subdirs availability from_use asked = record {
  hops = hops ∙ ap (λ xs. xs ++ s.hop ∷ []) behind.hops ∙ sym (map-append (λ x. x.hop) prefix (s ∷ []));
  subdirs =
      subdirs
      ∙ ap (λ xs. xs ++ option_to_list s.subdir) behind.subdirs
      ∙ sym (filter_map-append (λ x. x.subdir) prefix (s ∷ []) ∙ ap (λ ys. filter_map (λ x. x.subdir) prefix ++ ys) (cons_option_nil s.subdir));
  availability = availability ∙ ap (λ a. standing_by a s.hop.availability) behind.availability ∙ sym (standing-more prefix s);
  from_use = from_use ∙ behind.from_use ∙ sym (begins-more prefix s u);
  asked =
      asked
      ∙ ap (λ h. if t.from_use then t.asked else or_else t.asked h.rights) (sym same)
      ∙ ap (λ at_use. if at_use then t.asked else or_else t.asked u.hop.rights) behind.from_use
      ∙ ap (λ a. if begins_with_use (prefix ++ s ∷ []) then a else or_else a u.hop.rights) behind.asked
      ∙ sym (asked-more prefix s u);
}

-- ---- what is judged

-- the availability that stands at the last hop behind
pub unsure_is : (prefix : List Station) (s : Station) (hop : Hop) (t : Trail) → s.hop ≡ hop → IsBehind prefix s t → (if is_offer_or_expose hop.step then unless_fitting hop t.availability (standing_by t.availability hop.availability) else None) ≡ weak_availability prefix s
unsure_is prefix s hop t same behind =
    ap (λ h. if is_offer_or_expose h.step then unless_fitting h t.availability (standing_by t.availability h.availability) else None) (sym same)
    ∙ ap (λ a. if is_offer_or_expose s.hop.step then unless_fitting s.hop a (standing_by a s.hop.availability) else None) behind.availability
    ∙ ap (λ a. if is_offer_or_expose s.hop.step then unless_fitting s.hop (standing prefix) a else None) (sym (standing-more prefix s))

-- The rights that are asked so far, tried against a hop's, are too weak exactly where the definition says.
pub narrow_is : (prefix : List Station) (s : Station) (hop : Hop) (t : Trail) → s.hop ≡ hop → IsBehind prefix s t → unless_within hop t.asked hop.rights ≡ weak_rights prefix s
narrow_is prefix s hop t same behind =
    ap (λ h. unless_within h t.asked h.rights) (sym same) ∙ ap (λ a. unless_within s.hop a s.hop.rights) behind.asked

-- A route by its hops, its name, its rights and its provider.
abbrev route_with : List Hop → List ℕ → Option RightSet → Provider → Route
route_with hops path rights provider = record { hops = hops; path = path; rights = rights; provider = provider }

-- the route that ends at a station
pub route_is : (prefix : List Station) (s : Station) (hop : Hop) (path : List ℕ) (t : Trail) (r : Route) → IsBehind prefix s t → s.hop ≡ hop → s.path ≡ path → r.hops ≡ t.hops ++ hop ∷ [] → r.path ≡ path_at hop.step path (reverse t.subdirs) → r.rights ≡ t.asked → r.provider ≡ provider_of hop → r ≡ route_of prefix s
route_is prefix s hop path t r behind same there hops whole rights provider =
    let hops_are : r.hops ≡ map (λ x. x.hop) (prefix ++ s ∷ []) =
    hops ∙ ap (λ h. t.hops ++ h ∷ []) (sym same) ∙ ap (λ xs. xs ++ s.hop ∷ []) behind.hops ∙ sym (map-append (λ x. x.hop) prefix (s ∷ [])) in
    let path_is : r.path ≡ path_of prefix s =
    whole
    ∙ ap (λ h. path_at h.step path (reverse t.subdirs)) (sym same)
    ∙ ap (λ p. path_at s.hop.step p (reverse t.subdirs)) (sym there)
    ∙ ap (λ ds. path_at s.hop.step s.path ds) (ap reverse behind.subdirs ∙ sym (filter_map-reverse (λ x. x.subdir) prefix)) in
    let rights_are : r.rights ≡ asked_rights (prefix ++ s ∷ []) = rights ∙ behind.asked in
    let provider_is : r.provider ≡ provider_of s.hop = provider ∙ ap provider_of (sym same) in
    ap (λ x. route_with x r.path r.rights r.provider) hops_are
    ∙ ap (λ x. route_with (map (λ x. x.hop) (prefix ++ s ∷ [])) x r.rights r.provider) path_is
    ∙ ap (λ x. route_with (map (λ x. x.hop) (prefix ++ s ∷ [])) (path_of prefix s) x r.provider) rights_are
    ∙ ap (λ x. route_with (map (λ x. x.hop) (prefix ++ s ∷ [])) (path_of prefix s) (asked_rights (prefix ++ s ∷ [])) x) provider_is
