-- The route of an opening is a route of the world of that very entry.
use Rattle.std.proofs.Common.{◌≡◌, ℕ, List, [], ◌∷◌, ◌++◌, map, Bool, true, false, cond, true≢false, append_assoc, Option, Some, None, slice_get, filter_map, refl, sym, ◌∙◌, ap, subst, IsTrue}
use Rattle.std.specs.Prelude.{All}
use Rattle.std.proofs.lemmas.List.Elements.{All-nil, All-cons, All-map, filter_map-append}
use Rattle.cm_names.specs.declared.availability.Availability.{Availability}
use Rattle.cm_names.specs.Availability.{fits}
use Rattle.cm_names.specs.Rights.{RightSet, contains}
use Rattle.cm_decl.specs.Clashes.{or_else}
use Rattle.cm_world.specs.declared.row.Row.{Row}
use Rattle.cm_world.specs.declared.frame.Builtin.{Builtin}
use Rattle.cm_world.specs.declared.route.Hop.{Hop}
use Rattle.cm_world.specs.declared.route.Why.{Why}
use Rattle.cm_world.specs.declared.route.Provider.{Provider}
use Rattle.cm_world.specs.declared.route.Provider.TheVariants as provider
use Rattle.cm_world.specs.declared.route.Route.{Route}
use Rattle.cm_world.specs.declared.route.Start.{Start}
use Rattle.cm_world.specs.declared.route.Start.TheVariants.{UseAt, ExposeAt}
use Rattle.cm_world.specs.declared.route.Walked.{Walked}
use Rattle.cm_world.specs.declared.route.Walked.TheVariants.{Given, Failed, Need, Void, NoSuchUse}
use Rattle.cm_world.specs.declared.event.Event.{Event}
use Rattle.cm_world.specs.declared.event.Event.TheVariants.{Begin, Pick, OpenUse, OpenExposed}
use Rattle.cm_world.specs.declared.reply.Reply.{Reply}
use Rattle.cm_world.specs.declared.reply.Reply.TheVariants as reply
use Rattle.cm_world.specs.Rows.{is_on, is_closed}
use Rattle.cm_world.specs.World.{World, start}
use Rattle.cm_world.specs.Stations.{Station}
use Rattle.cm_world.specs.NextStation.{NextStation, To, Ends, Needs, FromVoid, NoChild, Misses, next_of}
use Rattle.cm_world.specs.Route.{Named, First, NoUse, NoneExposed, named_by, IsRoute, IsDecided, IsWalkedFrom, trial_by, said_by, weak_availability, weak_rights, unless_fitting, unless_within, is_offer_or_expose, standing, is_use, first_rights, asked_rights, last_of, provider_of, route_of}
use Rattle.cm_world.specs.Openings.{unready, unopened, opened, opened_at, WalksUnless}
use Rattle.cm_world.specs.Step.{Allowed}
use Rattle.cm_world.specs.Legal.{replay}
use Rattle.cm_world.proofs.lemmas.trees.Finding.{none_some}
use Rattle.cm_laws.specs.Lasting.{start_of, AreWithin, IsProviding, IsStable}
use Rattle.cm_laws.specs.LastingInside.{RoutesAreStable}
use Rattle.cm_laws.proofs.lemmas.entries.Answered.{is_plain, passes_or, plain_reply, unready_plain, unopened_plain, begin_passes}
use Rattle.cm_laws.proofs.lemmas.entries.Entries.{of_each_entry}

-- ---- what is tried at a station

-- whether a route is given
abbrev gives : Option Walked → Bool
gives (Some (Given r)) = true
gives _ = false

-- A hop that fails unless a test passes gives no route.
unless_fails : (b : Bool) (hop : Hop) (why : Why) → gives (cond b None (Some (Failed hop why))) ≡ false
unless_fails true hop why = refl
unless_fails false hop why = refl

-- A check of availability gives no route.
fitting_fails : (hop : Hop) (x y : Option Availability) → gives (unless_fitting hop x y) ≡ false
fitting_fails hop (Some asked) (Some given) = unless_fails (fits asked given) hop _
fitting_fails hop (Some asked) None = refl
fitting_fails hop None y = refl

-- What gives no route gives none under a condition.
if_fails : (b : Bool) (o : Option Walked) → gives o ≡ false → gives (cond b o None) ≡ false
if_fails true o fails = fails
if_fails false o fails = refl

-- A check of rights gives no route.
within_fails : (hop : Hop) (x y : Option RightSet) → gives (unless_within hop x y) ≡ false
within_fails hop (Some asked) (Some stated) = unless_fails (contains stated asked) hop _
within_fails hop (Some asked) None = refl
within_fails hop None y = refl

-- A route of three answers, the first two of which give none, is that of the third.
third_gives : (a b c : Option Walked) (r : Route) → gives a ≡ false → gives b ≡ false → or_else a (or_else b c) ≡ Some (Given r) → (b ≡ None) × (c ≡ Some (Given r))
third_gives (Some x) b c r first second e = absurd (true≢false (sym (ap gives e) ∙ first))
third_gives None (Some y) c r first second e = absurd (true≢false (sym (ap gives e) ∙ second))
third_gives None None c r first second e = (refl, e)

-- Where none of three answers is there, the second isn't.
second_none : (a b c : Option Walked) → or_else a (or_else b c) ≡ None → b ≡ None
second_none (Some x) b c e = absurd (none_some x (sym e))
second_none None (Some y) c e = absurd (none_some y (sym e))
second_none None None c e = refl

-- where nothing is decided the rights that are asked lie within those that are stated
quiet_rights : (prefix : List Station) (s : Station) (n : NextStation) → trial_by prefix s n ≡ None → weak_rights prefix s ≡ None
quiet_rights prefix s NoChild e = absurd (none_some _ (sym e))
quiet_rights prefix s (To t) e = second_none (weak_availability prefix s) (weak_rights prefix s) _ e
quiet_rights prefix s Ends e = second_none (weak_availability prefix s) (weak_rights prefix s) _ e
quiet_rights prefix s (Needs j) e = second_none (weak_availability prefix s) (weak_rights prefix s) _ e
quiet_rights prefix s FromVoid e = second_none (weak_availability prefix s) (weak_rights prefix s) _ e
quiet_rights prefix s (Misses hop why) e = second_none (weak_availability prefix s) (weak_rights prefix s) _ e

-- a route is given at an end alone, where the rights lie within, too
record GivesAt (prefix : List Station) (s : Station) (n : NextStation) (r : Route) : Type 0 where
  ends : n ≡ Ends
  within : weak_rights prefix s ≡ None
  is : r ≡ route_of prefix s

-- A station that says a route is an end, and the route is that of its stations.
said_gives : (prefix : List Station) (s : Station) (n : NextStation) (r : Route) → said_by prefix s n ≡ Some (Given r) → (n ≡ Ends) × (r ≡ route_of prefix s)
said_gives prefix s (To t) r e = absurd (none_some _ e)
said_gives prefix s Ends r e = (refl, cc)
said_gives prefix s (Needs j) r e = absurd (cc)
said_gives prefix s FromVoid r e = absurd (cc)
said_gives prefix s NoChild r e = absurd (cc)
said_gives prefix s (Misses hop why) r e = absurd (cc)

-- A route that the checks of a station and what follows give is given at an end.
gives_by : (prefix : List Station) (s : Station) (n : NextStation) (r : Route) → or_else (weak_availability prefix s) (or_else (weak_rights prefix s) (said_by prefix s n)) ≡ Some (Given r) → GivesAt prefix s n r
gives_by prefix s n r e =
    let both : (weak_rights prefix s ≡ None) × (said_by prefix s n ≡ Some (Given r)) =
    third_gives (weak_availability prefix s) (weak_rights prefix s) (said_by prefix s n) r
    (if_fails (is_offer_or_expose s.hop.step) _ (fitting_fails s.hop (standing prefix) (standing (prefix ++ s ∷ []))))
    (within_fails s.hop (asked_rights (prefix ++ s ∷ [])) s.hop.rights) e in
    let said : (n ≡ Ends) × (r ≡ route_of prefix s) = said_gives prefix s n r both.1 in
    record { ends = said.0; within = both.0; is = said.1 }

-- A station that comes to a route is an end and gives it, with the rights within its own.
trial_gives : (prefix : List Station) (s : Station) (n : NextStation) (r : Route) → trial_by prefix s n ≡ Some (Given r) → GivesAt prefix s n r
trial_gives prefix s NoChild r e = absurd (cc)
trial_gives prefix s (To t) r e = gives_by prefix s (To t) r e
trial_gives prefix s Ends r e = gives_by prefix s Ends r e
trial_gives prefix s (Needs j) r e = gives_by prefix s (Needs j) r e
trial_gives prefix s FromVoid r e = gives_by prefix s FromVoid r e
trial_gives prefix s (Misses hop why) r e = gives_by prefix s (Misses hop why) r e

-- ---- rights of a whole route

-- What stands behind the first rights doesn't change which are the first.
head_only : (xs ys zs : List RightSet) (x : RightSet) → slice_get (xs ++ x ∷ ys) 0 ≡ slice_get (xs ++ x ∷ zs) 0
head_only [] ys zs x = refl
head_only (w ∷ ws) ys zs x = refl

-- The rights that stations state begin with those of the first, where it states some.
stated_by : (s : Station) (rest : List Station) (o : Option RightSet) (x : RightSet) → s.hop.rights ≡ o → o ≡ Some x → filter_map (λ t. t.hop.rights) (s ∷ rest) ≡ x ∷ filter_map (λ t. t.hop.rights) rest
stated_by s rest o x is e = rw (is ∙ e) refl

-- the first rights that are stated up to a station that states some are the first of all
first_settled : (prefix : List Station) (s : Station) (rest : List Station) (x : RightSet) → s.hop.rights ≡ Some x → first_rights (prefix ++ s ∷ []) ≡ first_rights (prefix ++ (s ∷ rest))
first_settled prefix s rest x states =
    let rights : Station → Option RightSet = λ t. t.hop.rights in
    let short : filter_map rights (prefix ++ s ∷ []) ≡ filter_map rights prefix ++ x ∷ [] =
    filter_map-append rights prefix (s ∷ []) ∙ ap (λ l. filter_map rights prefix ++ l) (stated_by s [] (Some x) x states refl) in
    let long : filter_map rights (prefix ++ (s ∷ rest)) ≡ filter_map rights prefix ++ x ∷ filter_map rights rest =
    filter_map-append rights prefix (s ∷ rest) ∙ ap (λ l. filter_map rights prefix ++ l) (stated_by s rest (Some x) x states refl) in
    ap (λ l. slice_get l 0) short
    ∙ head_only (filter_map rights prefix) [] (filter_map rights rest) x
    ∙ sym (ap (λ l. slice_get l 0) long)

-- Once a station states rights, those asked for stay the same with what follows.
asked_settled : (prefix : List Station) (s : Station) (rest : List Station) (x : RightSet) → s.hop.rights ≡ Some x → asked_rights (prefix ++ s ∷ []) ≡ asked_rights (prefix ++ (s ∷ rest))
asked_settled [] s rest x states = ap (cond (is_use s.hop.step) s.hop.rights) (first_settled [] s rest x states)
asked_settled (t ∷ ts) s rest x states = ap (cond (is_use t.hop.step) t.hop.rights) (first_settled (t ∷ ts) s rest x states)

-- Where a hop doesn't fail unless a test passes, the test passes.
in_test : (b : Bool) (hop : Hop) (why : Why) → cond b None (Some (Failed hop why)) ≡ None → IsTrue b
in_test true hop why e = refl
in_test false hop why e = absurd (none_some _ (sym e))

-- Where the check of rights refuses nothing, those asked for are within those stated.
within_none : (hop : Hop) (asked stated : Option RightSet) → unless_within hop asked stated ≡ None → AreWithin asked stated
within_none hop (Some asked) (Some stated) e = in_test (contains stated asked) hop _ e
within_none hop (Some asked) None e = tt
within_none hop None stated e = tt

-- Where no rights are stated, those asked for are within them.
none_stated : (asked : Option RightSet) → AreWithin asked None
none_stated (Some asked) = tt
none_stated None = tt

-- Rights asked for up to a station that are within its own are so with what follows.
within_by : (prefix : List Station) (s : Station) (rest : List Station) (o : Option RightSet) → s.hop.rights ≡ o → AreWithin (asked_rights (prefix ++ s ∷ [])) s.hop.rights → AreWithin (asked_rights (prefix ++ (s ∷ rest))) s.hop.rights
within_by prefix s rest None states within = subst (AreWithin (asked_rights (prefix ++ (s ∷ rest)))) (sym states) (none_stated (asked_rights (prefix ++ (s ∷ rest))))
within_by prefix s rest (Some x) states within = subst (λ a. AreWithin a s.hop.rights) (asked_settled prefix s rest x states) within

-- Where a station's rights refuse nothing, those of the whole route are within its own.
within_at : (prefix : List Station) (s : Station) (rest : List Station) → weak_rights prefix s ≡ None → AreWithin (asked_rights (prefix ++ (s ∷ rest))) s.hop.rights
within_at prefix s rest quiet =
    within_by prefix s rest s.hop.rights refl (within_none s.hop (asked_rights (prefix ++ s ∷ [])) s.hop.rights quiet)

-- ---- a route that is given

-- the route of these stations behind a prefix
record IsGiven (rows : List Row) (builtins : List Builtin) (prefix : List Station) (s : Station) (rest : List Station) (r : Route) : Type 0 where
  ends : next_of rows builtins (last_of s rest) ≡ Ends
  hops : r.hops ≡ map (λ t. t.hop) (prefix ++ (s ∷ rest))
  rights : r.rights ≡ asked_rights (prefix ++ (s ∷ rest))
  provider : r.provider ≡ provider_of (last_of s rest).hop
  within : All (λ (t : Station). AreWithin (asked_rights (prefix ++ (s ∷ rest))) t.hop.rights) (s ∷ rest)

module _ (rows : List Row) (builtins : List Builtin) where
  -- A route that one station gives is given along it.
  one_given : (prefix : List Station) (s : Station) (r : Route) → GivesAt prefix s (next_of rows builtins s) r → IsGiven rows builtins prefix s [] r
  one_given prefix s r it = record {
    ends = it.ends;
    hops = ap (λ x. x.hops) it.is;
    rights = ap (λ x. x.rights) it.is;
    provider = ap (λ x. x.provider) it.is;
    within =
        All-cons (λ (x : Station). AreWithin (asked_rights (prefix ++ s ∷ [])) x.hop.rights) s [] (within_at prefix s [] it.within)
        (All-nil (λ (x : Station). AreWithin (asked_rights (prefix ++ s ∷ [])) x.hop.rights));
  }

  -- A route given from the next station on is given from this one, where its rights refuse nothing.
  more_given : (prefix : List Station) (s t : Station) (ts : List Station) (r : Route) → weak_rights prefix s ≡ None → IsGiven rows builtins (prefix ++ s ∷ []) t ts r → IsGiven rows builtins prefix s (t ∷ ts) r
  more_given prefix s t ts r quiet it =
      let whole : (prefix ++ s ∷ []) ++ (t ∷ ts) ≡ prefix ++ (s ∷ (t ∷ ts)) = append_assoc prefix (s ∷ []) (t ∷ ts) in
      record {
        ends = it.ends;
        hops = it.hops ∙ ap (map (λ x. x.hop)) whole;
        rights = it.rights ∙ ap asked_rights whole;
        provider = it.provider;
        within =
            All-cons (λ (x : Station). AreWithin (asked_rights (prefix ++ (s ∷ (t ∷ ts)))) x.hop.rights) s (t ∷ ts) (within_at prefix s (t ∷ ts) quiet)
            (subst (λ (l : List Station). All (λ (x : Station). AreWithin (asked_rights l) x.hop.rights) (t ∷ ts)) whole it.within);
      }

  -- A walk that is decided by a route gives that route along its stations.
  given : (prefix : List Station) (s : Station) (rest : List Station) (r : Route) → IsDecided rows builtins prefix s rest (Given r) → IsGiven rows builtins prefix s rest r
  given prefix s [] r decided = one_given prefix s r (trial_gives prefix s (next_of rows builtins s) r decided)
  given prefix s (t ∷ ts) r decided =
      more_given prefix s t ts r (quiet_rights prefix s (next_of rows builtins s) decided.0) (given (prefix ++ s ∷ []) t ts r decided.1)

-- ---- an opening

-- Where an open is answered by a route, it is the one that was asked, and the provider is on.
open_by : (b c : Bool) (i : ℕ) (route r : Route) → cond b (reply.SourceShut i) (cond c (reply.Opened route) (reply.NeedStart i)) ≡ reply.Opened r → (route ≡ r) × IsTrue c
open_by true c i route r e = absurd (cc)
open_by false true i route r e = (cc, refl)
open_by false false i route r e = absurd (cc)

-- Where an open at a provider opens a route, it is that route, and the provider is on.
open_at : (rows : List Row) (route : Route) (p : Provider) (r : Route) → opened_at rows route p ≡ reply.Opened r → (route ≡ r) × IsProviding rows p
open_at rows route (provider.Instance i moniker) r e = open_by _ (is_on rows i) i route r e
open_at rows route provider.Framework r e = (cc, tt)
open_at rows route provider.Builtin r e = (cc, tt)

-- A reply of a shut source or a need opens no route.
need_by : (b : Bool) (j : ℕ) (r : Route) → cond b (reply.SourceShut j) (reply.Need j) ≡ reply.Opened r → ⊥
need_by true j r e = absurd (cc)
need_by false j r e = absurd (cc)

-- what is opened was given, and its provider is on
open_of : (rows : List Row) (v : Walked) (r : Route) → opened rows v ≡ reply.Opened r → (v ≡ Given r) × IsProviding rows r.provider
open_of rows (Given route) r e =
    let both : (route ≡ r) × IsProviding rows route.provider = open_at rows route route.provider r e in
    (ap Given both.0, subst (λ (x : Route). IsProviding rows x.provider) both.0 both.1)
open_of rows (Failed hop why) r e = absurd (cc)
open_of rows (Need j) r e = absurd (need_by (is_closed rows j) j r e)
open_of rows (Void hop) r e = absurd (cc)
open_of rows NoSuchUse r e = absurd (cc)

-- A reply that opens a route isn't plain.
not_plain : (x : Reply) (r : Route) → x ≡ reply.Opened r → is_plain x ≡ true → ⊥
not_plain x r e plain = true≢false (sym plain ∙ ap is_plain e)

module _ (w : World) (event : Event) (begin : Start) (begins : start_of event ≡ Some begin) (r : Route) where
  -- A route that is given along its stations, with its provider on, is a true one of the world.
  stable_given : (s : Station) (rest : List Station) → IsRoute w.rows w.frame.builtins begin s rest → IsGiven w.rows w.frame.builtins [] s rest r → IsProviding w.rows r.provider → IsStable w event r
  stable_given s rest route it on = record {
    begin = begin;
    begins = begins;
    first = s;
    rest = rest;
    route = route;
    hops = it.hops;
    provider = it.provider;
    on = on;
    within =
        subst (λ (hs : List Hop). All (λ (h : Hop). AreWithin r.rights h.rights) hs) (sym it.hops)
        (subst (λ (g : Option RightSet). All (λ (h : Hop). AreWithin g h.rights) (map (λ t. t.hop) (s ∷ rest))) (sym it.rights)
        (All-map (λ (h : Hop). AreWithin (asked_rights (s ∷ rest)) h.rights) (λ (t : Station). t.hop) (s ∷ rest) it.within));
  }

  -- A route to which a walk comes, with its provider on, is a true one of the world.
  stable_from : (n : Named) → named_by w.rows begin ≡ n → IsWalkedFrom w.rows w.frame.builtins n (Given r) → IsProviding w.rows r.provider → IsStable w event r
  stable_from (First s) named it on =
      let found : IsGiven w.rows w.frame.builtins [] s it.rest r = given w.rows w.frame.builtins [] s it.rest r it.decided in
      stable_given s it.rest (record { begins = named; chain = it.chain; ends = found.ends }) found on
  stable_from NoUse named it on = absurd (cc)
  stable_from (NoneExposed hop) named it on = absurd (cc)

  -- A route that is opened by what its walk came to is a true one of the world.
  stable_walked : (v : Walked) → IsWalkedFrom w.rows w.frame.builtins (named_by w.rows begin) v → opened w.rows v ≡ reply.Opened r → IsStable w event r
  stable_walked v walked e =
      let both : (v ≡ Given r) × IsProviding w.rows r.provider = open_of w.rows v r e in
      stable_from (named_by w.rows begin) refl
      (subst (IsWalkedFrom w.rows w.frame.builtins (named_by w.rows begin)) both.0 walked) both.1

  -- A route that is opened where nothing refuses it is a true one of the world.
  stable_unless : (refused : Option Reply) → passes_or is_plain refused ≡ true → WalksUnless w.rows w.frame.builtins begin (opened w.rows) refused (reply.Opened r) → IsStable w event r
  stable_unless (Some refusal) plain it = absurd (not_plain refusal r (sym it) plain)
  stable_unless None plain it = stable_walked it.0 it.1 (sym it.2)

-- ---- the law

-- A route that an allowed reply opens is a true one of the world.
opens_by : (w : World) (caller : ℕ) (e : Event) (r : Route) → Allowed w caller e (reply.Opened r) → IsStable w e r
opens_by w caller (OpenUse i path) r it =
    stable_unless w (OpenUse i path) (UseAt i path) refl r (unopened w.rows i) (unopened_plain w.rows i) it
opens_by w caller (OpenExposed i name) r it =
    stable_unless w (OpenExposed i name) (ExposeAt i name) refl r (unready w.rows i) (unready_plain w.rows i) it
opens_by w caller (Pick t) r it = absurd it
opens_by w caller (Begin kind i) r it = absurd (true≢false (sym (begin_passes w.rows w.next_action i kind (reply.Opened r) it)))
opens_by w caller e r it = absurd (true≢false (sym (plain_reply w caller e (reply.Opened r) refl it)))

-- Each route that was opened in a legal history was a true one then.
pub routes_are_stable : RoutesAreStable
routes_are_stable f es legal =
    of_each_entry (λ prefix e. (r : Route) → e.reply ≡ reply.Opened r → IsStable (replay (start f) prefix) e.event r) (start f) es legal
    (λ prefix e before step r opens.
    opens_by (replay (start f) prefix) e.caller e.event r
    (subst (Allowed (replay (start f) prefix) e.caller e.event) opens step.allowed))
