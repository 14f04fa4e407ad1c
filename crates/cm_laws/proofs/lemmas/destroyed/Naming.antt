-- What a reply names: rows that stand, but for the few replies that say that a row is gone, is new, or goes.
use Rattle.std.proofs.Common.{◌≡◌, ℕ, List, [], ◌∷◌, ◌++◌, map, filter, filter_map, Bool, true, false, cond, not, ◌&&◌, ◌||◌, ◌==◌, Option, Some, None, is_some, option_map, option_and_then, IsTrue, refl, sym, ◌∙◌, ap, subst}
use Rattle.std.specs.List.{list_all, cons_option}
use Rattle.std.specs.Option.{option_eq, option_map_or}
use Rattle.std.specs.Str.{bytes_eq}
use Rattle.std.specs.Cmp.{unsigned_Decides, first_so, second_so}
use Rattle.std.proofs.lemmas.List.Folds.{list_all-map, list_all-append}
use Rattle.cm_names.specs.declared.child.ChildName.{ChildName}
use Rattle.cm_names.specs.declared.moniker.Moniker.{Moniker}
use Rattle.cm_facts.proofs.Options.{option_eq_some}
use Rattle.cm_decl.specs.declared.decl.Decl.{Decl}
use Rattle.cm_decl.specs.declared.node.DynChild.{DynChild}
use Rattle.cm_decl.specs.declared.rows.Child.{Child}
use Rattle.cm_decl.specs.declared.rows.Collection.{Collection}
use Rattle.cm_decl.specs.declared.rows.Give.{Give}
use Rattle.cm_decl.specs.Dynamic.{bad_give}
use Rattle.cm_decl.specs.Graph.{static_name}
use Rattle.cm_world.specs.declared.row.Row.{Row}
use Rattle.cm_world.specs.declared.action.ActKind.{ActKind}
use Rattle.cm_world.specs.declared.action.ActKind.TheVariants.{Resolve, Start, Stop}
use Rattle.cm_world.specs.declared.action.Outcome.{Outcome}
use Rattle.cm_world.specs.declared.action.Work.{Work}
use Rattle.cm_world.specs.declared.report.Kid.{Kid}
use Rattle.cm_world.specs.declared.route.Provider.{Provider}
use Rattle.cm_world.specs.declared.route.Provider.TheVariants as provider
use Rattle.cm_world.specs.declared.route.Route.{Route}
use Rattle.cm_world.specs.declared.route.Start.{Start as Begins}
use Rattle.cm_world.specs.declared.route.Start.TheVariants.{UseAt, ExposeAt}
use Rattle.cm_world.specs.declared.route.Walked.{Walked}
use Rattle.cm_world.specs.declared.route.Walked.TheVariants as walked
use Rattle.cm_world.specs.declared.frame.Builtin.{Builtin}
use Rattle.cm_world.specs.declared.event.Event.{Event}
use Rattle.cm_world.specs.declared.event.Event.TheVariants.{Find, Begin, End, Await, Create, Mark, Pick, Purge, Route as RouteOf, OpenUse, OpenExposed, Listing, Show, Survey, Exited, Tail, Reap}
use Rattle.cm_world.specs.declared.reply.Reply.{Reply}
use Rattle.cm_world.specs.declared.reply.Reply.TheVariants as reply
use Rattle.cm_world.specs.Rows.{row_of, decl_of, child_of, has_parent, is_live, is_gone, is_closed, is_resolved, is_on, is_shut, is_below, has_closing, has_doomed, subtree}
use Rattle.cm_world.specs.World.{World, outcome_of}
use Rattle.cm_world.specs.Sound.{IsOrderly}
use Rattle.cm_world.specs.Work.{work_of, eager_of}
use Rattle.cm_world.specs.Find.{found_from}
use Rattle.cm_world.specs.Begin.{same_act, is_so, needs_decl, begin_idle, begin_at, begin_reply}
use Rattle.cm_world.specs.Create.{collection_of, refused_gives, refused_name, refused_by, refused_create, Creates, CreatesUnder, CreatesUnless, dynamic_name, dynamic_with, is_child_there}
use Rattle.cm_world.specs.Marks.{is_dynamic, mark_reply, lost_of}
use Rattle.cm_world.specs.Reports.{look_at, kid_by, kid_of, has_collection, list_by, survey_row, exit_reply}
use Rattle.cm_world.specs.Openings.{unready, unopened, routed, opened, opened_at, WalksUnless}
use Rattle.cm_world.specs.Step.{PicksOn, Allowed}
use Rattle.cm_world.specs.Expiring.{reaped}
use Rattle.cm_world.proofs.lemmas.trees.Finding.{none_some, some_same, row_of-inc}
use Rattle.cm_trees.proofs.trees.Trees.{all_rows, and_pair, not_flip}
use Rattle.cm_laws.specs.Destroying.{incs_of_provider, incs_of_route, named_in}
use Rattle.cm_laws.proofs.lemmas.entries.Answered.{passes_or}
use Rattle.cm_laws.proofs.lemmas.sound.Reaps.{reaped_doomed, doomed_live, all_more}
use Rattle.cm_laws.proofs.lemmas.destroyed.Standing.{stands, one, stands_down, child_stands, walked_stands, inc_of_start, walk_stands}

-- ---- lists

-- The items that are kept for passing a test all pass it.
pub all_kept : {A : Type 0} (p : A → Bool) (xs : List A) → IsTrue (list_all p (filter p xs))
all_kept p [] = refl
all_kept p (x ∷ xs) = kept_by (p x) refl (all_kept p xs) where
  kept_by : (b : Bool) → p x ≡ b → IsTrue (list_all p (filter p xs)) → IsTrue (list_all p (cond b (x ∷ filter p xs) (filter p xs)))
  kept_by true e more = and_pair (p x) (list_all p (filter p xs)) e more
  kept_by false e more = more

-- Where all items pass a test, those that are kept by another do.
pub all_left : {A : Type 0} (p q : A → Bool) (xs : List A) → IsTrue (list_all p xs) → IsTrue (list_all p (filter q xs))
all_left p q [] all = refl
all_left p q (x ∷ xs) all = left_by (q x) (all_left p q xs (second_so (p x) (list_all p xs) all)) where
  left_by : (b : Bool) → IsTrue (list_all p (filter q xs)) → IsTrue (list_all p (cond b (x ∷ filter q xs) (filter q xs)))
  left_by true more = and_pair (p x) (list_all p (filter q xs)) (first_so (p x) (list_all p xs) all) more
  left_by false more = more

-- what comes of each item passes, if something does
pub all_made : {A B : Type 0} (p : B → Bool) (h : A → Option B) (xs : List A) → IsTrue (list_all (λ x. option_map_or p (h x) true) xs) → IsTrue (list_all p (filter_map h xs))
all_made p h [] all = refl
all_made {B = B} p h (x ∷ xs) all =
    made_by (h x) (first_so (option_map_or p (h x) true) (list_all (λ x. option_map_or p (h x) true) xs) all)
    (all_made p h xs (second_so (option_map_or p (h x) true) (list_all (λ x. option_map_or p (h x) true) xs) all))
  where
    made_by : (o : Option B) → IsTrue (option_map_or p o true) → IsTrue (list_all p (filter_map h xs)) → IsTrue (list_all p (cons_option o (filter_map h xs)))
    made_by None here more = more
    made_by (Some y) here more = and_pair (p y) (list_all p (filter_map h xs)) here more

-- Where each item passes, all items of a list do.
all_each : {A : Type 0} (p : A → Bool) → ((x : A) → IsTrue (p x)) → (xs : List A) → IsTrue (list_all p xs)
all_each p each [] = refl
all_each p each (x ∷ xs) = and_pair (p x) (list_all p xs) (each x) (all_each p each xs)

-- ---- choices

module _ (p : Reply → Bool) where
  -- One of two replies that pass does so, whichever is taken.
  either : (b : Bool) (x y : Reply) → IsTrue (p x) → IsTrue (p y) → IsTrue (p (cond b x y))
  either true x y left right = left
  either false x y left right = right

  -- One of two replies passes, where the first does, and the second does where it is taken.
  unless : (b : Bool) (x y : Reply) → IsTrue (p x) → (b ≡ false → IsTrue (p y)) → IsTrue (p (cond b x y))
  unless true x y left right = left
  unless false x y left right = right refl

  -- One of two replies that pass, if they are there, does so.
  either_or : (b : Bool) (x y : Option Reply) → IsTrue (passes_or p x) → IsTrue (passes_or p y) → IsTrue (passes_or p (cond b x y))
  either_or true x y left right = left
  either_or false x y left right = right

  -- One of two replies, if there, passes, where the second does where it is taken.
  unless_or : (b : Bool) (x y : Option Reply) → IsTrue (passes_or p x) → (b ≡ false → IsTrue (passes_or p y)) → IsTrue (passes_or p (cond b x y))
  unless_or true x y left right = left
  unless_or false x y left right = right refl

  -- A reply that is told passes, where what may be told does.
  said : (o : Option Reply) (r : Reply) → IsTrue (passes_or p o) → o ≡ Some r → IsTrue (p r)
  said o r passes e = sym (ap (passes_or p) e) ∙ passes

-- what is true of each row that a reply names: it stands, but for a reply that says that it is gone, is new, or goes
abbrev pub fits : List Row → ℕ → Reply → ℕ → Bool
fits rows next (reply.Gone i) j = true
fits rows next (reply.Created i) j = j == next
fits rows next (reply.Stopping work) j = is_live rows j
fits rows next (reply.ShutDown i) j = is_live rows j
fits rows next (reply.Purged lost) j = is_live rows j
fits rows next (reply.Reaping incs) j = is_live rows j
fits rows next _ j = stands rows j

-- Whether each row that a reply names stands, but where it says that a row is gone, is new, or goes.
abbrev pub names_well : List Row → ℕ → Reply → Bool
names_well rows next r = list_all (fits rows next r) (named_in r)

module _ (rows : List Row) (next : ℕ) (orderly : IsOrderly rows next) where
  -- Whether what a reply names stands, is gone as it says, is new, or goes.
  abbrev well : Reply → Bool
  well r = names_well rows next r

  -- Whether what a reply names is so, if there is a reply.
  abbrev well_or : Option Reply → Bool
  well_or o = passes_or (names_well rows next) o

  -- A row that isn't gone stands.
  here_of : (i : ℕ) → is_gone rows i ≡ false → IsTrue (stands rows i)
  here_of i e = not_flip (is_gone rows i) e

  -- The row that is found for an incarnation that stands stands.
  row_here : (i : ℕ) (r : Row) → row_of rows i ≡ Some r → IsTrue (stands rows i) → IsTrue (stands rows r.inc)
  row_here i r lives here = subst (λ j. IsTrue (stands rows j)) (sym (row_of-inc rows i r lives)) here

  -- ---- a find

  -- The reply to a find names what it may, whether the next child is there or not.
  found_child : (prefix : List ChildName) (i : ℕ) (c : ChildName) (cs : List ChildName) (o : Option ℕ) → child_of rows i c ≡ o → ((j : ℕ) → child_of rows i c ≡ Some j → IsTrue (well (found_from rows j (prefix ++ c ∷ []) cs))) → IsTrue (well (elim o as (λ _. Reply) [ None ↦ reply.NotFound (record { parts = prefix }) | Some j ↦ found_from rows j (prefix ++ c ∷ []) cs ]))
  found_child prefix i c cs None e more = refl
  found_child prefix i c cs (Some j) e more = more j e

  -- The reply to a find from a row that stands names what it may.
  found_well : (i : ℕ) (prefix cs : List ChildName) → IsTrue (stands rows i) → IsTrue (well (found_from rows i prefix cs))
  found_well i prefix [] here = one (stands rows i) here
  found_well i prefix (c ∷ cs) here =
      either (names_well rows next) (is_resolved rows i) _ _
      (found_child prefix i c cs (child_of rows i c) refl (λ j e. found_well j (prefix ++ c ∷ []) cs (child_stands rows next orderly i j c e here)))
      (either (names_well rows next) (is_closed rows i) (reply.Shut i) (reply.Need i) (one (stands rows i) here) (one (stands rows i) here))

  -- ---- a begin

  -- A child that is found to start with its parent stands, where the parent stands.
  eager_by : (o : Option ℕ) (i : ℕ) (c : ChildName) → child_of rows i c ≡ o → IsTrue (stands rows i) → IsTrue (option_map_or (stands rows) o true)
  eager_by None i c e here = refl
  eager_by (Some j) i c e here = child_stands rows next orderly i j c e here

  -- The children that start with a row that stands stand.
  eager_stands : (r : Row) (o : Option Decl) → IsTrue (stands rows r.inc) → IsTrue (list_all (stands rows) (elim o as (λ _. List ℕ) [ None ↦ [] | Some d ↦ filter_map (λ k. child_of rows r.inc (static_name k.name)) (filter (λ k. k.eager) d.children) ]))
  eager_stands r None here = refl
  eager_stands r (Some d) here =
      all_made (stands rows) (λ (k : Child). child_of rows r.inc (static_name k.name)) (filter (λ k. k.eager) d.children)
      (all_each (λ (k : Child). option_map_or (stands rows) (child_of rows r.inc (static_name k.name)) true)
      (λ k. eager_by (child_of rows r.inc (static_name k.name)) r.inc (static_name k.name) refl here) (filter (λ k. k.eager) d.children))

  -- Work that begins at a row that stands names what it may.
  work_well : (n : ℕ) (kind : ActKind) (r : Row) → IsTrue (stands rows r.inc) → IsTrue (well (reply.Begun (work_of rows n kind r)))
  work_well n Resolve r here = one (stands rows r.inc) here
  work_well n Start r here = and_pair (stands rows r.inc) (list_all (stands rows) (eager_of rows r)) here (eager_stands r r.decl here)
  work_well n Stop r here = one (stands rows r.inc) here

  -- The reply to a begin with nothing pending, at a row that stands, names what it may.
  idle_well : (n : ℕ) (kind : ActKind) (r : Row) → IsTrue (stands rows r.inc) → IsTrue (well (begin_idle rows n kind r))
  idle_well n kind r here =
      either (names_well rows next) (is_so kind r) _ _ refl
      (either (names_well rows next) (is_closed rows r.inc) (reply.Shut r.inc) _ (one (stands rows r.inc) here)
      (either (names_well rows next) (needs_decl kind r) (reply.Need r.inc) _ (one (stands rows r.inc) here) (work_well n kind r here)))

  -- The reply to a begin, whatever is pending at a row that stands, names what it may.
  pending_well : (n : ℕ) (kind : ActKind) (r : Row) (o : Option (ActKind × ℕ)) → IsTrue (stands rows r.inc) → IsTrue (well_or (elim o as (λ _. Option Reply) [ Some p ↦ cond (same_act kind p.0) (Some (reply.Joined p.1)) None | None ↦ Some (begin_idle rows n kind r) ]))
  pending_well n kind r (Some p) here = either_or (names_well rows next) (same_act kind p.0) _ _ refl refl
  pending_well n kind r None here = idle_well n kind r here

  -- The reply to a begin, whether its row is found or not, names what it may.
  begun_well : (n i : ℕ) (kind : ActKind) (o : Option Row) → row_of rows i ≡ o → IsTrue (stands rows i) → IsTrue (well_or (elim o as (λ _. Option Reply) [ None ↦ Some (reply.Gone i) | Some r ↦ begin_at rows n kind r ]))
  begun_well n i kind None lives here = refl
  begun_well n i kind (Some r) lives here = pending_well n kind r r.pending (row_here i r lives here)

  -- The reply to a begin names what it may.
  begin_well : (n i : ℕ) (kind : ActKind) → IsTrue (well_or (begin_reply rows n kind i))
  begin_well n i kind =
      unless_or (names_well rows next) (is_gone rows i) _ _ refl (λ e. begun_well n i kind (row_of rows i) refl (here_of i e))

  -- ---- a create

  -- The refusal of a bad offer names what it may.
  bad_well : (o : Option (ℕ × ℕ)) → IsTrue (well_or (option_map (λ bad. reply.BadOffer bad.0 bad.1) o))
  bad_well None = refl
  bad_well (Some bad) = refl

  -- What the gives refuse names what it may.
  gives_well : (p : ℕ) (d : Decl) (coll : Collection) (gives : List Give) → IsTrue (well_or (refused_gives rows p d coll gives))
  gives_well p d coll [] = refl
  gives_well p d coll (g ∷ gs) =
      either_or (names_well rows next) coll.dynamic_offers _ _ (bad_well (bad_give d (is_child_there rows p) coll.name (g ∷ gs))) refl

  -- What the name refuses names what it may, where the parent stands.
  name_well : (p : ℕ) (d : Decl) (coll : Collection) (c : ChildName) (gives : List Give) (o : Option ℕ) → child_of rows p c ≡ o → IsTrue (stands rows p) → IsTrue (well_or (elim o as (λ _. Option Reply) [ Some i ↦ Some (reply.Exists i) | None ↦ refused_gives rows p d coll gives ]))
  name_well p d coll c gives (Some i) e here = one (stands rows i) (child_stands rows next orderly p i c e here)
  name_well p d coll c gives None e here = gives_well p d coll gives

  -- What the collection refuses names what it may, where the parent stands.
  by_well : (p : ℕ) (d : Decl) (coll name : List ℕ) (gives : List Give) (o : Option Collection) → IsTrue (stands rows p) → IsTrue (well_or (elim o as (λ _. Option Reply) [ None ↦ Some reply.NoCollection | Some c ↦ refused_name rows p d c (dynamic_name coll name) gives ]))
  by_well p d coll name gives None here = refl
  by_well p d coll name gives (Some c) here =
      name_well p d c (dynamic_name coll name) gives (child_of rows p (dynamic_name coll name)) refl here

  -- What the declaration, or its lack, refuses names what it may, where the parent stands.
  under_well : (p : ℕ) (coll name : List ℕ) (gives : List Give) (o : Option Decl) → IsTrue (stands rows p) → IsTrue (well_or (elim o as (λ _. Option Reply) [ None ↦ Some (reply.Need p) | Some d ↦ refused_by rows p d coll name gives ]))
  under_well p coll name gives None here = one (stands rows p) here
  under_well p coll name gives (Some d) here = by_well p d coll name gives (collection_of d coll) here

  -- The refusal of a create names what it may.
  refused_well : (p : ℕ) (coll name : List ℕ) (gives : List Give) → IsTrue (well_or (refused_create rows p coll name gives))
  refused_well p coll name gives =
      unless_or (names_well rows next) (is_gone rows p) _ _ refl
      (λ e. either_or (names_well rows next) (is_closed rows p) _ _ (one (stands rows p) (here_of p e)) (under_well p coll name gives (decl_of rows p) (here_of p e)))

  -- What the realm graph and the room decide of a create names what it may.
  creates_well : (limit : ℕ) (d : Decl) (dynamic : List DynChild) (r : Reply) → Creates limit rows next d dynamic r → IsTrue (well r)
  creates_well limit d dynamic (reply.Cycle nodes) it = refl
  creates_well limit d dynamic reply.Full it = refl
  creates_well limit d dynamic (reply.Created i) it = one (i == next) ((unsigned_Decides i next).1 it.2)
  creates_well limit d dynamic _ it = absurd it

  -- What they decide of a create by the parent's declaration names what it may.
  under_by : (limit : ℕ) (d : Option Decl) (dynamic : List DynChild) (r : Reply) → CreatesUnder limit rows next d dynamic r → IsTrue (well r)
  under_by limit None dynamic r it = absurd it
  under_by limit (Some d) dynamic r it = creates_well limit d dynamic r it

  -- The reply to a create names what it may, where its refusal does.
  create_well : (limit p : ℕ) (c : ChildName) (gives : List Give) (refused : Option Reply) (r : Reply) → IsTrue (well_or refused) → CreatesUnless limit rows next p c gives refused r → IsTrue (well r)
  create_well limit p c gives (Some refusal) r passes it = ap (names_well rows next) it ∙ passes
  create_well limit p c gives None r passes it = under_by limit (decl_of rows p) (dynamic_with rows p c gives) r it

  -- ---- marks, picks and purges

  -- The reply to a mark to be destroyed names what it may, whatever row was found.
  doomed_well : (i : ℕ) (o : Option Row) → IsTrue (well (elim o as (λ _. Reply) [ None ↦ reply.Gone i | Some r ↦ cond r.doomed reply.Already (cond (is_gone rows i) (reply.Gone i) (cond (is_dynamic r) reply.Marked reply.NotDynamic)) ]))
  doomed_well i None = refl
  doomed_well i (Some r) =
      either (names_well rows next) r.doomed _ _ refl
      (either (names_well rows next) (is_gone rows i) _ _ refl (either (names_well rows next) (is_dynamic r) _ _ refl refl))

  -- The reply to a mark names what it may.
  mark_well : (doom : Bool) (i : ℕ) → IsTrue (well (mark_reply rows doom i))
  mark_well doom i =
      either (names_well rows next) doom _ _ (doomed_well i (row_of rows i))
      (either (names_well rows next) (is_gone rows i) _ _ refl (either (names_well rows next) (has_closing rows i) _ _ refl refl))

  -- An incarnation whose row is found lives.
  live : (i : ℕ) (r : Row) → row_of rows i ≡ Some r → IsTrue (is_live rows i)
  live i r lives = ap is_some lives

  -- Each of the rows lives.
  each_lives : IsTrue (list_all (λ r. is_live rows r.inc) rows)
  each_lives =
      all_rows rows next (λ r. is_live rows r.inc) orderly.increasing
      (λ i r lives. ap (is_live rows) (row_of-inc rows i r lives) ∙ live i r lives)

  -- The reply to a purge names what it may.
  purge_well : (i : ℕ) → IsTrue (well (reply.Purged (map (lost_of rows) (subtree rows i))))
  purge_well i =
      list_all-map (is_live rows) (λ l. l.inc) (map (lost_of rows) (subtree rows i))
      ∙ list_all-map (λ l. is_live rows l.inc) (lost_of rows) (subtree rows i)
      ∙ all_left (λ r. is_live rows r.inc) (λ r. is_below rows i r.inc) rows each_lives

  -- The reply to a reap names what it may.
  reap_well : (i : ℕ) → IsTrue (well (reply.Reaping (reaped rows i)))
  reap_well i = all_more (has_doomed rows) (is_live rows) (doomed_live rows) (reaped rows i) (reaped_doomed rows next orderly i)

  -- The reply to a pick that begins a stop names what it may.
  stopping_well : (n t : ℕ) (work : Work) → PicksOn rows n t work → IsTrue (well (reply.Stopping work))
  stopping_well n t work it =
      and_pair (is_live rows work.inc) (list_all (is_live rows) work.eager) (live work.inc it.row it.may.row)
      (ap (λ w. list_all (is_live rows) w.eager) it.same)

  -- ---- reports

  -- What is listed of a child, if it has a name, stands, where the parent stands.
  kid_by_well : (p : ℕ) (coll : List ℕ) (i : ℕ) (r : Row) (o : Option ChildName) → row_of rows i ≡ Some r → IsTrue (stands rows p) → IsTrue (option_map_or (λ k. stands rows k.inc) (option_and_then (kid_by p coll r) o) true)
  kid_by_well p coll i r None lives here = refl
  kid_by_well p coll i r (Some c) lives here = tested (has_parent p r) (option_eq bytes_eq c.coll (Some coll)) r.doomed refl refl where
    tested : (a b d : Bool) → has_parent p r ≡ a → r.doomed ≡ d → IsTrue (option_map_or (λ (k : Kid). stands rows k.inc) (cond (a && b && not d) (Some (record { name = c.name; inc = r.inc })) None) true)
    tested true true false up undoomed =
        row_here i r lives (stands_down rows next orderly i p r lives (option_eq_some r.parent p up) undoomed here)
    tested true true true up undoomed = refl
    tested true false d up undoomed = refl
    tested false b d up undoomed = refl

  -- The reply to a list names what it may, where the parent stands.
  listed_well : (p : ℕ) (coll : List ℕ) → IsTrue (stands rows p) → IsTrue (well (reply.Listed (filter_map (kid_of p coll) rows)))
  listed_well p coll here =
      list_all-map (stands rows) (λ k. k.inc) (filter_map (kid_of p coll) rows)
      ∙ all_made (λ (k : Kid). stands rows k.inc) (kid_of p coll) rows
      (all_rows rows next (λ r. option_map_or (λ (k : Kid). stands rows k.inc) (kid_of p coll r) true) orderly.increasing
      (λ i r lives. kid_by_well p coll i r r.name lives here))

  -- What refuses a row that isn't ready names what it may.
  unready_well : (i : ℕ) → IsTrue (well_or (unready rows i))
  unready_well i =
      unless_or (names_well rows next) (is_gone rows i) _ _ refl
      (λ e. either_or (names_well rows next) (is_resolved rows i) _ _ refl
      (either_or (names_well rows next) (is_closed rows i) _ _ (one (stands rows i) (here_of i e)) (one (stands rows i) (here_of i e))))

  -- What refuses an open names what it may.
  unopened_well : (i : ℕ) → IsTrue (well_or (unopened rows i))
  unopened_well i =
      either_or (names_well rows next) (is_gone rows i) _ _ refl (either_or (names_well rows next) (is_on rows i) _ _ refl refl)

  -- Where nothing refuses, the first reason doesn't hold.
  not_gone : (b : Bool) (x : Reply) (o : Option Reply) → cond b (Some x) o ≡ None → b ≡ false
  not_gone true x o e = absurd (none_some x (sym e))
  not_gone false x o e = refl

  -- where nothing refuses a look, the row stands
  ready : (i : ℕ) → unready rows i ≡ None → IsTrue (stands rows i)
  ready i e = here_of i (not_gone (is_gone rows i) (reply.Gone i) _ e)

  -- A row at which nothing refuses an open stands.
  opening : (i : ℕ) → unopened rows i ≡ None → IsTrue (stands rows i)
  opening i e = here_of i (not_gone (is_gone rows i) (reply.Gone i) _ e)

  -- The reply to a list names what it may, where its refusal does.
  listing_well : (i : ℕ) (coll : List ℕ) (o : Option Reply) → unready rows i ≡ o → IsTrue (well_or o) → IsTrue (well (elim o as (λ _. Reply) [ Some refusal ↦ refusal | None ↦ list_by rows i coll ]))
  listing_well i coll (Some refusal) e passes = passes
  listing_well i coll None e passes =
      either (names_well rows next) (has_collection rows i coll) _ _ (listed_well i coll (ready i e)) refl

  -- The reply to a show names what it may, where its row stands.
  shown_well : (i : ℕ) (o : Option Row) → row_of rows i ≡ o → IsTrue (stands rows i) → IsTrue (well (elim o as (λ _. Reply) [ None ↦ reply.Gone i | Some r ↦ reply.Shown (look_at r) ]))
  shown_well i None lives here = refl
  shown_well i (Some r) lives here = one (stands rows r.inc) (row_here i r lives here)

  -- The reply to a survey names what it may.
  survey_well : (i : ℕ) → IsTrue (well (reply.Surveyed (map (survey_row rows) (filter (λ r. not (is_gone rows r.inc)) (subtree rows i)))))
  survey_well i =
      list_all-map (stands rows) (λ x. x.inc) (map (survey_row rows) (filter (λ r. not (is_gone rows r.inc)) (subtree rows i)))
      ∙ list_all-map (λ x. stands rows x.inc) (survey_row rows) (filter (λ r. not (is_gone rows r.inc)) (subtree rows i))
      ∙ all_kept (λ r. stands rows r.inc) (subtree rows i)

  -- What an exit is answered by names what it may.
  exit_well : (i : ℕ) (m : Moniker) (o : Option Row) → IsTrue (well_or (elim o as (λ _. Option Reply) [ None ↦ Some (reply.Gone i) | Some r ↦ cond (is_some r.pending) None (cond r.on (Some (reply.Left m)) (Some reply.Already)) ]))
  exit_well i m None = refl
  exit_well i m (Some r) =
      either_or (names_well rows next) (is_some r.pending) _ _ refl (either_or (names_well rows next) r.on _ _ refl refl)

  -- The reply to an end names what it may.
  ended_well : (o : Option Outcome) (r : Reply) → option_map reply.Ended o ≡ Some r → IsTrue (well r)
  ended_well None r e = absurd (none_some r e)
  ended_well (Some x) r e = ap (names_well rows next) (sym (some_same (reply.Ended x) r e))

  -- ---- routes

  -- The reply to an ask for a route names what it may, where its walk names rows that stand.
  routed_well : (v : Walked) → IsTrue (walked_stands rows next orderly v) → IsTrue (well (routed rows v))
  routed_well (walked.Given route) names = names
  routed_well (walked.Failed hop reason) names = names
  routed_well (walked.Need j) names = either (names_well rows next) (is_closed rows j) _ _ names names
  routed_well (walked.Void hop) names = names
  routed_well walked.NoSuchUse names = names

  -- The reply to an open at a provider names what it may, where it and its route do.
  opened_at_well : (route : Route) (p : Provider) → IsTrue (list_all (stands rows) (incs_of_provider p)) → IsTrue (list_all (stands rows) (incs_of_route route)) → IsTrue (well (opened_at rows route p))
  opened_at_well route (provider.Instance s moniker) provides names =
      either (names_well rows next) (is_shut rows s || (not (is_on rows s) && is_closed rows s)) (reply.SourceShut s) _ provides
      (either (names_well rows next) (is_on rows s) (reply.Opened route) (reply.NeedStart s) names provides)
  opened_at_well route provider.Framework provides names = names
  opened_at_well route provider.Builtin provides names = names

  -- The reply to an open names what it may, where its walk names rows that stand.
  opened_well : (v : Walked) → IsTrue (walked_stands rows next orderly v) → IsTrue (well (opened rows v))
  opened_well (walked.Given route) names =
      opened_at_well route route.provider
      (second_so (list_all (stands rows) (map (λ h. h.inc) route.hops)) (list_all (stands rows) (incs_of_provider route.provider))
      (sym (list_all-append (stands rows) (map (λ h. h.inc) route.hops) (incs_of_provider route.provider)) ∙ names)) names
  opened_well (walked.Failed hop reason) names = names
  opened_well (walked.Need j) names = routed_well (walked.Need j) names
  opened_well (walked.Void hop) names = names
  opened_well walked.NoSuchUse names = names

  -- The reply to a walk names what it may, where what refuses it and what is made of it do.
  walks_well : (builtins : List Builtin) (begin : Begins) (make : Walked → Reply) (refused : Option Reply) (r : Reply) → ((v : Walked) → IsTrue (walked_stands rows next orderly v) → IsTrue (well (make v))) → (refused ≡ None → IsTrue (stands rows (inc_of_start rows next orderly begin))) → IsTrue (well_or refused) → WalksUnless rows builtins begin make refused r → IsTrue (well r)
  walks_well builtins begin make (Some refusal) r makes here passes it = ap (names_well rows next) it ∙ passes
  walks_well builtins begin make None r makes here passes it =
      ap (names_well rows next) it.2 ∙ makes it.0 (walk_stands rows next orderly builtins begin it.0 (here refl) it.1)

-- ---- all of them

-- a reply that a tree allows names what it should, where its root stands
pub reply_well : (w : World) (caller : ℕ) (e : Event) (r : Reply) → IsOrderly w.rows w.next_inc → IsTrue (stands w.rows 0) → Allowed w caller e r → IsTrue (names_well w.rows w.next_inc r)
reply_well w caller (Find m) r orderly root it =
    ap (names_well w.rows w.next_inc) it ∙ found_well w.rows w.next_inc orderly 0 [] m.parts root
reply_well w caller (Begin kind i) r orderly root it =
    said (names_well w.rows w.next_inc) (begin_reply w.rows w.next_action kind i) r (begin_well w.rows w.next_inc orderly w.next_action i kind) it
reply_well w caller (End a finish) r orderly root it = ap (names_well w.rows w.next_inc) it
reply_well w caller (Await a) r orderly root it = ended_well w.rows w.next_inc orderly (outcome_of w.acts a) r it
reply_well w caller (Create p child) r orderly root it =
    create_well w.rows w.next_inc orderly w.frame.limits.rows p (dynamic_name child.coll child.name) child.gives (refused_create w.rows p child.coll child.name child.gives) r (refused_well w.rows w.next_inc orderly p child.coll child.name child.gives) it
reply_well w caller (Mark doom i) r orderly root it =
    ap (names_well w.rows w.next_inc) it ∙ mark_well w.rows w.next_inc orderly doom i
reply_well w caller (Pick t) reply.Done orderly root it = refl
reply_well w caller (Pick t) (reply.Stopping work) orderly root it = stopping_well w.rows w.next_inc orderly w.next_action t work it
reply_well w caller (Pick t) (reply.ShutDown i) orderly root it = one (is_live w.rows i) (ap is_some it.may.row)
reply_well w caller (Pick t) r orderly root it = absurd it
reply_well w caller (Purge i) r orderly root it =
    ap (names_well w.rows w.next_inc) it
    ∙ either (names_well w.rows w.next_inc) (is_live w.rows i) _ _ (purge_well w.rows w.next_inc orderly i) refl
reply_well w caller (RouteOf i path) r orderly root it =
    walks_well w.rows w.next_inc orderly w.frame.builtins (UseAt i path) (routed w.rows) (unready w.rows i) r (routed_well w.rows w.next_inc orderly) (ready w.rows w.next_inc orderly i) (unready_well w.rows w.next_inc orderly i) it
reply_well w caller (OpenUse i path) r orderly root it =
    walks_well w.rows w.next_inc orderly w.frame.builtins (UseAt i path) (opened w.rows) (unopened w.rows i) r (opened_well w.rows w.next_inc orderly) (opening w.rows w.next_inc orderly i) (unopened_well w.rows w.next_inc orderly i) it
reply_well w caller (OpenExposed i name) r orderly root it =
    walks_well w.rows w.next_inc orderly w.frame.builtins (ExposeAt i name) (opened w.rows) (unready w.rows i) r (opened_well w.rows w.next_inc orderly) (ready w.rows w.next_inc orderly i) (unready_well w.rows w.next_inc orderly i) it
reply_well w caller (Listing i coll) r orderly root it =
    ap (names_well w.rows w.next_inc) it
    ∙ listing_well w.rows w.next_inc orderly i coll (unready w.rows i) refl (unready_well w.rows w.next_inc orderly i)
reply_well w caller (Show i) r orderly root it =
    ap (names_well w.rows w.next_inc) it
    ∙ unless (names_well w.rows w.next_inc) (is_gone w.rows i) _ _ refl
    (λ e. shown_well w.rows w.next_inc orderly i (row_of w.rows i) refl (not_flip (is_gone w.rows i) e))
reply_well w caller (Survey i) r orderly root it =
    ap (names_well w.rows w.next_inc) it
    ∙ either (names_well w.rows w.next_inc) (is_gone w.rows i) _ _ refl (survey_well w.rows w.next_inc orderly i)
reply_well w caller (Exited i) r orderly root it =
    said (names_well w.rows w.next_inc) (exit_reply w.rows i) r (exit_well w.rows w.next_inc orderly i _ (row_of w.rows i)) it
reply_well w caller (Tail i from) r orderly root it =
    ap (names_well w.rows w.next_inc) it ∙ either (names_well w.rows w.next_inc) (is_gone w.rows i) _ _ refl refl
reply_well w caller (Reap i) r orderly root it =
    ap (names_well w.rows w.next_inc) it ∙ reap_well w.rows w.next_inc orderly i
