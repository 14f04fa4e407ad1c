-- Which events an action begins by, is joined by, or a route is opened by: all other events get other replies.
use Rattle.std.proofs.Common.{◌≡◌, ℕ, List, [], ◌∷◌, ◌++◌, Bool, true, false, cond, true≢false, is_some, Option, Some, None, option_map, refl, sym, ◌∙◌, ap, inl, inr, ◌⊎◌}
use Rattle.cm_names.specs.declared.child.ChildName.{ChildName}
use Rattle.cm_names.specs.declared.moniker.Moniker.{Moniker}
use Rattle.cm_decl.specs.declared.decl.Decl.{Decl}
use Rattle.cm_decl.specs.declared.node.DynChild.{DynChild}
use Rattle.cm_decl.specs.declared.rows.Collection.{Collection}
use Rattle.cm_decl.specs.declared.rows.Give.{Give}
use Rattle.cm_decl.specs.Dynamic.{bad_give}
use Rattle.cm_world.specs.declared.row.Row.{Row}
use Rattle.cm_world.specs.declared.action.ActKind.{ActKind}
use Rattle.cm_world.specs.declared.action.Outcome.{Outcome}
use Rattle.cm_world.specs.declared.frame.Builtin.{Builtin}
use Rattle.cm_world.specs.declared.route.Provider.{Provider}
use Rattle.cm_world.specs.declared.route.Provider.TheVariants as provider
use Rattle.cm_world.specs.declared.route.Route.{Route}
use Rattle.cm_world.specs.declared.route.Start.{Start}
use Rattle.cm_world.specs.declared.route.Start.TheVariants.{UseAt, ExposeAt}
use Rattle.cm_world.specs.declared.route.Walked.{Walked}
use Rattle.cm_world.specs.declared.route.Walked.TheVariants as walked
use Rattle.cm_world.specs.declared.event.Event.{Event}
use Rattle.cm_world.specs.declared.event.Event.TheVariants.{Find, Begin, End, Await, Create, Mark, Pick, Purge, Route as RouteOf, OpenUse, OpenExposed, Listing, Show, Survey, Exited, Tail, Reap}
use Rattle.cm_world.specs.declared.reply.Reply.{Reply}
use Rattle.cm_world.specs.declared.reply.Reply.TheVariants as reply
use Rattle.cm_world.specs.Rows.{row_of, decl_of, child_of, is_gone, is_closed, is_resolved, is_on, is_live, has_closing}
use Rattle.cm_world.specs.World.{World, outcome_of}
use Rattle.cm_world.specs.Begin.{same_act, is_so, needs_decl, begin_idle, begin_at, begin_reply}
use Rattle.cm_world.specs.Find.{found_from}
use Rattle.cm_world.specs.Create.{collection_of, refused_gives, refused_name, refused_by, refused_create, Creates, CreatesUnder, CreatesUnless, dynamic_name, dynamic_with, is_child_there}
use Rattle.cm_world.specs.Marks.{is_dynamic, mark_reply}
use Rattle.cm_world.specs.Reports.{look_at, has_collection, list_by, exit_reply}
use Rattle.cm_world.specs.Openings.{unready, unopened, routed, opened, opened_at, WalksUnless}
use Rattle.cm_world.specs.Step.{Allowed}
use Rattle.cm_world.proofs.lemmas.trees.Finding.{none_some, some_same}

-- a reply by which no action begins or is joined, and nothing is opened
abbrev pub is_plain : Reply → Bool
is_plain (reply.Begun work) = false
is_plain (reply.Stopping work) = false
is_plain (reply.Joined a) = false
is_plain (reply.Opened route) = false
is_plain _ = true

-- a reply that a begin may get, as far as those above go
abbrev pub is_beginning : Reply → Bool
is_beginning (reply.Stopping work) = false
is_beginning (reply.Opened route) = false
is_beginning _ = true

-- a reply that is there passes a test
abbrev pub passes_or : (Reply → Bool) → Option Reply → Bool
passes_or p None = true
passes_or p (Some r) = p r

-- the events that get such a reply in no world
abbrev pub asks_plainly : Event → Bool
asks_plainly (Begin kind i) = false
asks_plainly (Pick t) = false
asks_plainly (OpenUse i path) = false
asks_plainly (OpenExposed i name) = false
asks_plainly _ = true

-- ---- choices

module _ (p : Reply → Bool) where
  -- One of two replies that pass passes.
  if_passes : (b : Bool) (x y : Reply) → p x ≡ true → p y ≡ true → p (cond b x y) ≡ true
  if_passes true x y left right = left
  if_passes false x y left right = right

  -- A choice of two replies passes a test, where each of them does if it is there.
  pub or_passes : (b : Bool) (x y : Option Reply) → passes_or p x ≡ true → passes_or p y ≡ true → passes_or p (cond b x y) ≡ true
  or_passes true x y left right = left
  or_passes false x y left right = right

  -- A reply that is told passes, where what is told does.
  said_passes : (o : Option Reply) (r : Reply) → passes_or p o ≡ true → o ≡ Some r → p r ≡ true
  said_passes o r passes e = sym (ap (passes_or p) e) ∙ passes

-- ---- the replies kind by kind

-- The reply to a find by one more name is plain.
found_child : (rows : List Row) (prefix : List ChildName) (c : ChildName) (cs : List ChildName) (o : Option ℕ) → ((j : ℕ) → is_plain (found_from rows j (prefix ++ c ∷ []) cs) ≡ true) → is_plain (elim o as (λ _. Reply) [ None ↦ reply.NotFound (record { parts = prefix }) | Some j ↦ found_from rows j (prefix ++ c ∷ []) cs ]) ≡ true
found_child rows prefix c cs None more = refl
found_child rows prefix c cs (Some j) more = more j

-- The reply to a find is plain.
found_plain : (rows : List Row) (i : ℕ) (prefix cs : List ChildName) → is_plain (found_from rows i prefix cs) ≡ true
found_plain rows i prefix [] = refl
found_plain rows i prefix (c ∷ cs) =
    if_passes is_plain (is_resolved rows i) _ _ (found_child rows prefix c cs (child_of rows i c) (λ j. found_plain rows j (prefix ++ c ∷ []) cs))
    (if_passes is_plain (is_closed rows i) (reply.Shut i) (reply.Need i) refl refl)

-- a test that each refusal of a create passes
pub record PassesRefusals (p : Reply → Bool) : Type 0 where
  pub gone : (i : ℕ) → p (reply.Gone i) ≡ true
  pub closing : (i : ℕ) → p (reply.Closing i) ≡ true
  pub need : (i : ℕ) → p (reply.Need i) ≡ true
  pub no_collection : p reply.NoCollection ≡ true
  pub exists : (i : ℕ) → p (reply.Exists i) ≡ true
  pub offers : p reply.OffersRefused ≡ true
  pub bad : (i n : ℕ) → p (reply.BadOffer i n) ≡ true

module _ (p : Reply → Bool) (each : PassesRefusals p) where
  -- A refusal of a bad offer passes.
  bad_passes : (o : Option (ℕ × ℕ)) → passes_or p (option_map (λ bad. reply.BadOffer bad.0 bad.1) o) ≡ true
  bad_passes None = refl
  bad_passes (Some bad) = each.bad bad.0 bad.1

  -- What the gives refuse passes.
  gives_pass : (rows : List Row) (i : ℕ) (d : Decl) (coll : Collection) (gives : List Give) → passes_or p (refused_gives rows i d coll gives) ≡ true
  gives_pass rows i d coll [] = refl
  gives_pass rows i d coll (g ∷ gs) =
      or_passes p coll.dynamic_offers _ _ (bad_passes (bad_give d (is_child_there rows i) coll.name (g ∷ gs))) each.offers

  -- What the name refuses passes.
  name_passes : (rows : List Row) (i : ℕ) (d : Decl) (coll : Collection) (gives : List Give) (o : Option ℕ) → passes_or p (elim o as (λ _. Option Reply) [ Some k ↦ Some (reply.Exists k) | None ↦ refused_gives rows i d coll gives ]) ≡ true
  name_passes rows i d coll gives (Some k) = each.exists k
  name_passes rows i d coll gives None = gives_pass rows i d coll gives

  -- What the collection refuses passes.
  by_passes : (rows : List Row) (i : ℕ) (d : Decl) (coll name : List ℕ) (gives : List Give) (o : Option Collection) → passes_or p (elim o as (λ _. Option Reply) [ None ↦ Some reply.NoCollection | Some c ↦ refused_name rows i d c (dynamic_name coll name) gives ]) ≡ true
  by_passes rows i d coll name gives None = each.no_collection
  by_passes rows i d coll name gives (Some c) =
      name_passes rows i d c gives (child_of rows i (dynamic_name coll name))

  -- What the declaration refuses, or its lack, passes.
  under_passes : (rows : List Row) (i : ℕ) (coll name : List ℕ) (gives : List Give) (o : Option Decl) → passes_or p (elim o as (λ _. Option Reply) [ None ↦ Some (reply.Need i) | Some d ↦ refused_by rows i d coll name gives ]) ≡ true
  under_passes rows i coll name gives None = each.need i
  under_passes rows i coll name gives (Some d) = by_passes rows i d coll name gives (collection_of d coll)

  -- no refusal of a create fails it
  pub refused_passes : (rows : List Row) (i : ℕ) (coll name : List ℕ) (gives : List Give) → passes_or p (refused_create rows i coll name gives) ≡ true
  refused_passes rows i coll name gives =
      or_passes p (is_gone rows i) _ _ (each.gone i)
      (or_passes p (is_closed rows i) _ _ (each.closing i) (under_passes rows i coll name gives (decl_of rows i)))

-- Each refusal of a create is plain.
refusals_plain : PassesRefusals is_plain
refusals_plain = record { gone = λ i. refl; closing = λ i. refl; need = λ i. refl; no_collection = refl; exists = λ i. refl; offers = refl; bad = λ i n. refl }

-- What the realm graph and the room decide of a create is plain.
creates_plain : (limit : ℕ) (rows : List Row) (next : ℕ) (d : Decl) (dynamic : List DynChild) (r : Reply) → Creates limit rows next d dynamic r → is_plain r ≡ true
creates_plain limit rows next d dynamic (reply.Cycle nodes) it = refl
creates_plain limit rows next d dynamic reply.Full it = refl
creates_plain limit rows next d dynamic (reply.Created i) it = refl
creates_plain limit rows next d dynamic _ it = absurd it

-- What the realm graph and the room decide, by the parent's declaration, is plain.
creates_under : (limit : ℕ) (rows : List Row) (next : ℕ) (d : Option Decl) (dynamic : List DynChild) (r : Reply) → CreatesUnder limit rows next d dynamic r → is_plain r ≡ true
creates_under limit rows next None dynamic r it = absurd it
creates_under limit rows next (Some d) dynamic r it = creates_plain limit rows next d dynamic r it

-- The reply to a create is plain, where its refusal is.
creates_unless : (limit : ℕ) (rows : List Row) (next p : ℕ) (c : ChildName) (gives : List Give) (refused : Option Reply) (r : Reply) → passes_or is_plain refused ≡ true → CreatesUnless limit rows next p c gives refused r → is_plain r ≡ true
creates_unless limit rows next p c gives (Some refusal) r plain it = ap is_plain it ∙ plain
creates_unless limit rows next p c gives None r plain it = creates_under limit rows next (decl_of rows p) (dynamic_with rows p c gives) r it

-- The reply to a mark to be destroyed is plain, whatever row was found.
doomed_plain : (rows : List Row) (i : ℕ) (o : Option Row) → is_plain (elim o as (λ _. Reply) [ None ↦ reply.Gone i | Some r ↦ cond r.doomed reply.Already (cond (is_gone rows i) (reply.Gone i) (cond (is_dynamic r) reply.Marked reply.NotDynamic)) ]) ≡ true
doomed_plain rows i None = refl
doomed_plain rows i (Some r) =
    if_passes is_plain r.doomed _ _ refl (if_passes is_plain (is_gone rows i) _ _ refl (if_passes is_plain (is_dynamic r) _ _ refl refl))

-- The reply to a mark is plain.
mark_plain : (rows : List Row) (doom : Bool) (i : ℕ) → is_plain (mark_reply rows doom i) ≡ true
mark_plain rows doom i =
    if_passes is_plain doom _ _ (doomed_plain rows i (row_of rows i))
    (if_passes is_plain (is_gone rows i) _ _ refl (if_passes is_plain (has_closing rows i) _ _ refl refl))

-- A refusal of a row that isn't ready begins or joins no action, and opens nothing.
pub unready_plain : (rows : List Row) (i : ℕ) → passes_or is_plain (unready rows i) ≡ true
unready_plain rows i =
    or_passes is_plain (is_gone rows i) _ _ refl
    (or_passes is_plain (is_resolved rows i) _ _ refl (or_passes is_plain (is_closed rows i) _ _ refl refl))

-- The reply to a list is plain, where its refusal is.
listed_plain : (rows : List Row) (i : ℕ) (coll : List ℕ) (o : Option Reply) → passes_or is_plain o ≡ true → is_plain (elim o as (λ _. Reply) [ Some refusal ↦ refusal | None ↦ list_by rows i coll ]) ≡ true
listed_plain rows i coll (Some refusal) plain = plain
listed_plain rows i coll None plain = if_passes is_plain (has_collection rows i coll) _ _ refl refl

-- The reply to a show is plain.
show_plain : (rows : List Row) (i : ℕ) (o : Option Row) → is_plain (elim o as (λ _. Reply) [ None ↦ reply.Gone i | Some r ↦ reply.Shown (look_at r) ]) ≡ true
show_plain rows i None = refl
show_plain rows i (Some r) = refl

-- What an exit is answered by is plain.
exit_plain : (rows : List Row) (i : ℕ) (m : Moniker) (o : Option Row) → passes_or is_plain (elim o as (λ _. Option Reply) [ None ↦ Some (reply.Gone i) | Some r ↦ cond (is_some r.pending) None (cond r.on (Some (reply.Left m)) (Some reply.Already)) ]) ≡ true
exit_plain rows i m None = refl
exit_plain rows i m (Some r) = or_passes is_plain (is_some r.pending) _ _ refl (or_passes is_plain r.on _ _ refl refl)

-- The reply to a route begins or joins no action, and opens nothing.
pub routed_plain : (rows : List Row) (v : Walked) → is_plain (routed rows v) ≡ true
routed_plain rows (walked.Given route) = refl
routed_plain rows (walked.Failed hop why) = refl
routed_plain rows (walked.Need j) = if_passes is_plain (is_closed rows j) _ _ refl refl
routed_plain rows (walked.Void hop) = refl
routed_plain rows walked.NoSuchUse = refl

-- The reply to an ask for a route is plain, where its refusal is.
walks_plain : (rows : List Row) (builtins : List Builtin) (begin : Start) (refused : Option Reply) (r : Reply) → passes_or is_plain refused ≡ true → WalksUnless rows builtins begin (routed rows) refused r → is_plain r ≡ true
walks_plain rows builtins begin (Some refusal) r plain it = ap is_plain it ∙ plain
walks_plain rows builtins begin None r plain it = ap is_plain it.2 ∙ routed_plain rows it.0

-- The reply to an end is plain.
ended_plain : (o : Option Outcome) (r : Reply) → option_map reply.Ended o ≡ Some r → is_plain r ≡ true
ended_plain None r e = absurd (none_some r e)
ended_plain (Some x) r e = ap is_plain (sym (some_same (reply.Ended x) r e))

-- ---- the replies to a begin

-- The reply to a begin at a row with nothing pending is one that a begin may get.
idle_passes : (rows : List Row) (next : ℕ) (kind : ActKind) (r : Row) → is_beginning (begin_idle rows next kind r) ≡ true
idle_passes rows next kind r =
    if_passes is_beginning (is_so kind r) _ _ refl
    (if_passes is_beginning (is_closed rows r.inc) _ _ refl (if_passes is_beginning (needs_decl kind r) _ _ refl refl))

-- The reply to a begin at a row, whatever is pending, is one that a begin may get.
pending_passes : (rows : List Row) (next : ℕ) (kind : ActKind) (r : Row) (o : Option (ActKind × ℕ)) → passes_or is_beginning (elim o as (λ _. Option Reply) [ Some p ↦ cond (same_act kind p.0) (Some (reply.Joined p.1)) None | None ↦ Some (begin_idle rows next kind r) ]) ≡ true
pending_passes rows next kind r (Some p) = or_passes is_beginning (same_act kind p.0) _ _ refl refl
pending_passes rows next kind r None = idle_passes rows next kind r

-- The reply to a begin, whether its row is there or not, is one that a begin may get.
row_passes : (rows : List Row) (next i : ℕ) (kind : ActKind) (o : Option Row) → passes_or is_beginning (elim o as (λ _. Option Reply) [ None ↦ Some (reply.Gone i) | Some r ↦ begin_at rows next kind r ]) ≡ true
row_passes rows next i kind None = refl
row_passes rows next i kind (Some r) = pending_passes rows next kind r r.pending

-- The reply to a begin is one that begins get.
pub begin_passes : (rows : List Row) (next i : ℕ) (kind : ActKind) (r : Reply) → begin_reply rows next kind i ≡ Some r → is_beginning r ≡ true
begin_passes rows next i kind r e =
    said_passes is_beginning (begin_reply rows next kind i) r
    (or_passes is_beginning (is_gone rows i) _ _ refl (row_passes rows next i kind (row_of rows i))) e

-- ---- all of them

-- An event that asks plainly gets no reply that begins or joins an action, or opens something.
pub plain_reply : (w : World) (caller : ℕ) (e : Event) (r : Reply) → asks_plainly e ≡ true → Allowed w caller e r → is_plain r ≡ true
plain_reply w caller (Find m) r plainly it = ap is_plain it ∙ found_plain w.rows 0 [] m.parts
plain_reply w caller (Begin kind i) r plainly it = absurd (true≢false (sym plainly))
plain_reply w caller (End a finish) r plainly it = ap is_plain it
plain_reply w caller (Await a) r plainly it = ended_plain (outcome_of w.acts a) r it
plain_reply w caller (Create p child) r plainly it =
    creates_unless w.frame.limits.rows w.rows w.next_inc p (dynamic_name child.coll child.name) child.gives (refused_create w.rows p child.coll child.name child.gives) r (refused_passes is_plain refusals_plain w.rows p child.coll child.name child.gives) it
plain_reply w caller (Mark doom i) r plainly it = ap is_plain it ∙ mark_plain w.rows doom i
plain_reply w caller (Pick t) r plainly it = absurd (true≢false (sym plainly))
plain_reply w caller (Purge i) r plainly it = ap is_plain it ∙ if_passes is_plain (is_live w.rows i) _ _ refl refl
plain_reply w caller (RouteOf i path) r plainly it =
    walks_plain w.rows w.frame.builtins (UseAt i path) (unready w.rows i) r (unready_plain w.rows i) it
plain_reply w caller (OpenUse i path) r plainly it = absurd (true≢false (sym plainly))
plain_reply w caller (OpenExposed i name) r plainly it = absurd (true≢false (sym plainly))
plain_reply w caller (Listing i coll) r plainly it =
    ap is_plain it ∙ listed_plain w.rows i coll (unready w.rows i) (unready_plain w.rows i)
plain_reply w caller (Show i) r plainly it =
    ap is_plain it ∙ if_passes is_plain (is_gone w.rows i) _ _ refl (show_plain w.rows i (row_of w.rows i))
plain_reply w caller (Survey i) r plainly it = ap is_plain it ∙ if_passes is_plain (is_gone w.rows i) _ _ refl refl
plain_reply w caller (Exited i) r plainly it = said_passes is_plain (exit_reply w.rows i) r (exit_plain w.rows i _ (row_of w.rows i)) it
plain_reply w caller (Tail i from) r plainly it = ap is_plain it ∙ if_passes is_plain (is_gone w.rows i) _ _ refl refl
plain_reply w caller (Reap i) r plainly it = ap is_plain it

-- ---- openings

-- the replies that an opening may get
abbrev pub IsPlainOrOpened : Reply → Type 0
IsPlainOrOpened r = (is_plain r ≡ true) ⊎ ((route : Route) × (r ≡ reply.Opened route))

-- One of two replies that are plain or open a route is so.
open_if : (b : Bool) (x y : Reply) → IsPlainOrOpened x → IsPlainOrOpened y → IsPlainOrOpened (cond b x y)
open_if true x y left right = left
open_if false x y left right = right

-- The reply to an open, by the provider, is plain or opens a route.
provider_kind : (rows : List Row) (route : Route) (p : Provider) → IsPlainOrOpened (opened_at rows route p)
provider_kind rows route (provider.Instance i moniker) =
    open_if _ (reply.SourceShut i) _ (inl refl) (open_if (is_on rows i) (reply.Opened route) (reply.NeedStart i) (inr (route, refl)) (inl refl))
provider_kind rows route provider.Framework = inr (route, refl)
provider_kind rows route provider.Builtin = inr (route, refl)

-- The reply to an open, by what its walk came to, is plain or opens a route.
opened_kind : (rows : List Row) (v : Walked) → IsPlainOrOpened (opened rows v)
opened_kind rows (walked.Given route) = provider_kind rows route route.provider
opened_kind rows (walked.Failed hop why) = inl refl
opened_kind rows (walked.Need j) = inl (routed_plain rows (walked.Need j))
opened_kind rows (walked.Void hop) = inl refl
opened_kind rows walked.NoSuchUse = inl refl

-- A reply that is the same as a plain one, or one that opens a route, is so too.
same_kind_of : (x y : Reply) → x ≡ y → IsPlainOrOpened y → IsPlainOrOpened x
same_kind_of x y same (inl plain) = inl (ap is_plain same ∙ plain)
same_kind_of x y same (inr opens) = inr (opens.0, same ∙ opens.1)

-- The reply to an open is plain or opens a route, where its refusal is plain.
unless_kind : (rows : List Row) (builtins : List Builtin) (begin : Start) (refused : Option Reply) (r : Reply) → passes_or is_plain refused ≡ true → WalksUnless rows builtins begin (opened rows) refused r → IsPlainOrOpened r
unless_kind rows builtins begin (Some refusal) r plain it = inl (ap is_plain it ∙ plain)
unless_kind rows builtins begin None r plain it = same_kind_of r (opened rows it.0) it.2 (opened_kind rows it.0)

-- A refusal of an opening begins or joins no action, and opens nothing.
pub unopened_plain : (rows : List Row) (i : ℕ) → passes_or is_plain (unopened rows i) ≡ true
unopened_plain rows i =
    or_passes is_plain (is_gone rows i) _ _ refl (or_passes is_plain (is_on rows i) _ _ refl refl)

-- The opening of a use gets a plain reply, or what was opened.
pub use_kind : (w : World) (caller i : ℕ) (path : List ℕ) (r : Reply) → Allowed w caller (OpenUse i path) r → IsPlainOrOpened r
use_kind w caller i path r it =
    unless_kind w.rows w.frame.builtins (UseAt i path) (unopened w.rows i) r (unopened_plain w.rows i) it

-- The opening of what is exposed gets a plain reply, or what was opened.
pub exposed_kind : (w : World) (caller i : ℕ) (name : List ℕ) (r : Reply) → Allowed w caller (OpenExposed i name) r → IsPlainOrOpened r
exposed_kind w caller i name r it =
    unless_kind w.rows w.frame.builtins (ExposeAt i name) (unready w.rows i) r (unready_plain w.rows i) it
