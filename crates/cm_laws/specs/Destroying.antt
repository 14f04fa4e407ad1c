-- Promised.
-- What holds of instances that are destroyed: from then on they are told as gone.
use Rattle.std.specs.Prelude.{◌≡◌, ◌⊎◌, ℕ, ◌<◌, Bool, true, false, IsTrue, Option, Some, None}
use Rattle.std.specs.Prelude.{List, [], ◌∷◌, ◌++◌, map, Contains}
use Rattle.cm_names.specs.declared.moniker.Moniker.{Moniker}
use Rattle.cm_world.specs.declared.frame.Frame.{Frame}
use Rattle.cm_world.specs.declared.route.Provider.{Provider}
use Rattle.cm_world.specs.declared.route.Provider.TheVariants as provider
use Rattle.cm_world.specs.declared.route.Route.{Route}
use Rattle.cm_world.specs.declared.report.Lost.{Lost}
use Rattle.cm_world.specs.declared.event.Event.{Event}
use Rattle.cm_world.specs.declared.event.Event.TheVariants.{Begin, Create, Purge, Exited, Tail}
use Rattle.cm_world.specs.declared.event.Event.TheVariants.{Route as RouteOf, OpenUse, OpenExposed}
use Rattle.cm_world.specs.declared.event.Event.TheVariants.{Listing, Show, Survey}
use Rattle.cm_world.specs.declared.reply.Reply.{Reply}
use Rattle.cm_world.specs.declared.reply.Reply.TheVariants as reply
use Rattle.cm_world.specs.declared.reply.Entry.{Entry}
use Rattle.cm_world.specs.Rows.{is_live, is_gone, is_below}
use Rattle.cm_world.specs.Find.{found_from}
use Rattle.cm_world.specs.World.{World, start}
use Rattle.cm_world.specs.After.{dooms}
use Rattle.cm_world.specs.Legal.{replay}

-- ---- what entries name

-- the incarnation that provides a capability; none for the framework and for builtins
abbrev pub incs_of_provider : Provider → List ℕ
incs_of_provider (provider.Instance i moniker) = i ∷ []
incs_of_provider provider.Framework = []
incs_of_provider provider.Builtin = []

-- the incarnations on a route, and the one that provides at its end
abbrev pub incs_of_route : Route → List ℕ
incs_of_route r = map (λ h. h.inc) r.hops ++ incs_of_provider r.provider

-- the incarnations that a reply names
abbrev pub named_in : Reply → List ℕ
named_in (reply.Found i) = i ∷ []
named_in (reply.Need i) = i ∷ []
named_in (reply.Shut i) = i ∷ []
named_in (reply.Gone i) = i ∷ []
named_in (reply.NotFound moniker) = []
named_in (reply.Begun work) = work.inc ∷ work.eager
named_in (reply.Joined action) = []
named_in reply.Already = []
named_in (reply.Ended outcome) = []
named_in (reply.Created i) = i ∷ []
named_in (reply.Closing i) = i ∷ []
named_in reply.NoCollection = []
named_in (reply.Exists i) = i ∷ []
named_in reply.OffersRefused = []
named_in (reply.BadOffer index fault) = []
named_in (reply.Cycle nodes) = []
named_in reply.Full = []
named_in reply.Marked = []
named_in reply.NotDynamic = []
named_in reply.Done = []
named_in (reply.Stopping work) = work.inc ∷ work.eager
named_in (reply.ShutDown i) = i ∷ []
named_in (reply.Purged lost) = map (λ l. l.inc) lost
named_in reply.PurgedBefore = []
named_in reply.NoSuchUse = []
named_in reply.ClientOff = []
named_in (reply.SourceShut i) = i ∷ []
named_in (reply.NeedStart i) = i ∷ []
named_in (reply.Failed hop why) = hop.inc ∷ []
named_in (reply.Void hop) = hop.inc ∷ []
named_in (reply.Given route) = incs_of_route route
named_in (reply.Opened route) = incs_of_route route
named_in (reply.Listed kids) = map (λ k. k.inc) kids
named_in (reply.Shown look) = look.inc ∷ []
named_in (reply.Surveyed rows) = map (λ r. r.inc) rows
named_in (reply.Left moniker) = []
named_in (reply.Tailed entries) = []
named_in (reply.Reaping incs) = incs

-- the incarnation that an event asks for something: an action, a child, a route, an opening or a
-- report
abbrev pub asked_of : Event → Option ℕ
asked_of (Begin kind i) = Some i
asked_of (Create i child) = Some i
asked_of (RouteOf i path) = Some i
asked_of (OpenUse i path) = Some i
asked_of (OpenExposed i name) = Some i
asked_of (Listing i coll) = Some i
asked_of (Show i) = Some i
asked_of (Survey i) = Some i
asked_of (Tail i from) = Some i
asked_of _ = None

-- whether a reply takes an instance a step on towards its end: one to a reap, a pick or a purge
abbrev pub is_removing : Reply → Bool
is_removing (reply.Reaping incs) = true
is_removing (reply.Stopping work) = true
is_removing (reply.ShutDown i) = true
is_removing (reply.Purged lost) = true
is_removing _ = false

-- ---- what was destroyed

-- one of these entries marked the row to be destroyed, or had it go with an instance that stopped
pub record IsDoomed (f : Frame) (es : List Entry) (i : ℕ) : Type 0 where
  pub prefix : List Entry
  pub entry : Entry
  pub rest : List Entry
  pub whole : es ≡ prefix ++ entry ∷ rest
  pub dooms : IsTrue (dooms (replay (start f) prefix) entry i)

-- at some time of this history the row was at or below one that had been doomed
pub record IsDestroyed (f : Frame) (es : List Entry) (i : ℕ) : Type 0 where
  pub first : List Entry
  pub rest : List Entry
  pub whole : es ≡ first ++ rest
  pub top : ℕ
  pub doomed : IsDoomed f first top
  pub below : IsTrue (is_below (replay (start f) first).rows top i)

-- one of these entries removed the row from the tree, with all at and below some row
pub record IsPurged (es : List Entry) (i : ℕ) : Type 0 where
  pub entry : Entry
  pub there : Contains es entry
  pub top : ℕ
  pub purges : entry.event ≡ Purge top
  pub lost : List Lost
  pub purged : entry.reply ≡ reply.Purged lost
  pub among : Contains (map (λ l. l.inc) lost) i

-- ---- what becomes of it

-- an entry treats a row that is destroyed as gone: nobody gets anything of it any more
pub record IsShunned (w : World) (e : Entry) (i : ℕ) : Type 0 where
  pub gone : IsTrue (is_gone w.rows i)
  -- who asks it for something is told so, and gets nothing else
  pub asked : asked_of e.event ≡ Some i → e.reply ≡ reply.Gone i
  -- it isn't on a route that is opened, nor does it provide at the end
  pub provides : (r : Route) → e.reply ≡ reply.Opened r → Contains (incs_of_route r) i → ⊥
  -- no other reply names it but one to a reap, a pick or a purge
  pub named : Contains (named_in e.reply) i → (e.reply ≡ reply.Gone i) ⊎ IsTrue (is_removing e.reply)

-- an entry treats a row that was removed as one that was there and is no more
pub record IsForgotten (w : World) (e : Entry) (i : ℕ) : Type 0 where
  -- no row has its incarnation, nor gets it again
  pub known : i < w.next_inc
  pub dead : is_live w.rows i ≡ false
  pub asked : asked_of e.event ≡ Some i → e.reply ≡ reply.Gone i
  -- an exit of it is told so too
  pub exits : e.event ≡ Exited i → e.reply ≡ reply.Gone i
  -- no reply but this names it
  pub named : Contains (named_in e.reply) i → e.reply ≡ reply.Gone i

-- what was destroyed before an entry is gone for it, and what was removed is forgotten
pub record KeepsGone (f : Frame) (prefix : List Entry) (e : Entry) : Type 0 where
  pub destroyed : (i : ℕ) → IsDestroyed f prefix i → IsShunned (replay (start f) prefix) e i
  pub purged : (i : ℕ) → IsPurged prefix i → IsForgotten (replay (start f) prefix) e i

-- in the tree that a history leaves, what was destroyed is gone, what was removed isn't there, and no
-- moniker finds either
pub record LeavesGone (f : Frame) (es : List Entry) : Type 0 where
  pub destroyed : (i : ℕ) → IsDestroyed f es i → IsTrue (is_gone (replay (start f) es).rows i)
  pub known : (i : ℕ) → IsPurged es i → i < (replay (start f) es).next_inc
  pub dead : (i : ℕ) → IsPurged es i → is_live (replay (start f) es).rows i ≡ false
  pub unfound :
      (i : ℕ) (m : Moniker) → IsDestroyed f es i ⊎ IsPurged es i
      → found_from (replay (start f) es).rows 0 [] m.parts ≡ reply.Found i → ⊥

-- ---- the laws
