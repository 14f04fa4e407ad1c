-- Promised.
-- What holds of every legal history: of the routes that were opened in it, and of its actions' outcomes.
use Rattle.std.specs.Prelude.{◌≡◌, ℕ, List, ◌∷◌, ◌++◌, map, All, Contains, Option, Some, None, IsTrue}
use Rattle.cm_names.specs.Rights.{RightSet, contains}
use Rattle.cm_world.specs.declared.row.Row.{Row}
use Rattle.cm_world.specs.declared.frame.Frame.{Frame}
use Rattle.cm_world.specs.declared.action.Outcome.{Outcome}
use Rattle.cm_world.specs.declared.route.Provider.{Provider}
use Rattle.cm_world.specs.declared.route.Provider.TheVariants.{Instance}
use Rattle.cm_world.specs.declared.route.Route.{Route}
use Rattle.cm_world.specs.declared.route.Start.{Start}
use Rattle.cm_world.specs.declared.route.Start.TheVariants.{UseAt, ExposeAt}
use Rattle.cm_world.specs.declared.event.Event.{Event}
use Rattle.cm_world.specs.declared.event.Event.TheVariants.{End, Await, OpenUse, OpenExposed}
use Rattle.cm_world.specs.declared.reply.Reply.{Reply}
use Rattle.cm_world.specs.declared.reply.Reply.TheVariants as reply
use Rattle.cm_world.specs.declared.reply.Entry.{Entry}
use Rattle.cm_world.specs.Rows.{is_on}
use Rattle.cm_world.specs.World.{World, start}
use Rattle.cm_world.specs.Stations.{Station}
use Rattle.cm_world.specs.Route.{IsRoute, last_of, provider_of}
use Rattle.cm_world.specs.Legal.{replay}

-- P holds of each entry of a history, with the entries before it
abbrev pub OfEachEntry : (List Entry → Entry → Type 0) → List Entry → Type 0
OfEachEntry P es = (prefix rest : List Entry) (e : Entry) → es ≡ prefix ++ e ∷ rest → P prefix e

-- ---- routes

-- where the route of an opening begins
abbrev pub start_of : Event → Option Start
start_of (OpenUse i path) = Some (UseAt i path)
start_of (OpenExposed i name) = Some (ExposeAt i name)
start_of _ = None

-- the granted rights are within the stated ones, where both are there
abbrev pub AreWithin : Option RightSet → Option RightSet → Type 0
AreWithin (Some granted) (Some stated) = IsTrue (contains stated granted)
AreWithin _ _ = Unit {0}

-- a provider that is an instance is on; the framework and builtins always are
abbrev pub IsProviding : List Row → Provider → Type 0
IsProviding rows (Instance i moniker) = IsTrue (is_on rows i)
IsProviding rows _ = Unit {0}

-- an opening got a true route of this world: from where its event says, to a provider that is on, with
-- no right that a hop of it doesn't state
pub record IsStable (w : World) (event : Event) (r : Route) : Type 0 where
  pub begin : Start
  pub begins : start_of event ≡ Some begin
  pub first : Station
  pub rest : List Station
  pub route : IsRoute w.rows w.frame.builtins begin first rest
  pub hops : r.hops ≡ map (λ s. s.hop) (first ∷ rest)
  pub provider : r.provider ≡ provider_of (last_of first rest).hop
  pub on : IsProviding w.rows r.provider
  pub within : All (λ h. AreWithin r.rights h.rights) r.hops

-- each route that an entry of this history opened is a true one in the world of that very entry
abbrev pub HasStableRoutes : Frame → List Entry → Type 0
HasStableRoutes f es =
    OfEachEntry
    (λ prefix e. (r : Route) → e.reply ≡ reply.Opened r → IsStable (replay (start f) prefix) e.event r) es

-- ---- actions

-- the action that begins with this reply
abbrev pub begun_by : Reply → Option ℕ
begun_by (reply.Begun work) = Some work.action
begun_by (reply.Stopping work) = Some work.action
begun_by _ = None

-- the action that a reply lets a caller join
abbrev pub joined_by : Reply → Option ℕ
joined_by (reply.Joined a) = Some a
joined_by _ = None

-- the action that this event ends
abbrev pub ended_by : Event → Option ℕ
ended_by (End a finish) = Some a
ended_by _ = None

-- the action whose outcome this event asks for
abbrev pub awaited_by : Event → Option ℕ
awaited_by (Await a) = Some a
awaited_by _ = None

-- one of these entries began the action, and its caller was this one
pub record IsBegun (es : List Entry) (a caller : ℕ) : Type 0 where
  pub entry : Entry
  pub there : Contains es entry
  pub begins : begun_by entry.reply ≡ Some a
  pub own : entry.caller ≡ caller

-- one of these entries ended the action with this outcome
pub record IsEnded (es : List Entry) (a : ℕ) (o : Outcome) : Type 0 where
  pub entry : Entry
  pub there : Contains es entry
  pub ends : ended_by entry.event ≡ Some a
  pub replied : entry.reply ≡ reply.Ended o

-- the reply is the outcome with which one of these entries ended the action
pub record IsAwaited (es : List Entry) (a : ℕ) (r : Reply) : Type 0 where
  pub outcome : Outcome
  pub ended : IsEnded es a outcome
  pub replied : r ≡ reply.Ended outcome

-- what an entry begins, joins, ends or awaits fits the entries before it
pub record KeepsOutcomes (prefix : List Entry) (e : Entry) : Type 0 where
  -- no action begins twice, and none ends twice
  pub begins_once :
      (a : ℕ) (x : Entry) → begun_by e.reply ≡ Some a → Contains prefix x → begun_by x.reply ≡ Some a → ⊥
  pub ends_once :
      (a : ℕ) (x : Entry) → ended_by e.event ≡ Some a → Contains prefix x → ended_by x.event ≡ Some a → ⊥
  -- what ends began, and for the same caller; what is joined began
  pub ends_own : (a : ℕ) → ended_by e.event ≡ Some a → IsBegun prefix a e.caller
  pub joins_begun : (a : ℕ) → joined_by e.reply ≡ Some a → (caller : ℕ) × IsBegun prefix a caller
  -- an await gets the outcome of the end
  pub awaits_end : (a : ℕ) → awaited_by e.event ≡ Some a → IsAwaited prefix a e.reply

-- each action begins once and ends at most once, and everyone gets the one outcome
abbrev pub HasOneOutcome : List Entry → Type 0
HasOneOutcome es = OfEachEntry KeepsOutcomes es

-- ---- the laws
