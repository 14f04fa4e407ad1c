-- Promised.
-- Which answers a history keeps, by its entries alone, and how many of its entries were cache hits.
use Rattle.std.specs.Prelude.{◌≡◌, ℕ, ◌+◌, List, [], ◌∷◌, ◌++◌, Bool, true, false, not, ◌&&◌, ◌||◌, ◌==◌}
use Rattle.std.specs.Prelude.{nat_le, length, Option, Some, None, if◌then◌else◌}
use Rattle.std.specs.List.{list_any}
use Rattle.std.specs.Str.{bytes_eq}
use Rattle.cm_world.specs.declared.frame.Frame.{Frame}
use Rattle.cm_world.specs.declared.action.Outcome.TheVariants as outcome
use Rattle.cm_world.specs.declared.event.Event.{Event}
use Rattle.cm_world.specs.declared.event.Event.TheVariants.{Route, OpenUse, End}
use Rattle.cm_world.specs.declared.reply.Entry.{Entry}
use Rattle.cm_world.specs.declared.reply.Reply.{Reply}
use Rattle.cm_world.specs.declared.reply.Reply.TheVariants.{Ended, Created, Purged}
use Rattle.cm_world.specs.declared.route.Start.TheVariants.{UseAt}
use Rattle.cm_world.specs.declared.route.Walked.{Walked}
use Rattle.cm_world.specs.declared.route.Walked.TheVariants.{Need, Given}
use Rattle.cm_world.specs.Rows.{is_gone, is_resolved, is_on}
use Rattle.cm_world.specs.Route.{IsWalked}
use Rattle.cm_world.specs.World.{World, start}
use Rattle.cm_world.specs.After.{after, dooms}
use Rattle.cm_cache.specs.Answers.{most}

-- the use of a path by an instance
pub record UseKey : Type 0 where
  pub inc : ℕ
  pub path : List ℕ

-- the uses whose answers are kept, in the order in which they came, and how many entries were cache
-- hits
pub record KeptUses : Type 0 where
  pub uses : List UseKey
  pub number : ℕ

-- what is kept before the first entry
abbrev pub nothing : KeptUses
nothing = record { uses = []; number = 0 }

-- whether two uses are the same: of one path by one instance
abbrev pub is_use : UseKey → UseKey → Bool
is_use u v = (v.inc == u.inc) && bytes_eq v.path u.path

-- whether this use is among them
abbrev pub has_use : List UseKey → UseKey → Bool
has_use uses u = list_any (is_use u) uses

-- ---- an entry that asks

-- whether an instance isn't gone and is resolved, so that its uses can be asked for
abbrev pub is_ready : World → ℕ → Bool
is_ready w i = not (is_gone w.rows i) && is_resolved w.rows i

-- the use of this path by instance i, where that is ready
abbrev pub asks_if : Bool → ℕ → List ℕ → Option UseKey
asks_if ready i path = if ready then Some (record { inc = i; path = path }) else None

-- the use that an entry asks for, if it asks for one: of an instance that is ready, and for an opening
-- is on
abbrev pub asked_by : World → Event → Option UseKey
asked_by w (Route i path) = asks_if (is_ready w i) i path
asked_by w (OpenUse i path) = asks_if (is_ready w i && is_on w.rows i) i path
asked_by w _ = None

-- whether what a walk came to is kept: not where it waits for a row to be resolved, nor a route of
-- more than 64 hops
abbrev pub is_lasting : Walked → Bool
is_lasting (Need j) = false
is_lasting (Given route) = nat_le (length route.hops) 64
is_lasting _ = true

-- the uses with one more; a full list is emptied first
abbrev pub with_use : UseKey → List UseKey → List UseKey
with_use u uses = if nat_le most (length uses) then u ∷ [] else uses ++ u ∷ []

-- what is kept after an entry asks for use u whose walk comes to v: a hit where u is kept, else u is
-- kept if v lasts
abbrev pub counted_for : UseKey → Walked → KeptUses → KeptUses
counted_for u v kept =
    if has_use kept.uses u then record kept { number = kept.number + 1 }
    else if is_lasting v then record kept { uses = with_use u kept.uses }
    else kept

-- ---- an entry that empties what is kept

-- whether an entry ends a resolve well
abbrev pub resolves : Event → Reply → Bool
resolves (End a finish) (Ended outcome.Resolved) = true
resolves event reply = false

-- whether a reply adds an instance to the tree, or removes some
abbrev pub comes_or_goes : Reply → Bool
comes_or_goes (Created i) = true
comes_or_goes (Purged lost) = true
comes_or_goes reply = false

-- whether an entry dooms an instance that is still in the tree after it
abbrev pub dooms_some : World → Entry → Bool
dooms_some w e = list_any (λ r. dooms w e r.inc) (after w e).rows

-- whether an entry empties what is kept: it resolves, adds or removes an instance, or dooms one; walks
-- may change then
abbrev pub forgets : World → Entry → Bool
forgets w e = resolves e.event e.reply || comes_or_goes e.reply || dooms_some w e

-- what is kept after it was emptied; the hits still count
abbrev pub emptied : KeptUses → KeptUses
emptied kept = record kept { uses = [] }

-- ---- histories

-- what is kept after an entry that asks for no use
abbrev pub forgetting : World → Entry → KeptUses → KeptUses
forgetting w e kept = if forgets w e then emptied kept else kept

-- what is kept after an entry that asks for this use, or for none
abbrev pub KeepsBy : Option UseKey → World → Entry → KeptUses → KeptUses → Type 0
KeepsBy None w e old new = new ≡ forgetting w e old
KeepsBy (Some u) w e old new =
    (v : Walked) × IsWalked w.rows w.frame.builtins (UseAt u.inc u.path) v × (new ≡ counted_for u v old)

-- what is kept after an entry that is made in this world
abbrev pub KeepsUses : World → Entry → KeptUses → KeptUses → Type 0
KeepsUses w e old new = KeepsBy (asked_by w e.event) w e old new

-- what is kept after all of these entries
abbrev pub KeepsAll : World → List Entry → KeptUses → KeptUses → Type 0
KeepsAll w [] old new = new ≡ old
KeepsAll w (e ∷ es) old new = (mid : KeptUses) × KeepsUses w e old mid × KeepsAll (after w e) es mid new

-- what a whole history keeps; it begins with nothing
abbrev pub IsKeptOf : Frame → List Entry → KeptUses → Type 0
IsKeptOf f es kept = KeepsAll (start f) es nothing kept

-- how many entries of a history were cache hits
abbrev pub IsKeptNumber : Frame → List Entry → ℕ → Type 0
IsKeptNumber f es n = (kept : KeptUses) × IsKeptOf f es kept × (kept.number ≡ n)
