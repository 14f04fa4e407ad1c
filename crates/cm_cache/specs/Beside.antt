-- Inside.
-- The cache that is kept beside a history, and what becomes of it when an entry is added.
use Rattle.std.specs.Prelude.{◌≡◌, ℕ, ◌+◌, List, [], Bool, true, false, not, ◌&&◌, ◌||◌, is_some}
use Rattle.std.specs.Prelude.{if◌then◌else◌}
use Rattle.std.specs.List.{list_any}
use Rattle.cm_world.specs.declared.row.Row.{Row}
use Rattle.cm_world.specs.declared.action.Outcome.{Outcome}
use Rattle.cm_world.specs.declared.frame.Frame.{Frame}
use Rattle.cm_world.specs.declared.event.Event.{Event}
use Rattle.cm_world.specs.declared.reply.Entry.{Entry}
use Rattle.cm_world.specs.declared.reply.Reply.{Reply}
use Rattle.cm_world.specs.declared.route.Walked.{Walked}
use Rattle.cm_world.specs.Expiring.{goes_with, is_stopped}
use Rattle.cm_world.specs.World.{World, start}
use Rattle.cm_world.specs.Legal.{replay}
use Rattle.cm_cache.specs.declared.answer.CachedAnswer.{CachedAnswer}
use Rattle.cm_cache.specs.declared.keeper.CacheLookup.{CacheLookup}
use Rattle.cm_cache.specs.declared.keeper.CacheLookup.TheVariants.{Again, New, Passing}
use Rattle.cm_cache.specs.AnswersInside.{answer_of, kept_at, put_in}
use Rattle.cm_cache.specs.Keeping.{IsKeptOf, is_lasting, resolves, comes_or_goes, forgets}
use Rattle.cm_cache.specs.Right.{uses_of, AreRight}

-- the answers that are kept, and how many entries had theirs from the cache
pub record CacheContents : Type 0 where
  pub answers : List CachedAnswer
  pub number : ℕ

-- an empty cache
abbrev pub nothing_held : CacheContents
nothing_held = record { answers = []; number = 0 }

-- the cache after an entry that asks for a use whose walk comes to v: a hit where an answer is kept,
-- else v is kept if it lasts
abbrev pub asked_for : ℕ → List ℕ → Walked → CacheContents → CacheContents
asked_for i path v h =
    if is_some (kept_at h.answers i path) then record h { number = h.number + 1 }
    else if is_lasting v then record h { answers = put_in h.answers i path v }
    else h

-- how such a use is looked up where no answer is kept: v is new, or passes without being kept
abbrev pub finding : ℕ → List ℕ → Walked → CacheLookup
finding i path v = if is_lasting v then New (answer_of i path v) else Passing

-- the cache after a look-up: one more hit, one more answer, or no change
abbrev pub found_by : CacheLookup → CacheContents → CacheContents
found_by Again h = record h { number = h.number + 1 }
found_by (New a) h = record h { answers = put_in h.answers a.inc a.path a.walked }
found_by Passing h = h

-- whether a look-up gave an answer that is kept from now on
abbrev pub is_new : CacheLookup → Bool
is_new (New a) = true
is_new found = false

-- whether an entry that asks for no use empties the cache; it is told whether the entry dooms an
-- instance
abbrev pub is_emptied : Event → Reply → Bool → Bool
is_emptied event reply doomed = resolves event reply || comes_or_goes reply || doomed

-- the cache after an entry that asks for no use
abbrev pub followed : Event → Reply → Bool → CacheContents → CacheContents
followed event reply doomed h = if is_emptied event reply doomed then record h { answers = [] } else h

-- what is told of an entry's dooming is right, as far as it decides whether the cache is emptied
abbrev pub IsReported : World → Entry → Bool → Type 0
IsReported w e doomed = is_emptied e.event e.reply doomed ≡ forgets w e

-- the cache belongs to this history: each answer is that of the walk in the tree that the history
-- leaves, and uses and hits are those that the history keeps
pub record IsBeside (f : Frame) (es : List Entry) (h : CacheContents) : Type 0 where
  pub right : AreRight (replay (start f) es).rows (replay (start f) es).frame.builtins h.answers
  pub keeps : IsKeptOf f es (record { uses = uses_of h.answers; number = h.number })

-- whether a row that isn't doomed goes with row i, which has stopped
abbrev pub goes_some : List Row → ℕ → Bool
goes_some rows i = list_any (λ r. goes_with rows i r && not r.doomed) rows

-- whether one goes with row i after an action there that ended so
abbrev pub goes_some_by : Outcome → List Row → ℕ → Bool
goes_some_by o rows i = is_stopped o && goes_some rows i
