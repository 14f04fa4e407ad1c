-- Inside.
-- One lane meets others, one after another: each pair of passes is brought to the longer history of
-- the two.
use Rattle.std.specs.Prelude.{◌≡◌, ◌⊎◌, ℕ, ◌<◌, ◌≤◌, List, Some, length, slice_index_or}
use Rattle.cm_turn.specs.History.{StartsWith}
use Rattle.cm_turn.specs.Passes.{seen_up_to}
use Rattle.cm_world.specs.declared.reply.Entry.{Entry}
use Rattle.cm_manager.specs.Contract.{RealmPass}
use Rattle.cm_manager.specs.Kept.{IsOwnPass}
use Rattle.cm_lanes.specs.Lane.{Lane, Met, HasSeen}

module _ {G : Type 0} where
  -- a lane has met others, and what it has seen since then is a prefix of this
  pub record MetWithin (seen : List Entry) (old new : Lane G) : Type 0 where
    pub then_seen : List Entry
    pub met : Met then_seen old new
    pub within : StartsWith seen then_seen

  -- what a lane's pass has seen is a prefix of this
  pub record HasSeenWithin (seen : List Entry) (lane : Lane G) : Type 0 where
    pub pass : RealmPass
    pub there : lane.pass ≡ Some pass
    pub within : StartsWith seen pass.seen

  -- the first lane f has met the first n of the others, and nothing else has changed
  pub record MeetsEach (n : ℕ) (f f' : Lane G) (xs ys : List (Lane G)) : Type 0 where
    pub seen : List Entry
    pub pass : RealmPass
    pub was : f.pass ≡ Some pass
    pub now : f'.pass ≡ Some (seen_up_to seen pass)
    pub grows : StartsWith seen pass.seen
    pub own : 0 < n → IsOwnPass (seen_up_to seen pass)
    pub gates : f'.gates ≡ f.gates
    pub said : f'.work ≡ f.work
    pub lost : f'.lost ≡ f.lost
    pub met : (k : ℕ) (d : Lane G) → k < n → MetWithin seen (slice_index_or xs k d) (slice_index_or ys k d)
    pub rest : (k : ℕ) (d : Lane G) → n ≤ k → slice_index_or ys k d ≡ slice_index_or xs k d
    -- what it has seen then it had seen itself, or one of those
    pub among : (pass.seen ≡ seen)
        ⊎ ((k : ℕ) × (k < n) × ((d : Lane G) → HasSeen seen (slice_index_or xs k d)))
    -- where it had seen all that they had
    pub still : ((k : ℕ) (d : Lane G) → k < length xs → HasSeenWithin pass.seen (slice_index_or xs k d))
        → (seen ≡ pass.seen)
        × ((k : ℕ) (d : Lane G) → k < n → Met seen (slice_index_or xs k d) (slice_index_or ys k d))
