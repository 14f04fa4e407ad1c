-- Inside.
-- How the door's turns end, and the links of all workers are put together.
use Rattle.std.specs.Prelude.{◌≡◌, ℕ, ◌+◌, ◌<◌, ◌≤◌, Bool, true, false, List, [], ◌∷◌, ◌++◌, All, map}
use Rattle.std.specs.Prelude.{length, Some}
use Rattle.std.specs.Prelude.{slice_get}
use Rattle.cm_io.specs.Doors.{DoorPlace}
use Rattle.cm_io.specs.declared.door.DoorCounts.{DoorCounts}
use Rattle.cm_turn.specs.History.{StartsWith}
use Rattle.cm_session.specs.declared.doorway.Accepted.{Accepted}
use Rattle.cm_session.specs.declared.doorway.Opening.{Opening}
use Rattle.cm_session.specs.declared.served.Back.{Back}
use Rattle.cm_session.specs.declared.served.Cause.{Cause}
use Rattle.cm_session.specs.declared.served.Cause.TheVariants as cause
use Rattle.cm_session.specs.Doorway.{DoorPass, IsCounted, failures_of, links_of, sessions_of}
use Rattle.cm_session.specs.PoolParts.{Links}

module _ {L : Type 0} where
  -- the links of one worker, with its number
  abbrev pub backs_of : ℕ → List L → List (Back L)
  backs_of k links = map (λ l. record { worker = k; link = l }) links

  -- the links of the workers from number k on, worker by worker, as they are handed back
  abbrev pub links_from : ℕ → List (Links L) → List (Back L)
  links_from k [] = []
  links_from k (links ∷ others) = backs_of k links.items ++ links_from (k + 1) others

  -- the passes of the sixteen workers at a door, and the links of each: as many as its accepts that
  -- gave a link, with room for as many as were asked for
  pub record CountsLinks (passes : List DoorPass) (links : List (Links L)) (capacity : ℕ) : Type 0 where
    pub count : length passes ≡ 16
    pub callers : (k : ℕ) (p : DoorPass) → slice_get passes k ≡ Some p → p.caller ≡ k
    pub long : length links ≡ 16
    pub each : (k : ℕ) (p : DoorPass) (r : Links L) → slice_get passes k ≡ Some p → slice_get links k ≡ Some r
        → links_of p.mine ≡ length r.items
    pub room : All (λ p. sessions_of p ≤ capacity) passes

-- why serving ended: memory ran out (the first flag), else the door failed (the second), else it was
-- done
abbrev pub cause_of : Bool → Bool → Cause
cause_of true failed = cause.Memory
cause_of false true = cause.DoorFault
cause_of false false = cause.Done

-- the door comes back after these accepts: it has counted them, each pass has seen a prefix of them,
-- the links that come back are as many as it gave, and peers may come where they could
pub record ClosesDoor (passes : List DoorPass) (now : DoorCounts) (place_now : DoorPlace) (links : ℕ)
    (lost : Bool) (why : Cause) : Type 0 where
  pub opening : Opening
  pub entries : List Accepted
  pub opened : All (λ p. p.frame ≡ Some opening) passes
  pub seen : All (λ p. StartsWith entries p.seen) passes
  pub counted : IsCounted opening.counts now entries
  pub place : place_now ≡ opening.place
  pub links_are : links ≡ links_of entries
  pub few : links_of entries ≤ opening.sessions
  pub failed : Bool
  pub failure : failed ≡ true → 0 < failures_of entries
  pub no_failure : failed ≡ false → failures_of entries ≡ 0
  pub why_is : why ≡ cause_of lost failed
