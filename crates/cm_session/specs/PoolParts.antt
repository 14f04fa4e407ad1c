-- Inside.
-- Workers are made of passes and gates, and taken apart into lists again, which are reserved
-- beforehand.
use Rattle.std.specs.Prelude.{◌≡◌, ℕ, ◌<◌, ◌≤◌, List, [], All, Any, map, length, true, false, Some}
use Rattle.std.specs.Prelude.{slice_get, vec_capacity}
use Rattle.std.specs.declared.alloc.Global.{Global}
use Rattle.std.specs.declared.vec.Vec.{Vec}
use Rattle.cm_manager.specs.Contract.{RealmPass}
use Rattle.cm_manager.specs.Desks.{DesksHaveRoom}
use Rattle.cm_manager.specs.declared.desks.DeskParts.{DeskParts}
use Rattle.cm_session.specs.declared.pool.DoorParts.{DoorParts}
use Rattle.cm_session.specs.declared.pool.PoolRoom.{PoolRoom}
use Rattle.cm_session.specs.declared.workers.DoorWork.{DoorWork}
use Rattle.cm_session.specs.Doorway.{DoorPass}
use Rattle.cm_session.specs.Pool.{Worker}

-- the links that one worker has served, as a vector
abbrev pub Links : Type 0 → Type 0
Links L = Vec L Global

-- what workers of these gates and links are taken apart into
abbrev pub PoolParts : Type 0 → Type 0 → Type 0
PoolParts G L = DeskParts G (DoorParts L)

module _ {L : Type 0} where
  -- n empty vectors of links, one for each worker; those of workers that serve have room for all
  -- sessions asked for
  pub record HasRooms (n sessions workers : ℕ) (rooms : List (Links L)) : Type 0 where
    pub count : length rooms ≡ n
    pub none : All (λ r. r.items ≡ []) rooms
    pub room : (k : ℕ) (r : Links L) → k < workers → slice_get rooms k ≡ Some r → sessions ≤ vec_capacity r

  -- the work of a worker that holds its pass at the door; it has none only within a turn
  pub record HasDoorPass (work : DoorWork L) : Type 0 where
    pub at_door : DoorPass
    pub there : work.at_door ≡ Some at_door

  -- the lists are empty, with room for the parts of n works
  pub record DoorPartsHaveRoom (n : ℕ) (parts : DoorParts L) : Type 0 where
    pub no_passes : parts.at_door.items ≡ []
    pub at_door : n ≤ vec_capacity parts.at_door
    pub no_links : parts.links.items ≡ []
    pub links : n ≤ vec_capacity parts.links

module _ {G L : Type 0} where
  -- all the memory that n workers need was reserved: for the workers, for the links of those that
  -- serve, for the parts, and for the links that come back
  pub record PoolHasRoom (n sessions workers : ℕ) (room : PoolRoom G L) : Type 0 where
    pub pool : DesksHaveRoom n room.pool
    pub links : HasRooms n sessions workers room.links.items
    pub parts : DoorPartsHaveRoom n room.parts
    pub no_links : room.back.items ≡ []
    pub back : sessions ≤ vec_capacity room.back

  -- a worker that holds its pass of the realm and its pass at the door; it has none of them only
  -- within a turn
  pub record HasPasses (worker : Worker G L) : Type 0 where
    pub pass : RealmPass
    pub there : worker.pass ≡ Some pass
    pub door : HasDoorPass worker.work

  -- these are the parts of these workers, in their order
  pub record AreWorkerParts (pool : List (Worker G L)) (parts : PoolParts G L) : Type 0 where
    pub passes : map Some parts.passes.items ≡ map (λ w. w.pass) pool
    pub at_door : map Some parts.works.at_door.items ≡ map (λ w. w.work.at_door) pool
    pub gates : parts.gates.items ≡ map (λ w. w.gates) pool
    pub links : parts.works.links.items ≡ map (λ w. w.work.links) pool
    pub well : parts.lost ≡ false → All (λ w. w.lost ≡ false) pool
    pub lost : parts.lost ≡ true → Any (λ w. w.lost ≡ true) pool
