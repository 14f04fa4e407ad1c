-- Inside.
-- What the workers of a pool have in hand, from step to step.
use Rattle.std.specs.Prelude.{◌≡◌, ℕ, ◌<◌, ◌≤◌, List, [], ◌∷◌, ◌++◌, All, map, length, Bool}
use Rattle.std.specs.Prelude.{true, false}
use Rattle.std.specs.Prelude.{Option, Some, slice_index_or, vec_capacity}
use Rattle.cm_gate.specs.declared.asked.GateCall.{GateCall}
use Rattle.cm_manager.specs.Contract.{GatesView, RealmPass}
use Rattle.cm_manager.specs.Gated.{gates_view}
use Rattle.cm_manager.specs.Work.{Manifests}
use Rattle.cm_manager.specs.declared.desks.Desk.{Desk}
use Rattle.cm_turn.specs.Passes.{LockView}
use Rattle.cm_session.specs.declared.ended.Ended.{Ended}
use Rattle.cm_session.specs.declared.workers.DoorWork.{DoorWork}
use Rattle.cm_session.specs.Doorway.{DoorPass, IsLater, IsDoorDone, links_of, sessions_of}
use Rattle.cm_session.specs.Links.{LinkView}
use Rattle.cm_session.specs.Serving.{AreWell, EndsLost, IsOfLink, ServesVisits, ServedLink}
use Rattle.cm_session.specs.Session.{Session}

-- what a worker of these gates and links has in hand
abbrev pub Worker : Type 0 → Type 0 → Type 0
Worker G L = Desk G (DoorWork L)

-- one link was served by one session, and stands last among the worker's links then
pub record ServesLink {L : Type 0} (view : L
    → LinkView) (manifests : Manifests) (p q : RealmPass) (g h : GatesView)
    (link : L) (old new : List L) (end : Ended) : Type 0 where
  pub now : L
  pub links : new ≡ old ++ now ∷ []
  pub session : Session manifests p q g h (view link) (view now) end

-- a worker has served these visits so far: one after another, each for a link that came by this pass
-- at the door
pub record HasServed {L : Type 0} (view : L → LinkView) (manifests : Manifests) (visits : List ServedLink)
    (p q : RealmPass) (g h : GatesView) (d e : DoorPass) (links : List L) : Type 0 where
  pub serves : ServesVisits manifests visits p q g h
  pub came : All (λ v. IsOfLink view v.was) visits
  pub links_are : map view links ≡ map (λ v. v.now) visits
  pub at_door : IsLater d e
  pub counts : links_of e.mine ≡ length visits

-- why a worker stopped: its last session ended for lack of memory (wants), or no further accept is due
pub record WorkerStops (visits : List ServedLink) (e : DoorPass) (wants : Bool) : Type 0 where
  pub lost : wants ≡ true → EndsLost visits
  pub well : wants ≡ false → AreWell visits
  pub over : wants ≡ false → IsDoorDone (sessions_of e) e.seen

-- a worker served links until it stopped; lost tells that it stopped for lack of memory
pub record ServesLinks {L : Type 0} (view : L → LinkView) (manifests : Manifests)
    (p q : RealmPass) (g h : GatesView) (d e : DoorPass) (links : List L) (lost : Bool) : Type 0 where
  pub visits : List ServedLink
  pub served : HasServed view manifests visits p q g h d e links
  pub stops : WorkerStops visits e lost

module _ {G L : Type 0} where
  -- a worker that hasn't served yet: it has a pass of the realm's lock and one of the door's, both of
  -- its number, and, where it is one of those that serve, room for as many links as were asked for
  pub record IsReadyWorker (realm door : LockView) (workers : ℕ) (worker : Worker G L) : Type 0 where
    pub pass : RealmPass
    pub there : worker.pass ≡ Some pass
    pub of_realm : pass.lock ≡ realm.lock
    pub at_door : DoorPass
    pub there_too : worker.work.at_door ≡ Some at_door
    pub of_door : at_door.lock ≡ door.lock
    pub new : at_door.mine ≡ []
    pub none : worker.work.links.items ≡ []
    pub room : at_door.caller < workers → sessions_of at_door ≤ vec_capacity worker.work.links
    pub well : worker.lost ≡ false

module _ {G L : Type 0} (log_of : G → Option (List GateCall)) (faults_of : G → ℕ) (view : L → LinkView) where
  -- a worker has done its work with these visits; where it isn't one of those that serve there are
  -- none
  pub record WorkerWorked (manifests : Manifests) (workers : ℕ) (visits : List ServedLink)
      (old new : Worker G L) : Type 0 where
    pub p : RealmPass
    pub q : RealmPass
    pub d : DoorPass
    pub e : DoorPass
    pub was : old.pass ≡ Some p
    pub now : new.pass ≡ Some q
    pub was_at_door : old.work.at_door ≡ Some d
    pub now_at_door : new.work.at_door ≡ Some e
    pub served : HasServed view manifests visits p q (gates_view log_of faults_of old.gates)
        (gates_view log_of faults_of new.gates) d e new.work.links.items
    pub idle : workers ≤ d.caller → visits ≡ []
    pub lost : new.lost ≡ true → EndsLost visits
    pub well : new.lost ≡ false → AreWell visits
    pub over : new.lost ≡ false → d.caller < workers → IsDoorDone (sessions_of e) e.seen

  -- a worker has done its work, with some visits
  pub record DidWork (manifests : Manifests) (workers : ℕ) (old new : Worker G L) : Type 0 where
    pub visits : List ServedLink
    pub worked : WorkerWorked manifests workers visits old new

  -- each worker of the pool has done its work
  pub record PoolWorked (manifests : Manifests) (workers : ℕ) (old new : List (Worker G L)) : Type 0 where
    pub long : length new ≡ length old
    pub each : (k : ℕ) (d : Worker G L) → k < length old
        → DidWork manifests workers (slice_index_or old k d) (slice_index_or new k d)
