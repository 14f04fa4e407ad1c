-- Promised.
-- What comes back of serving all links of a door.
use Rattle.std.specs.Prelude.{◌≡◌, ◌≢◌, ◌⊎◌, ℕ, ◌+◌, ◌≤◌, List, [], ◌∷◌, ◌++◌, All, Any, map, length, Option}
use Rattle.std.specs.Prelude.{Some, slice_get}
use Rattle.cm_gate.specs.declared.asked.GateCall.{GateCall}
use Rattle.cm_io.specs.Doors.{IsFreshLink}
use Rattle.cm_manager.specs.Contract.{GatesView, RealmPass}
use Rattle.cm_manager.specs.Gated.{gates_view}
use Rattle.cm_manager.specs.Work.{Manifests}
use Rattle.cm_session.specs.declared.ended.Ended.{Ended}
use Rattle.cm_session.specs.declared.ended.Ended.TheVariants as ended
use Rattle.cm_session.specs.declared.served.Back.{Back}
use Rattle.cm_session.specs.declared.served.Cause.TheVariants as cause
use Rattle.cm_session.specs.declared.served.Served.{Served}
use Rattle.cm_session.specs.Links.{LinkView}
use Rattle.cm_session.specs.Session.{Session}

-- a link that a worker served: as it came, as it is now, and how its session ended
pub record ServedLink : Type 0 where
  pub was : LinkView
  pub now : LinkView
  pub ended : Ended

-- the session of this link ended for lack of memory
abbrev pub IsLost : ServedLink → Type 0
IsLost v = v.ended ≡ ended.Memory

-- none of these sessions ended for lack of memory
abbrev pub AreWell : List ServedLink → Type 0
AreWell visits = All (λ v. v.ended ≢ ended.Memory) visits

-- the last of these sessions ended for lack of memory, and none before it
pub record EndsLost (visits : List ServedLink) : Type 0 where
  pub before : List ServedLink
  pub last : ServedLink
  pub visits_are : visits ≡ before ++ last ∷ []
  pub well : AreWell before
  pub lost : IsLost last

-- a worker serves no further link once a session of its own has ended for lack of memory
abbrev pub StopsAtLoss : List ServedLink → Type 0
StopsAtLoss visits = AreWell visits ⊎ EndsLost visits

-- nothing had been read from the link or written to it when it came
abbrev pub IsNewLink : LinkView → Type 0
IsNewLink l = IsFreshLink l.source l.sink l.order

-- some link is seen as this by contracts
abbrev pub IsOfLink : {L : Type 0} → (L → LinkView) → LinkView → Type 0
IsOfLink view seen = (link : _) × (view link ≡ seen)

-- one worker served this link, which was new, by one session, from this pass and these gates to those
pub record Visits (manifests : Manifests) (v : ServedLink) (p q : RealmPass) (g h : GatesView) : Type 0 where
  pub new : IsNewLink v.was
  pub session : Session manifests p q g h v.was v.now v.ended

-- a worker's visits, one after another, each from where the one before it left the pass and the gates
pub data ServesVisits (manifests : Manifests) : List ServedLink → RealmPass → RealmPass → GatesView
    → GatesView → Type 0 where
  none_came : {p : RealmPass} {g : GatesView} → ServesVisits manifests [] p p g g
  one_first : {v : ServedLink} {others : List ServedLink} {p q r : RealmPass} {g h k : GatesView}
      → Visits manifests v p q g h
      → ServesVisits manifests others q r h k
      → ServesVisits manifests (v ∷ others) p r g k

-- the links of these visits as they are handed back, from worker k on, worker by worker
abbrev pub worker_by_worker : ℕ → List (List ServedLink) → List (Back LinkView)
worker_by_worker k [] = []
worker_by_worker k (visits ∷ others) =
    map (λ v. record { worker = k; link = v.now }) visits ++ worker_by_worker (k + 1) others

-- a link that is handed back, as contracts see it
abbrev pub back_view : {L : Type 0} → (L → LinkView) → Back L → Back LinkView
back_view view b = record { worker = b.worker; link = view b.link }

module _ {D L G : Type 0} where
  -- nothing was served, for lack of memory: all that was given comes back as it was
  pub record IsUnserved (passes : List RealmPass) (gates : List G) (door : D) (back : Served D L G)
      : Type 0 where
    pub same_passes : back.passes ≡ passes
    pub same_gates : back.gates ≡ gates
    pub same_door : back.door ≡ door
    pub no_links : back.links ≡ []
    pub memory : back.cause ≡ cause.Memory

module _ {G L : Type 0} (log_of : G → Option (List GateCall)) (faults_of : G → ℕ) (view : L → LinkView) where
  -- each worker served its links one after another with its own pass and gates, and stopped at a
  -- session that ended for lack of memory; those that don't serve have none; and lack of memory is the
  -- cause exactly where a session ended so
  pub record ServesAll {D : Type 0} (manifests : Manifests) (workers : ℕ) (passes : List RealmPass)
      (gates : List G)
      (back : Served D L G) : Type 0 where
    pub visits : List (List ServedLink)
    pub count : length visits ≡ 16
    pub links : map (back_view view) back.links ≡ worker_by_worker 0 visits
    pub came : All (All (λ v. IsOfLink view v.was)) visits
    pub each : (k : ℕ) (vs : List ServedLink) (p q : RealmPass) (g h : G) → slice_get visits k ≡ Some vs
        → slice_get passes k ≡ Some p → slice_get back.passes k ≡ Some q
        → slice_get gates k ≡ Some g → slice_get back.gates k ≡ Some h
        → ServesVisits manifests vs p q (gates_view log_of faults_of g) (gates_view log_of faults_of h)
    pub idle : (k : ℕ) (vs : List ServedLink) → workers ≤ k → slice_get visits k ≡ Some vs → vs ≡ []
    pub stops : All StopsAtLoss visits
    pub well : back.cause ≢ cause.Memory → All AreWell visits
    pub lost : back.cause ≡ cause.Memory → Any EndsLost visits

  -- the door's links were served, or nothing was done for lack of memory
  abbrev pub ServedOrNot : {D : Type 0} → Manifests → ℕ → List RealmPass → List G → D → Served D L G → Type 0
  ServedOrNot manifests workers passes gates door back =
      ServesAll manifests workers passes gates back ⊎ IsUnserved passes gates door back
