-- Inside.
-- What one lane, a thread that performs one caller's lines of a script, has in hand from step to step.
use Rattle.std.specs.Prelude.{◌≡◌, ◌⊎◌, ℕ, ◌<◌, List, [], ◌∷◌, ◌++◌, map, Bool, false, Option, Some, length}
use Rattle.std.specs.Prelude.{slice_index_or, Any}
use Rattle.std.specs.declared.alloc.Global.{Global}
use Rattle.std.specs.declared.collections.VecDeque.{VecDeque}
use Rattle.cm_turn.specs.History.{StartsWith}
use Rattle.cm_turn.specs.Passes.{LockView, seen_up_to}
use Rattle.cm_world.specs.declared.reply.Entry.{Entry}
use Rattle.cm_command.specs.declared.script.Line.{Line}
use Rattle.cm_gate.specs.declared.asked.GateCall.{GateCall}
use Rattle.cm_manager.specs.Asking.{frame_of}
use Rattle.cm_manager.specs.declared.desks.Desk.{Desk}
use Rattle.cm_manager.specs.Work.{Manifests}
use Rattle.cm_manager.specs.Contract.{RealmPass, GatesView}
use Rattle.cm_lanes.specs.declared.said.Said.{Said}
use Rattle.cm_lanes.specs.Script.{AnsweredLine, answered_lines, PerformsLines}
use Rattle.cm_lanes.specs.ScriptInside.{said_of, lines_of}
use Rattle.cm_manager.specs.Kept.{IsOwnPass, KeepsPass, gates_view}

-- the answers of one lane, in its order
abbrev pub Queue : Type 0
Queue = VecDeque Said Global

-- what one lane with gates of this type has in hand
abbrev pub Lane : Type 0 → Type 0
Lane G = Desk G Queue

-- the list of answers grew by these, unless the lane has lost some for lack of memory
abbrev pub GrewUnless : Bool → List Said → List Said → List Said → Type 0
GrewUnless lost old new more = lost ≡ false → new ≡ old ++ more

-- one answer is added to the lane's list, unless it or one before it was lost for lack of memory
abbrev pub PutsUnless : Bool → Bool → List Said → List Said → Said → Type 0
PutsUnless before now old new s = now ≡ false → (before ≡ false) × (new ≡ old ++ s ∷ [])

-- the pass's caller has performed its own lines among these, in order, and its answers were kept unless
-- memory ran out
pub record HasPerformed (manifests : Manifests) (lines : List Line) (p q : RealmPass) (g h : GatesView)
    (said₀ said₁ : List Said) (lost : Bool) : Type 0 where
  pub keeps : KeepsPass manifests p q g h
  pub answers : List AnsweredLine
  pub own_lines : answered_lines answers ≡ lines_of p.caller lines
  pub follows : PerformsLines (frame_of p) p.caller answers p.seen q.seen
  pub said : GrewUnless lost said₀ said₁ (map said_of answers)

module _ {G : Type 0} where
  -- a lane that holds a pass of this lock
  pub record HasPass (turn : LockView) (lane : Lane G) : Type 0 where
    pub pass : RealmPass
    pub there : lane.pass ≡ Some pass
    pub of_lock : pass.lock ≡ turn.lock

  -- a lane that may go on: it holds a pass of this lock, which has seen all entries of its own caller
  pub record IsReadyLane (turn : LockView) (lane : Lane G) : Type 0 where
    pub pass : RealmPass
    pub there : lane.pass ≡ Some pass
    pub of_lock : pass.lock ≡ turn.lock
    pub own : IsOwnPass pass

  -- a lane's pass has taken over what others had seen, which is now this; all else of the lane is as
  -- before
  pub record Met (seen : List Entry) (old new : Lane G) : Type 0 where
    pub pass : RealmPass
    pub was : old.pass ≡ Some pass
    pub now : new.pass ≡ Some (seen_up_to seen pass)
    pub grows : StartsWith seen pass.seen
    pub own : IsOwnPass (seen_up_to seen pass)
    pub gates : new.gates ≡ old.gates
    pub said : new.work ≡ old.work
    pub lost : new.lost ≡ old.lost

  -- two lanes have met: each has now seen what the one that had seen more had
  pub record MetBoth (a b a' b' : Lane G) : Type 0 where
    pub seen : List Entry
    pub one : Met seen a a'
    pub other : Met seen b b'
    pub longer : (one.pass.seen ≡ seen) ⊎ (other.pass.seen ≡ seen)

  -- a lane's pass has seen exactly these entries
  pub record HasSeen (seen : List Entry) (lane : Lane G) : Type 0 where
    pub pass : RealmPass
    pub there : lane.pass ≡ Some pass
    pub is : pass.seen ≡ seen

  -- all lanes have met: each has now seen the same entries, which one of them had seen before
  pub record MetAll (old new : List (Lane G)) : Type 0 where
    pub seen : List Entry
    pub long : length new ≡ length old
    pub each : (k : ℕ) (d : Lane G) → k < length old
        → Met seen (slice_index_or old k d) (slice_index_or new k d)
    pub among : Any (HasSeen seen) old

module _ {G : Type 0} (log_of : G → Option (List GateCall)) (faults_of : G → ℕ) where
  -- a lane has performed its own lines among these
  pub record LaneWorked (manifests : Manifests) (lines : List Line) (old new : Lane G) : Type 0 where
    pub p : RealmPass
    pub q : RealmPass
    pub was : old.pass ≡ Some p
    pub now : new.pass ≡ Some q
    pub performed : HasPerformed manifests lines p q (gates_view log_of faults_of old.gates)
        (gates_view log_of faults_of new.gates) old.work.items new.work.items new.lost
    pub lost : new.lost ≡ false → old.lost ≡ false
