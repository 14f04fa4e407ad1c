-- Inside.
-- What the lanes have done, phase by phase. A phase is the lines between two `sync`s of a script.
use Rattle.std.specs.Prelude.{◌≡◌, ℕ, ◌<◌, List, map, flat_map, Option, Some, None, length, slice_index_or}
use Rattle.std.specs.Prelude.{slice_get}
use Rattle.cm_turn.specs.Passes.{LockView}
use Rattle.cm_world.specs.declared.frame.Frame.{Frame}
use Rattle.cm_world.specs.declared.reply.Entry.{Entry}
use Rattle.cm_command.specs.declared.script.Line.{Line}
use Rattle.cm_gate.specs.declared.asked.GateCall.{GateCall}
use Rattle.cm_manager.specs.Asking.{no_frame, frame_of}
use Rattle.cm_manager.specs.Work.{Manifests}
use Rattle.cm_manager.specs.Contract.{RealmPass}
use Rattle.cm_lanes.specs.declared.said.Said.{Said}
use Rattle.cm_lanes.specs.Script.{AnsweredLine, answered_lines, answers_of, ArePhases}
use Rattle.cm_lanes.specs.ScriptInside.{said_of}
use Rattle.cm_manager.specs.Kept.{ExtendsPass, IsOwnPass, KeepsPass, gates_view}
use Rattle.cm_lanes.specs.Lane.{GrewUnless, Lane, LaneWorked}

-- the answers that one lane got in all phases
abbrev pub told_to : ℕ → List (List AnsweredLine) → List Said
told_to k answered = flat_map (λ a. map said_of (answers_of k a)) answered

module _ {G : Type 0} where
  -- a lane whose pass is of this lock and belongs to caller k
  pub record IsLaneOf (turn : LockView) (k : ℕ) (lane : Lane G) : Type 0 where
    pub pass : RealmPass
    pub there : lane.pass ≡ Some pass
    pub of_lock : pass.lock ≡ turn.lock
    pub caller : pass.caller ≡ k

  -- the sixteen lanes, each of the caller with its number
  pub record AreLanes (turn : LockView) (lanes : List (Lane G)) : Type 0 where
    pub count : length lanes ≡ 16
    pub each : (k : ℕ) (d : Lane G) → k < 16 → IsLaneOf turn k (slice_index_or lanes k d)

  -- what the realm of a lane's pass was made with; some frame where there is no lane or no pass
  abbrev pub frame_in_lane : Option (Lane G) → Frame
  frame_in_lane None = no_frame
  frame_in_lane (Some lane) = elim lane.pass as (λ _. Frame) [ None ↦ no_frame | Some p ↦ frame_of p ]

  -- what the realm of the pass of lane k was made with
  abbrev pub lane_frames : List (Lane G) → ℕ → Frame
  lane_frames lanes k = frame_in_lane (slice_get lanes k)

  -- this history goes on from what the lane's pass has seen
  pub record LaneBegins (history : List Entry) (lane : Lane G) : Type 0 where
    pub pass : RealmPass
    pub there : lane.pass ≡ Some pass
    pub goes_on : ExtendsPass history pass

module _ {G : Type 0} (log_of : G → Option (List GateCall)) (faults_of : G → ℕ) where
  -- a lane has performed its own lines of a phase, and has met the others since
  pub record Passed (manifests : Manifests) (lines : List Line) (last : List Entry)
      (old new : Lane G) : Type 0 where
    pub worked : LaneWorked log_of faults_of manifests lines old new
    pub seen : worked.q.seen ≡ last
    pub own : IsOwnPass worked.q

  -- all lanes have performed their own lines of a phase, and have met
  pub record PassedAll (manifests : Manifests) (lines : List Line) (old new : List (Lane G)) : Type 0 where
    pub last : List Entry
    pub long : length new ≡ length old
    pub each : (k : ℕ) (d : Lane G) → k < length old
        → Passed manifests lines last (slice_index_or old k d) (slice_index_or new k d)

  -- what has become of lane k after these phases: its pass has seen all, its gates did the work of its
  -- calls, and it has its answers
  pub record LaneRan (manifests : Manifests) (answered : List (List AnsweredLine)) (last : List Entry) (k : ℕ)
      (old new : Lane G) : Type 0 where
    pub p : RealmPass
    pub q : RealmPass
    pub was : old.pass ≡ Some p
    pub now : new.pass ≡ Some q
    pub caller : p.caller ≡ k
    pub seen : q.seen ≡ last
    pub own : IsOwnPass q
    pub keeps : KeepsPass manifests p q (gates_view log_of faults_of old.gates)
        (gates_view log_of faults_of new.gates)
    pub said : GrewUnless new.lost old.work.items new.work.items (told_to k answered)

  -- the lanes have performed these phases, one after another
  pub record LanesRan (manifests : Manifests) (phases : List (List Line)) (old new : List
      (Lane G)) : Type 0 where
    pub first : List Entry
    pub last : List Entry
    pub long : length new ≡ length old
    pub begins : (k : ℕ) (d : Lane G) → k < 16 → LaneBegins first (slice_index_or old k d)
    pub answered : List (List AnsweredLine)
    pub lines : map answered_lines answered ≡ phases
    pub performed : ArePhases (lane_frames old) answered first last
    pub each : (k : ℕ) (d : Lane G) → k < 16
        → LaneRan manifests answered last k (slice_index_or old k d) (slice_index_or new k d)
