-- Phase after phase.
use Rattle.std.proofs.Common.{◌≡◌, ℕ, ◌<◌, List, [], ◌∷◌, ◌++◌, All, map, Bool, true, false, Option, Some, None, length, get_or, refl, sym, ap, ◌∙◌, subst, append-nil, append_assoc, arith}
use Rattle.std.proofs.lemmas.Bool.{lt-ltb, ltb-true}
use Rattle.std.proofs.Math.Dec.{ltb}
use Rattle.std.proofs.lemmas.Grind.{flat_map-append}
use Rattle.std.proofs.lemmas.List.{map-append, get_or_default}
use Rattle.std.proofs.lemmas.Option.{slice_get-get_or}
use Rattle.cm_turn.specs.History.{StartsWith}
use Rattle.cm_turn.specs.Passes.{LockView, seen_up_to}
use Rattle.cm_world.specs.declared.frame.Frame.{Frame}
use Rattle.cm_world.specs.declared.reply.Entry.{Entry}
use Rattle.cm_world.proofs.lemmas.trees.Finding.{some_same}
use Rattle.cm_command.specs.declared.script.Line.{Line}
use Rattle.cm_gate.specs.declared.asked.GateCall.{GateCall}
use Rattle.cm_manager.specs.Asking.{no_frame, frame_of, frame_in}
use Rattle.cm_manager.specs.Work.{Manifests}
use Rattle.cm_manager.specs.Contract.{RealmPass}
use Rattle.cm_lanes.specs.declared.said.Said.{Said}
use Rattle.cm_lanes.specs.Script.{AnsweredLine, answered_lines, answers_of, PerformsLines, IsPhase, ArePhases, none_left, one_first}
use Rattle.cm_lanes.specs.ScriptInside.{said_of, lines_of, IsFit}
use Rattle.cm_manager.specs.Kept.{KeepsPass, gates_view}
use Rattle.cm_lanes.specs.Lane.{Lane, IsReadyLane, Met, MetAll, GrewUnless}
use Rattle.cm_lanes.specs.Phases.{told_to, IsLaneOf, AreLanes, frame_in_lane, lane_frames, Passed, PassedAll, LaneRan, LanesRan}
use Rattle.cm_manager.proofs.lemmas.calling.Keeping.{keeps_learns, keeps_trans}
use Rattle.cm_lanes.proofs.lemmas.merged.Weaving.{LaneParts, Merged, merge}

-- A phase behind other phases makes phases with them.
pub phases_more : (frames : ℕ → Frame) (answered : List (List AnsweredLine)) (a : List AnsweredLine) (h₀ h₁ h₂ : List Entry) → ArePhases frames answered h₀ h₁ → IsPhase frames a h₁ h₂ → ArePhases frames (answered ++ a ∷ []) h₀ h₂
phases_more frames [] a h₀ h₁ h₂ none_left last = ArePhases.one_first last ArePhases.none_left
phases_more frames (x ∷ xs) a h₀ h₁ h₂ (one_first {h₁ = h} first rest) last = ArePhases.one_first first (phases_more frames xs a h h₁ h₂ rest last)

-- The answers to a lane in all phases, with one more, are the old ones and those of the phase.
told_more : (k : ℕ) (answered : List (List AnsweredLine)) (a : List AnsweredLine) → told_to k (answered ++ a ∷ []) ≡ told_to k answered ++ map said_of (answers_of k a)
told_more k answered a = flat_map-append (λ (a : List AnsweredLine). map said_of (answers_of k a)) answered (a ∷ []) ∙ ap (λ (l : List Said). told_to k answered ++ l) (append-nil (map said_of (answers_of k a)))

-- A list that grew by answers and then by others grew by all, unless some were lost.
said_trans : (mid new : Bool) (a b d x y : List Said) → (new ≡ false → mid ≡ false) → GrewUnless mid a b x → GrewUnless new b d y → GrewUnless new a d (x ++ y)
said_trans mid new a b d x y down ab bd kept = bd kept ∙ ap (λ (l : List Said). l ++ y) (ab (down kept)) ∙ append_assoc a x y

module _ {G : Type 0} (log_of : G → Option (List GateCall)) (faults_of : G → ℕ) where
  -- the lane goes through one phase more
  lane_more : (manifests : Manifests) (lines : List Line) (answered : List (List AnsweredLine)) (a : List AnsweredLine) (last seen : List Entry) (k : ℕ) (x y z : Lane G) → LaneRan log_of faults_of manifests answered last k x y → (w : Passed log_of faults_of manifests lines seen y z) → answers_of k a ≡ w.worked.performed.answers → LaneRan log_of faults_of manifests (answered ++ a ∷ []) seen k x z
  lane_more manifests lines answered a last seen k x y z is w answers =
      let p_is : w.worked.p ≡ is.q = some_same _ _ (sym w.worked.was ∙ is.now) in
      let keeps : KeepsPass manifests is.q w.worked.q (gates_view log_of faults_of y.gates) (gates_view log_of faults_of z.gates) = subst (λ (p : RealmPass). KeepsPass manifests p w.worked.q (gates_view log_of faults_of y.gates) (gates_view log_of faults_of z.gates)) p_is w.worked.performed.keeps in
      record {
        p = is.p;
        q = w.worked.q;
        was = is.was;
        now = w.worked.now;
        caller = is.caller;
        seen = w.seen;
        own = w.own;
        keeps = keeps_trans manifests is.p is.q w.worked.q _ _ _ is.keeps keeps;
        said = subst (λ (l : List Said). GrewUnless z.lost x.work.items z.work.items l) (sym (told_more k answered a))
            (said_trans y.lost z.lost x.work.items y.work.items z.work.items (told_to k answered) (map said_of (answers_of k a)) w.worked.lost is.said
            (subst (λ (l : List AnsweredLine). GrewUnless z.lost y.work.items z.work.items (map said_of l)) (sym answers) w.worked.performed.said));
      }

  -- what the lane did in the phase, from where all had met
  lane_follows : (manifests : Manifests) (lines : List Line) (answered : List (List AnsweredLine)) (last seen : List Entry) (f : Frame) (k : ℕ) (x y z : Lane G) (xs : List AnsweredLine) → (r : LaneRan log_of faults_of manifests answered last k x y) → (w : Passed log_of faults_of manifests lines seen y z) → f ≡ frame_of r.p → w.worked.performed.answers ≡ xs → PerformsLines f k xs last seen
  lane_follows manifests lines answered last seen f k x y z xs r w frame answers =
      let p_is : w.worked.p ≡ r.q = some_same _ _ (sym w.worked.was ∙ r.now) in
      let caller : w.worked.p.caller ≡ k = ap (λ (p : RealmPass). p.caller) p_is ∙ r.keeps.caller ∙ r.caller in
      let frame_is : frame_of w.worked.p ≡ f = ap frame_of p_is ∙ ap frame_in r.keeps.frame ∙ sym frame in
      let from : w.worked.p.seen ≡ last = ap (λ (p : RealmPass). p.seen) p_is ∙ r.seen in
      subst (λ (f : Frame). PerformsLines f k xs last seen) frame_is
      (subst (λ (c : ℕ). PerformsLines (frame_of w.worked.p) c xs last seen) caller
      (subst (λ (l : List AnsweredLine). PerformsLines (frame_of w.worked.p) w.worked.p.caller l last seen) answers
      (subst (λ (h : List Entry). PerformsLines (frame_of w.worked.p) w.worked.p.caller w.worked.performed.answers last h) w.seen
      (subst (λ (h : List Entry). PerformsLines (frame_of w.worked.p) w.worked.p.caller w.worked.performed.answers h w.worked.q.seen) from w.worked.performed.follows))))

  -- the own lines of a lane in the phase
  lane_lines : (manifests : Manifests) (lines : List Line) (answered : List (List AnsweredLine)) (last seen : List Entry) (k : ℕ) (x y z : Lane G) → LaneRan log_of faults_of manifests answered last k x y → (w : Passed log_of faults_of manifests lines seen y z) → answered_lines w.worked.performed.answers ≡ lines_of k lines
  lane_lines manifests lines answered last seen k x y z r w =
      let p_is : w.worked.p ≡ r.q = some_same _ _ (sym w.worked.was ∙ r.now) in
      w.worked.performed.own_lines ∙ ap (λ (c : ℕ). lines_of c lines) (ap (λ (p : RealmPass). p.caller) p_is ∙ r.keeps.caller ∙ r.caller)

  -- What a lane has seen at a phase's end begins with what it had seen before.
  lane_grows : (manifests : Manifests) (lines : List Line) (answered : List (List AnsweredLine)) (last seen : List Entry) (k : ℕ) (x y z : Lane G) → LaneRan log_of faults_of manifests answered last k x y → (w : Passed log_of faults_of manifests lines seen y z) → StartsWith seen last
  lane_grows manifests lines answered last seen k x y z r w =
      let p_is : w.worked.p ≡ r.q = some_same _ _ (sym w.worked.was ∙ r.now) in
      subst (λ (h : List Entry). StartsWith h last) w.seen
      (subst (λ (h : List Entry). StartsWith w.worked.q.seen h) (ap (λ (p : RealmPass). p.seen) p_is ∙ r.seen) w.worked.performed.keeps.seen)

  -- what the lane of a number answered, if it is one of the first n
  pub lane_answers : (n k : ℕ) (b : Bool) → ltb k n ≡ b → (k < n → List AnsweredLine) → List AnsweredLine
  lane_answers n k true is answers = answers (ltb-true k n is)
  lane_answers n k false is answers = []

  -- What holds of the answers of a lane with a low enough number holds of those found for it.
  answers_are : (n k : ℕ) (b : Bool) (is : ltb k n ≡ b) (answers : k < n → List AnsweredLine) (P : List AnsweredLine → Type 0) → k < n → ((lt : k < n) → P (answers lt)) → P (lane_answers n k b is answers)
  unfolding lane_answers
  answers_are n k true is answers P lt holds = holds (ltb-true k n is)
  answers_are n k false is answers P lt holds = absurd (cc (sym is ∙ lt-ltb k n lt))

  module _ (manifests : Manifests) (phases : List (List Line)) (lines : List Line) (xs ys zs : List (Lane G)) (d : Lane G) (is : LanesRan log_of faults_of manifests phases xs ys) (passed : PassedAll log_of faults_of manifests lines ys zs) (bound : (k : ℕ) → k < 16 → k < length ys) where
    -- what each lane answered in the phase
    abbrev pub phase_answers : ℕ → List AnsweredLine
    phase_answers k = lane_answers 16 k (ltb k 16) refl (λ lt. (passed.each k d (bound k lt)).worked.performed.answers)

    -- What holds of a lane's answers in the phase holds of those found for it, where it is one of 16.
    in_phase : (P : List AnsweredLine → Type 0) (k : ℕ) → k < 16 → ((lt : k < 16) → P ((passed.each k d (bound k lt)).worked.performed.answers)) → P (phase_answers k)
    in_phase P k lt holds = answers_are 16 k (ltb k 16) refl (λ lt. (passed.each k d (bound k lt)).worked.performed.answers) P lt holds

    -- The lanes' answers in a phase of fitting lines are the parts of the phase.
    phase_parts : All IsFit lines → LaneParts lines phase_answers
    phase_parts fit = record {
      lanes = λ k l lt. (fit k l lt).lane;
      parts = λ c lt. in_phase (λ (a : List AnsweredLine). answered_lines a ≡ lines_of c lines) c lt
          (λ lt. lane_lines manifests lines is.answered is.last passed.last c (get_or xs c d) (get_or ys c d) (get_or zs c d) (is.each c d lt) (passed.each c d (bound c lt)));
    }

    -- The frame of a lane, among sixteen, is that of the pass it ran with.
    frame_here : length xs ≡ 16 → (c : ℕ) → c < 16 → (r : LaneRan log_of faults_of manifests is.answered is.last c (get_or xs c d) (get_or ys c d)) → lane_frames xs c ≡ frame_of r.p
    frame_here count c lt r = ap frame_in_lane (slice_get-get_or xs c d (omega (arith, count))) ∙ ap (λ (p : Option RealmPass). elim p as (λ _. Frame) [ None ↦ no_frame | Some p ↦ frame_of p ]) r.was

    -- The merged answers of the lanes are a phase of the history, where there are sixteen lanes.
    phase_is : length xs ≡ 16 → (merged : Merged lines phase_answers) → IsPhase (lane_frames xs) merged.answered is.last passed.last
    phase_is count merged = record {
      grows = lane_grows manifests lines is.answered is.last passed.last 0 (get_or xs 0 d) (get_or ys 0 d) (get_or zs 0 d) (is.each 0 d (grind arith)) (passed.each 0 d (bound 0 (grind arith)));
      lanes = λ c lt. subst (λ (a : List AnsweredLine). PerformsLines (lane_frames xs c) c a is.last passed.last) (sym (merged.lanes_are c lt))
          (in_phase (λ (a : List AnsweredLine). PerformsLines (lane_frames xs c) c a is.last passed.last) c lt
          (λ lt. lane_follows manifests lines is.answered is.last passed.last (lane_frames xs c) c (get_or xs c d) (get_or ys c d) (get_or zs c d) _ (is.each c d lt) (passed.each c d (bound c lt)) (frame_here count c lt (is.each c d lt)) refl));
    }

    -- A lane that ran through some phases has run through one more, with the merged answers.
    lane_ran : (merged : Merged lines phase_answers) (k : ℕ) → k < 16 → LaneRan log_of faults_of manifests (is.answered ++ merged.answered ∷ []) passed.last k (get_or xs k d) (get_or zs k d)
    lane_ran merged k lt = in_phase (λ (a : List AnsweredLine). answers_of k merged.answered ≡ a → LaneRan log_of faults_of manifests (is.answered ++ merged.answered ∷ []) passed.last k (get_or xs k d) (get_or zs k d)) k lt
        (λ lt same. lane_more manifests lines is.answered merged.answered is.last passed.last k (get_or xs k d) (get_or ys k d) (get_or zs k d) (is.each k d lt) (passed.each k d (bound k lt)) same)
        (merged.lanes_are k lt)

    -- Sixteen lanes that ran through some phases have run through one phase more.
    ran_more : length xs ≡ 16 → Merged lines phase_answers → LanesRan log_of faults_of manifests (phases ++ lines ∷ []) xs zs
    ran_more count merged = record {
      first = is.first;
      last = passed.last;
      long = passed.long ∙ is.long;
      begins = is.begins;
      answered = is.answered ++ merged.answered ∷ [];
      lines = map-append answered_lines is.answered (merged.answered ∷ []) ∙ ap (λ (l : List (List Line)). l ++ answered_lines merged.answered ∷ []) is.lines ∙ ap (λ (l : List Line). phases ++ l ∷ []) merged.lines_are;
      performed = phases_more (lane_frames xs) is.answered merged.answered is.first is.last passed.last is.performed (phase_is count merged);
      each = λ k e lt. subst (λ (z : Lane G). LaneRan log_of faults_of manifests (is.answered ++ merged.answered ∷ []) passed.last k (get_or xs k e) z) (get_or_default zs k d e (omega (arith, passed.long, is.long, count)))
          (subst (λ (x : Lane G). LaneRan log_of faults_of manifests (is.answered ++ merged.answered ∷ []) passed.last k x (get_or zs k d)) (get_or_default xs k d e (omega (arith, count))) (lane_ran merged k lt));
    }

  -- one phase more
  pub phase_more : (manifests : Manifests) (phases : List (List Line)) (lines : List Line) (xs ys zs : List (Lane G)) → length xs ≡ 16 → All IsFit lines → LanesRan log_of faults_of manifests phases xs ys → PassedAll log_of faults_of manifests lines ys zs → LanesRan log_of faults_of manifests (phases ++ lines ∷ []) xs zs
  phase_more manifests phases lines [] ys zs count fit is passed = absurd (cc count)
  phase_more manifests phases lines (x ∷ xs) ys zs count fit is passed =
      let bound : (k : ℕ) → k < 16 → k < length ys = λ k lt. omega (arith, is.long, count) in
      ran_more manifests phases lines (x ∷ xs) ys zs x is passed bound count (merge lines (phase_answers manifests phases lines (x ∷ xs) ys zs x is passed bound) (phase_parts manifests phases lines (x ∷ xs) ys zs x is passed bound fit))

  -- ---- before the first phase

  -- A lane that met the others has run through no phases.
  lane_none : (turn : LockView) (manifests : Manifests) (k : ℕ) (x y : Lane G) (s : List Entry) → IsLaneOf turn k x → Met s x y → LaneRan log_of faults_of manifests [] s k x y
  lane_none turn manifests k x y s of m = record {
    p = m.pass;
    q = seen_up_to s m.pass;
    was = m.was;
    now = m.now;
    caller = ap (λ (p : RealmPass). p.caller) (some_same _ _ (sym m.was ∙ of.there)) ∙ of.caller;
    seen = refl;
    own = m.own;
    keeps = subst (λ (g : G). KeepsPass manifests m.pass (seen_up_to s m.pass) (gates_view log_of faults_of x.gates) (gates_view log_of faults_of g)) (sym m.gates) (keeps_learns manifests m.pass s (gates_view log_of faults_of x.gates) m.grows m.own);
    said = λ kept. ap (λ (q : _). q.items) m.said ∙ sym (append-nil x.work.items);
  }

  -- To run no phase at all, the sixteen lanes have only to meet.
  pub ran_none : (turn : LockView) (manifests : Manifests) (xs ys : List (Lane G)) → AreLanes turn xs → MetAll xs ys → LanesRan log_of faults_of manifests [] xs ys
  ran_none turn manifests xs ys are met =
      let bound : (k : ℕ) → k < 16 → k < length xs = λ k lt. omega (arith, are.count) in
      record {
        first = met.seen;
        last = met.seen;
        long = met.long;
        begins = λ k d lt. (let m = met.each k d (bound k lt) in record { pass = m.pass; there = m.was; goes_on = record { grows = m.grows; own = m.own } });
        answered = [];
        lines = refl;
        performed = ArePhases.none_left;
        each = λ k d lt. lane_none turn manifests k (get_or xs k d) (get_or ys k d) met.seen (are.each k d lt) (met.each k d (bound k lt));
      }

  -- ---- lanes are ready for a phase

  -- Lanes that have met are ready to go on.
  pub ready_met : (turn : LockView) (xs ys : List (Lane G)) → AreLanes turn xs → MetAll xs ys → All (IsReadyLane turn) ys
  ready_met turn xs ys are met k d lt =
      let m = met.each k d (omega (arith, met.long)) in
      let of = are.each k d (omega (arith, met.long, are.count)) in
      record {
        pass = seen_up_to met.seen m.pass;
        there = m.now;
        of_lock = ap (λ (p : RealmPass). p.lock) (some_same _ _ (sym m.was ∙ of.there)) ∙ of.of_lock;
        own = m.own;
      }

  -- Lanes that were ready, and have passed a phase, are ready to go on.
  pub ready_passed : (turn : LockView) (manifests : Manifests) (lines : List Line) (ys zs : List (Lane G)) → All (IsReadyLane turn) ys → PassedAll log_of faults_of manifests lines ys zs → All (IsReadyLane turn) zs
  ready_passed turn manifests lines ys zs ready passed k d lt =
      let w = passed.each k d (omega (arith, passed.long)) in
      let was = ready k d (omega (arith, passed.long)) in
      record {
        pass = w.worked.q;
        there = w.worked.now;
        of_lock = w.worked.performed.keeps.lock ∙ ap (λ (p : RealmPass). p.lock) (some_same _ _ (sym w.worked.was ∙ was.there)) ∙ was.of_lock;
        own = w.own;
      }
