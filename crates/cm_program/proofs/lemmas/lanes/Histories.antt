-- What the lanes made of a script, once the manager is closed.
use Rattle.std.proofs.Common.{◌≡◌, ℕ, ◌<◌, List, [], ◌∷◌, ◌++◌, All, length, get_or, Option, Some, None, sym, ap, subst, ◌∙◌, append-nil, arith}
use Rattle.std.specs.List.{slice_get}
use Rattle.std.proofs.lemmas.List.Elements.{All-weaker}
use Rattle.std.proofs.lemmas.Option.{slice_get_within, slice_get-get_or}
use Rattle.cm_facts.proofs.Lists.{All_slice_get}
use Rattle.cm_turn.specs.History.{StartsWith}
use Rattle.cm_turn.specs.Passes.{LockView, BearsPassOut, HasCaller, new_passes}
use Rattle.cm_world.specs.declared.frame.Frame.{Frame}
use Rattle.cm_world.specs.declared.reply.Entry.{Entry}
use Rattle.cm_world.specs.World.{start}
use Rattle.cm_world.specs.Legal.{Legal}
use Rattle.cm_world.proofs.lemmas.trees.Finding.{some_same}
use Rattle.cm_command.specs.declared.script.Line.{Line}
use Rattle.cm_gate.specs.declared.asked.GateCall.{GateCall}
use Rattle.cm_laws.specs.Story.{Story}
use Rattle.cm_manager.specs.Turns.{own_entries}
use Rattle.cm_manager.specs.Asking.{no_frame, frame_in, frame_of}
use Rattle.cm_manager.specs.Contract.{RealmPass}
use Rattle.cm_manager.specs.Managers.{BearsPassesOut}
use Rattle.cm_manager.specs.Work.{Manifests, WorksWith}
use Rattle.cm_manager.proofs.lemmas.left.Standing.{rest_of_others}
use Rattle.cm_lanes.specs.declared.said.Lanes.{Lanes}
use Rattle.cm_lanes.specs.Script.{AnsweredLine, ArePhases, none_left, one_first}
use Rattle.cm_manager.specs.Kept.{AreSixteen, frame_at, ExtendsPass, KeepsPass, KeepsEach, gates_view}
use Rattle.cm_lanes.specs.Lanes.{RanLanes}
use Rattle.cm_lanes.proofs.lemmas.ends.Ending.{phases_same}
use Rattle.cm_program.specs.Headline.{MakesHistory, WorksEach}
use Rattle.cm_program.proofs.lemmas.lanes.Sixteen.{no_entries, all_prefix, all_behind, pass_of, caller_low, sixteen_new, IsNew, all_new}
use Rattle.cm_turn.proofs.lemmas.Histories.{starts-trans}

-- ---- phases

-- The history that phases of a script leave begins with the one before them.
pub phases_grow : {frames : ℕ → Frame} {answered : List (List AnsweredLine)} {a b : List Entry} → ArePhases frames answered a b → StartsWith b a
phases_grow {a = a} none_left = ([], sym (append-nil a))
phases_grow {a = a} {b = b} (one_first {h₁ = m} phase rest) = starts-trans b m a (phases_grow rest) phase.grows

-- ---- the history

-- Each of sixteen new passes has the frame that was given.
frames_new : (turn : LockView) (f : Frame) (passes : List RealmPass) → passes ≡ new_passes turn.lock f 16 → (c : ℕ) → c < 16 → frame_at passes c ≡ f
frames_new turn f passes is c low =
    let p = pass_of turn passes c (sixteen_new turn f passes is) low in
    let new : All (IsNew f) passes = subst (All (IsNew f)) (sym is) (all_new turn f 16) in
    ap (λ (o : Option RealmPass). elim o as (λ _. Frame) [ None ↦ no_frame | Some q ↦ frame_of q ]) p.1
    ∙ ap frame_in (All_slice_get (IsNew f) passes c p.0 new p.1).frame

module _ {G : Type 0} where
  -- A list has an item at each index below its length.
  pub some_of : (xs : List G) (k : ℕ) → k < length xs → (x : G) × (slice_get xs k ≡ Some x)
  some_of [] k lt = absurd (omega arith)
  some_of (x ∷ xs) k lt = (get_or (x ∷ xs) k x, slice_get-get_or (x ∷ xs) k x lt)

  -- what is kept of a lane
  kept_at : (log_of : G → Option (List GateCall)) (faults_of : G → ℕ) (manifests : Manifests) (old new : List RealmPass) (gates₀ gates₁ : List G) → KeepsEach log_of faults_of manifests old new gates₀ gates₁ → (c : ℕ) (p q : RealmPass) → slice_get old c ≡ Some p → slice_get new c ≡ Some q → c < length gates₀
      → (g : G) × (h : G) × KeepsPass manifests p q (gates_view log_of faults_of g) (gates_view log_of faults_of h)
  kept_at log_of faults_of manifests old new gates₀ gates₁ k c p q at now lt =
      let g = some_of gates₀ c lt in
      let h = some_of gates₁ c (subst (λ (n : ℕ). c < n) (sym k.gates) lt) in
      (g.0, h.0, k.each c p q g.0 h.0 at now g.1 h.1)

module _ {G : Type 0} (log_of : G → Option (List GateCall)) (faults_of : G → ℕ) (manifests : Manifests) (turn : LockView) (f : Frame) (phases : List (List Line)) (passes : List RealmPass) (gates : List G) (back : Lanes G) (history : List Entry)
    (new : passes ≡ new_passes turn.lock f 16) (count : length gates ≡ 16) (are : AreSixteen turn back.passes) (closes : BearsPassesOut history back.passes) where
  -- All entries of the history are of callers below sixteen.
  low : All (λ (e : Entry). e.caller < 16) history
  low = All-weaker (λ (e : Entry). HasCaller back.passes e.caller) (λ (e : Entry). e.caller < 16) (λ e has. caller_low turn back.passes e.caller are has) history closes.callers

  -- what a caller's pass knows of the history
  mine_of : (c : ℕ) (q : RealmPass) → slice_get back.passes c ≡ Some q → q.caller ≡ c → own_entries c history ≡ q.mine
  mine_of c q at is =
      let known = All_slice_get (BearsPassOut (λ (s : Story). s.entries) (λ s. s.frame) (λ (e : Entry). e.caller) closes.story) back.passes c q closes.known at in
      ap (own_entries c) closes.entries ∙ ap (λ (d : ℕ). own_entries d closes.story.entries) (sym is) ∙ known.2

  -- Each pass of a new realm is new with the frame.
  fresh : (c : ℕ) (p : RealmPass) → slice_get passes c ≡ Some p → IsNew f p
  fresh c p at = All_slice_get (IsNew f) passes c p (subst (All (IsNew f)) (sym new) (all_new turn f 16)) at

  -- the history is that of the frame
  legal_by : (q : RealmPass) → slice_get back.passes 0 ≡ Some q → q.frame ≡ Some f → Legal (start f) history
  legal_by q at frame =
      let known = All_slice_get (BearsPassOut (λ (s : Story). s.entries) (λ s. s.frame) (λ (e : Entry). e.caller) closes.story) back.passes 0 q closes.known at in
      subst (λ (g : Frame). Legal (start g) history) (some_same closes.story.frame f (sym known.0 ∙ frame)) closes.legal

  -- The frame that all passes which come back have is the one that was given.
  framed_by : (own : Frame) → All (λ (p : RealmPass). p.frame ≡ Some own) back.passes → (q : RealmPass) → slice_get back.passes 0 ≡ Some q → q.frame ≡ Some f → own ≡ f
  framed_by own framed q at frame = some_same own f (sym (All_slice_get (λ (p : RealmPass). p.frame ≡ Some own) back.passes 0 q framed at) ∙ frame)

  module _ (ran : RanLanes log_of faults_of manifests phases passes gates back) where
    -- the pass of a caller, before and behind, with what is kept of it
    old_of : (c : ℕ) → c < 16 → (p : RealmPass) × (slice_get passes c ≡ Some p) × (p.caller ≡ c)
    old_of c lt = pass_of turn passes c (sixteen_new turn f passes new) lt

    -- Each caller below sixteen has its pass among those that come back.
    new_of : (c : ℕ) → c < 16 → (q : RealmPass) × (slice_get back.passes c ≡ Some q) × (q.caller ≡ c)
    new_of c lt = pass_of turn back.passes c are lt

    -- The pass of each caller keeps what it was, with the gates at its place.
    kept_of : (c : ℕ) → (lt : c < 16) → (g : G) × (h : G) × KeepsPass manifests (old_of c lt).0 (new_of c lt).0 (gates_view log_of faults_of g) (gates_view log_of faults_of h)
    kept_of c lt = kept_at log_of faults_of manifests passes back.passes gates back.gates ran.kept c (old_of c lt).0 (new_of c lt).0 (old_of c lt).1 (new_of c lt).1 (subst (λ (n : ℕ). c < n) (sym count) lt)

    -- a caller's own entries are those that it had seen at the last meeting
    own_last : (c : ℕ) → c < 16 → own_entries c history ≡ own_entries c ran.last
    own_last c lt =
        let q = new_of c lt in
        mine_of c q.0 q.1 q.2 ∙ (kept_of c lt).2.own ∙ ap (λ (d : ℕ). own_entries d q.0.seen) q.2
        ∙ ap (own_entries c) (All_slice_get (λ (q : RealmPass). q.seen ≡ ran.last) back.passes c q.0 ran.met q.1)

    -- The history begins with what all lanes had seen at last.
    grows_last : StartsWith history ran.last
    grows_last =
        let q = new_of 0 (omega arith) in
        let known = All_slice_get (BearsPassOut (λ (s : Story). s.entries) (λ s. s.frame) (λ (e : Entry). e.caller) closes.story) back.passes 0 q.0 closes.known q.1 in
        subst (λ (l : List Entry). StartsWith history l) (All_slice_get (λ (q : RealmPass). q.seen ≡ ran.last) back.passes 0 q.0 ran.met q.1)
        (subst (λ (l : List Entry). StartsWith l q.0.seen) (sym closes.entries) known.1)

    -- so nothing came behind it
    is_last : history ≡ ran.last
    is_last =
        let rest : List Entry = grows_last.0 in
        let none : rest ≡ [] = no_entries 16 rest (all_behind (λ (e : Entry). e.caller < 16) ran.last rest (subst (All (λ (e : Entry). e.caller < 16)) grows_last.1 low))
        (λ c lt. rest_of_others c ran.last history (record { grows = grows_last; own = own_last c lt })) in
        grows_last.1 ∙ ap (λ (l : List Entry). ran.last ++ l) none ∙ append-nil ran.last

    -- and nothing had come before the first phase
    is_first : ran.first ≡ []
    is_first =
        let grown = phases_grow ran.performed in
        let all : history ≡ ran.first ++ grown.0 = is_last ∙ grown.1 in
        no_entries 16 ran.first (all_prefix (λ (e : Entry). e.caller < 16) ran.first grown.0 (subst (All (λ (e : Entry). e.caller < 16)) all low))
        (λ c lt. let p = old_of c lt in
        ap (λ (d : ℕ). own_entries d ran.first) (sym p.2) ∙ (All_slice_get (ExtendsPass ran.first) passes c p.0 ran.begins p.1).own ∙ (fresh c p.0 p.1).mine)

    -- The phases were performed, with these answers, and made the history.
    pub makes_by : MakesHistory f phases ran.answered history
    makes_by = record {
      lines = ran.lines;
      legal = (let q = new_of 0 (omega arith) in legal_by q.0 q.1 ((kept_of 0 (omega arith)).2.frame ∙ (fresh 0 (old_of 0 (omega arith)).0 (old_of 0 (omega arith)).1).frame));
      performed = subst (λ (l : List Entry). ArePhases (λ c. f) ran.answered [] l) (sym is_last)
          (subst (λ (l : List Entry). ArePhases (λ c. f) ran.answered l ran.last) is_first
          (phases_same (frame_at passes) (λ c. f) ran.answered ran.first ran.last (frames_new turn f passes new) ran.performed));
      callers = low;
    }

    -- the frame of a realm that has that of each pass
    pub frame_by : (own : Frame) → All (λ (p : RealmPass). p.frame ≡ Some own) back.passes → own ≡ f
    frame_by own framed =
        let q = new_of 0 (omega arith) in
        framed_by own framed q.0 q.1 ((kept_of 0 (omega arith)).2.frame ∙ (fresh 0 (old_of 0 (omega arith)).0 (old_of 0 (omega arith)).1).frame)

    -- The part of entries behind a pass that had none of its own is all that it has.
    part_of : (p q : RealmPass) (part : List Entry) → q.mine ≡ p.mine ++ part → p.mine ≡ [] → part ≡ q.mine
    part_of p q part grown none = sym (grown ∙ ap (λ (l : List Entry). l ++ part) none)

    -- Each gate did the work of its own caller's entries.
    pub works_by : WorksEach log_of faults_of manifests history gates back.gates
    works_by k g h at now =
        let lt : k < 16 = subst (λ (n : ℕ). k < n) count (slice_get_within gates k g at) in
        let p = old_of k lt in
        let q = new_of k lt in
        let kept = ran.kept.each k p.0 q.0 g h p.1 q.1 at now in
        subst (λ (part : List Entry). WorksWith manifests part (log_of g) (log_of h) (faults_of g) (faults_of h))
        (part_of p.0 q.0 kept.part kept.mine (fresh k p.0 p.1).mine ∙ sym (mine_of k q.0 q.1 q.2)) kept.work

  module _ (same : back.passes ≡ passes) where
    -- Where nothing was done, no entry of the history is a caller's own.
    own_none : (c : ℕ) → c < 16 → own_entries c history ≡ []
    own_none c lt =
        let q = pass_of turn back.passes c are lt in
        mine_of c q.0 q.1 q.2 ∙ (fresh c q.0 (ap (λ (l : List RealmPass). slice_get l c) (sym same) ∙ q.1)).mine

    -- where nothing was done, nothing happened
    pub nothing_happened : history ≡ []
    nothing_happened = no_entries 16 history low own_none

    -- Where nothing was done, the history is legal, as it is empty.
    pub legal_nothing : Legal (start f) history
    legal_nothing =
        let q = pass_of turn back.passes 0 are (omega arith) in
        legal_by q.0 q.1 (fresh 0 q.0 (ap (λ (l : List RealmPass). slice_get l 0) (sym same) ∙ q.1)).frame

    -- Where nothing was done, the frame that all passes have is the one that was given.
    pub frame_same : (own : Frame) → All (λ (p : RealmPass). p.frame ≡ Some own) back.passes → own ≡ f
    frame_same own framed =
        let q = pass_of turn back.passes 0 are (omega arith) in
        framed_by own framed q.0 q.1 (fresh 0 q.0 (ap (λ (l : List RealmPass). slice_get l 0) (sym same) ∙ q.1)).frame
