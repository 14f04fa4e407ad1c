-- What came of the sessions of all links, once the manager is closed.
use Rattle.std.proofs.Common.{◌≡◌, ◌≢◌, inl, inr, ℕ, zero, suc, ◌+◌, ◌<◌, List, [], ◌∷◌, ◌++◌, All, map, length, get_or, Option, Some, refl, sym, ap, ◌∙◌, subst, arith, zero-add}
use Rattle.std.specs.List.{slice_get}
use Rattle.std.proofs.lemmas.List.Elements.{All-append, All-cons, All-nil, All-weaker}
use Rattle.std.proofs.lemmas.Option.{slice_get_within}
use Rattle.cm_facts.proofs.Lists.{slice_get_some, All_slice_get}
use Rattle.cm_turn.specs.History.{StartsWith}
use Rattle.cm_turn.specs.Passes.{LockView, HasCaller, BearsPassOut, new_pass, new_passes}
use Rattle.cm_world.specs.declared.frame.Frame.{Frame}
use Rattle.cm_world.specs.declared.reply.Entry.{Entry}
use Rattle.cm_world.specs.World.{start}
use Rattle.cm_world.specs.Legal.{Legal}
use Rattle.cm_world.proofs.lemmas.trees.Finding.{some_same}
use Rattle.cm_gate.specs.declared.asked.GateCall.{GateCall}
use Rattle.cm_laws.specs.Story.{Story}
use Rattle.cm_manager.specs.Asking.{frame_in}
use Rattle.cm_manager.specs.Closed.{HasEnds}
use Rattle.cm_manager.specs.Contract.{RealmPass}
use Rattle.cm_manager.specs.Gated.{gates_view}
use Rattle.cm_manager.specs.Kept.{AreSixteen, IsOwnPass, KeepsPass, KeepsEach}
use Rattle.cm_manager.specs.Managers.{BearsPassesOut}
use Rattle.cm_manager.specs.Turns.{IsLaterHistory, own_entries}
use Rattle.cm_manager.specs.Work.{Manifests, WorksWith}
use Rattle.cm_session.specs.declared.ended.Ended.TheVariants as ended
use Rattle.cm_session.specs.declared.served.Back.{Back}
use Rattle.cm_session.specs.declared.served.Cause.{Cause}
use Rattle.cm_session.specs.declared.served.Cause.TheVariants as cause
use Rattle.cm_session.specs.declared.served.Served.{Served}
use Rattle.cm_session.specs.Links.{LinkView}
use Rattle.cm_session.specs.Serving.{IsOfLink, IsUnserved, ServesAll, ServedOrNot, ServedLink, back_view, worker_by_worker}
use Rattle.cm_program.specs.Headline.{EndsWell, WorksEach}
use Rattle.cm_program.specs.Sessions.{FollowsEach, RunsSessions, sats_by, status_of}
use Rattle.cm_program.proofs.lemmas.whole.Nothing.{ends_well, nothing_ends, nothing_legal, works_nothing}
use Rattle.cm_program.proofs.lemmas.links.SessionWorkers.{Joined, Visited, in_order, joined, low_workers, visited}
use Rattle.cm_program.proofs.lemmas.lanes.Sixteen.{IsNew, all_new, caller_low, pass_of, sixteen_new}

-- ---- new passes

-- No new pass of a lock has seen an entry.
pub all_unseen : (turn : LockView) (f : Frame) (n : ℕ) → All (λ (p : RealmPass). p.seen ≡ []) (new_passes turn.lock f n)
all_unseen turn f zero = All-nil (λ (p : RealmPass). p.seen ≡ [])
all_unseen turn f (suc n) = All-append (λ (p : RealmPass). p.seen ≡ []) (new_passes turn.lock f n) (new_pass turn.lock f n ∷ []) (all_unseen turn f n)
    (All-cons (λ (p : RealmPass). p.seen ≡ []) (new_pass turn.lock f n) [] refl (All-nil (λ (p : RealmPass). p.seen ≡ [])))

module _ (turn : LockView) (f : Frame) (passes : List RealmPass) (new : passes ≡ new_passes turn.lock f 16) where
  -- The passes of a new realm have seen nothing.
  unseen : All (λ (p : RealmPass). p.seen ≡ []) passes
  unseen = subst (All (λ (p : RealmPass). p.seen ≡ [])) (sym new) (all_unseen turn f 16)

  -- The passes of a new realm have its frame, and no entries of their own.
  fresh : All (IsNew f) passes
  fresh = subst (All (IsNew f)) (sym new) (all_new turn f 16)

  -- they have their own entries, which are none
  pub own_passes : All IsOwnPass passes
  own_passes = λ k p lt. ap (own_entries (get_or passes k p).caller) (unseen k p lt) ∙ sym (fresh k p lt).mine

  -- and leave no action without its end
  pub ended_passes : All (λ (p : RealmPass). HasEnds p.mine) passes
  ended_passes = λ k p lt. nothing_ends (get_or passes k p).mine (fresh k p lt).mine

-- ---- where no link came

module _ {G L : Type 0} (log_of : G → Option (List GateCall)) (faults_of : G → ℕ) (view : L → LinkView) where
  -- Where no link came, the history is empty and the gates are as they were, no session was served.
  pub runs_no_session : (f : Frame) (manifests : Manifests) (workers : ℕ) (gates₀ gates₁ : List G) (history : List Entry) (links : List (Back LinkView)) (status : ℕ) → history ≡ [] → gates₁ ≡ gates₀ → links ≡ [] → RunsSessions log_of faults_of view f manifests workers gates₀ gates₁ history links status
  runs_no_session f manifests workers gates₀ gates₁ history links status none same no_links =
      let legal = subst (Legal (start f)) (sym none) (nothing_legal f) in
      subst (λ (bs : List (Back LinkView)). RunsSessions log_of faults_of view f manifests workers gates₀ gates₁ history bs status) (sym no_links)
      (record {
        sats = [];
        each = tt;
        workers_are = All-nil (λ (b : Back LinkView). b.worker < workers);
        order = tt;
        legal = legal;
        entries = λ k lt. FollowsEach.none_left (subst (IsLaterHistory k []) (sym none) (record { grows = ([], refl); own = refl }));
        callers = subst (All (λ (e : Entry). e.caller < 16)) (sym none) (All-nil (λ (e : Entry). e.caller < 16));
        laws = ends_well f history legal (nothing_ends history none);
        work = works_nothing log_of faults_of manifests history gates₀ gates₁ none same;
      })

-- ---- the closed manager

-- A cause whose status isn't that of a lack of memory isn't a lack of memory.
not_memory : (why : Cause) → status_of why ≢ 6 → why ≢ cause.Memory
not_memory why other is = other (ap status_of is)

module _ {D G L : Type 0} (log_of : G → Option (List GateCall)) (faults_of : G → ℕ) (view : L → LinkView) (manifests : Manifests) (turn : LockView) (f : Frame) (workers : ℕ) (passes : List RealmPass) (gates : List G) (back : Served D L G) (history : List Entry)
    (new : passes ≡ new_passes turn.lock f 16) (count : length gates ≡ 16) (are : AreSixteen turn back.passes) (kept : KeepsEach log_of faults_of manifests passes back.passes gates back.gates) (closes : BearsPassesOut history back.passes) (ends : HasEnds history) where
  -- The story of the closed realm bears out the pass.
  abbrev known_by : RealmPass → Type 0
  known_by q = BearsPassOut (λ (s : Story). s.entries) (λ s. s.frame) (λ (e : Entry). e.caller) closes.story q

  -- All entries of the history are of callers below sixteen.
  low : All (λ (e : Entry). e.caller < 16) history
  low = All-weaker (λ (e : Entry). HasCaller back.passes e.caller) (λ (e : Entry). e.caller < 16) (λ e has. caller_low turn back.passes e.caller are has) history closes.callers

  -- a caller's pass and gates, as they were and as they came back
  record Both (c : ℕ) : Type 0 where
    p : RealmPass
    q : RealmPass
    g : G
    h : G
    p_at : slice_get passes c ≡ Some p
    q_at : slice_get back.passes c ≡ Some q
    g_at : slice_get gates c ≡ Some g
    h_at : slice_get back.gates c ≡ Some h
    p_caller : p.caller ≡ c
    q_caller : q.caller ≡ c
    fresh_pass : IsNew f p
    no_seen : p.seen ≡ []
    known : known_by q
    keeps : KeepsPass manifests p q (gates_view log_of faults_of g) (gates_view log_of faults_of h)

  -- Each caller below sixteen has its pass and gates, as they were and as they came back.
  both : (c : ℕ) → c < 16 → Both c
  both c lt =
      let old = pass_of turn passes c (sixteen_new turn f passes new) lt in
      let now = pass_of turn back.passes c are lt in
      let g = slice_get_some gates c (subst (λ (n : ℕ). c < n) (sym count) lt) in
      let h = slice_get_some back.gates c (subst (λ (n : ℕ). c < n) (sym (kept.gates ∙ count)) lt) in
      record {
        p = old.0;
        q = now.0;
        g = g.0;
        h = h.0;
        p_at = old.1;
        q_at = now.1;
        g_at = g.1;
        h_at = h.1;
        p_caller = old.2;
        q_caller = now.2;
        fresh_pass = All_slice_get (IsNew f) passes c old.0 (fresh turn f passes new) old.1;
        no_seen = All_slice_get (λ (p : RealmPass). p.seen ≡ []) passes c old.0 (unseen turn f passes new) old.1;
        known = All_slice_get known_by back.passes c now.0 closes.known now.1;
        keeps = kept.each c old.0 now.0 g.0 h.0 old.1 now.1 g.1 h.1;
      }

  -- A caller's own entries of the history are those that its pass that came back has.
  mine_of : (c : ℕ) (b : Both c) → own_entries c history ≡ b.q.mine
  mine_of c b = ap (own_entries c) closes.entries ∙ ap (λ (d : ℕ). own_entries d closes.story.entries) (sym b.q_caller) ∙ b.known.2

  -- what came behind what a caller's pass has seen
  later : (c : ℕ) (b : Both c) → IsLaterHistory c b.q.seen history
  later c b = record {
    grows = subst (λ (l : List Entry). StartsWith l b.q.seen) (sym closes.entries) b.known.1;
    own = mine_of c b ∙ b.keeps.own ∙ ap (λ (d : ℕ). own_entries d b.q.seen) b.q_caller;
  }

  -- The frame of the closed manager's story is the one that was given.
  frame_is : closes.story.frame ≡ f
  frame_is = (let b = both 0 (omega arith) in some_same closes.story.frame f (sym b.known.0 ∙ b.keeps.frame ∙ b.fresh_pass.frame))

  -- The history is legal from the frame that was given.
  legal : Legal (start f) history
  legal = subst (λ (x : Frame). Legal (start x) history) frame_is closes.legal

  -- The part of the history that a caller added is its own entries of it.
  part_of : (c : ℕ) (b : Both c) → b.keeps.part ≡ own_entries c history
  part_of c b = sym (b.keeps.mine ∙ ap (λ (l : List Entry). l ++ b.keeps.part) b.fresh_pass.mine) ∙ sym (mine_of c b)

  -- The gates of a caller did the work of its own entries of the history.
  work_at : (c : ℕ) (b : Both c) → WorksWith manifests (own_entries c history) (log_of b.g) (log_of b.h) (faults_of b.g) (faults_of b.h)
  work_at c b = subst (λ (part : List Entry). WorksWith manifests part (log_of b.g) (log_of b.h) (faults_of b.g) (faults_of b.h)) (part_of c b) b.keeps.work

  -- Each gate did the work of its own caller's entries.
  work : WorksEach log_of faults_of manifests history gates back.gates
  work k g h at now =
      let b = both k (subst (λ (n : ℕ). k < n) count (slice_get_within gates k g at)) in
      subst (λ (x : G). WorksWith manifests (own_entries k history) (log_of g) (log_of x) (faults_of g) (faults_of x)) (some_same b.h h (sym b.h_at ∙ now))
      (subst (λ (x : G). WorksWith manifests (own_entries k history) (log_of x) (log_of b.h) (faults_of x) (faults_of b.h)) (some_same b.g g (sym b.g_at ∙ at)) (work_at k b))

  -- The history keeps all laws, and each action that was begun has its end.
  laws : EndsWell f history
  laws = ends_well f history legal ends

  -- ---- where links were served

  module _ (all : ServesAll log_of faults_of view manifests workers passes gates back) where
    -- The status that the cause of the end has.
    abbrev status : ℕ
    status = status_of back.cause

    -- The visits of a worker follow one another in the history, by what came of each link.
    visited_by : (i : ℕ) (vs : List ServedLink) → slice_get all.visits i ≡ Some vs → Both i → Visited view status history f (0 + i) vs []
    visited_by i vs at b =
        let came = All_slice_get (All (λ (v : ServedLink). IsOfLink view v.was)) all.visits i vs all.came at in
        let serves = all.each i vs b.p b.q b.g b.h at b.p_at b.q_at b.g_at b.h_at in
        let is = visited view status history manifests vs b.p b.q (gates_view log_of faults_of b.g) (gates_view log_of faults_of b.h) serves came
        (λ other. All_slice_get (All (λ (v : ServedLink). v.ended ≢ ended.Memory)) all.visits i vs (all.well (not_memory back.cause other)) at)
        (subst (λ (c : ℕ). IsLaterHistory c b.q.seen history) (sym b.p_caller) (later i b)) in
        let caller : b.p.caller ≡ 0 + i = b.p_caller ∙ sym (zero-add i) in
        subst (λ (l : List Entry). Visited view status history f (0 + i) vs l) b.no_seen
        (subst (λ (c : ℕ). Visited view status history f c vs b.p.seen) caller
        (subst (λ (x : Frame). Visited view status history x b.p.caller vs b.p.seen) (ap frame_in b.fresh_pass.frame) is))

    -- The visits of all workers, joined together, follow one another in the history.
    all_joined : Joined view status history f 0 all.visits
    all_joined = joined view status history f 0 all.visits
        (λ i vs at. visited_by i vs at (both i (subst (λ (n : ℕ). i < n) all.count (slice_get_within all.visits i vs at))))

    -- All links were served as sessions, with their gates and the history, where links were served.
    runs_all : RunsSessions log_of faults_of view f manifests workers gates back.gates history (map (back_view view) back.links) status
    runs_all =
        subst (λ (bs : List (Back LinkView)). RunsSessions log_of faults_of view f manifests workers gates back.gates history bs status) (sym all.links)
        (record {
          sats = all_joined.sats;
          each = all_joined.each;
          workers_are = low_workers workers 0 all.visits (λ i vs past at. all.idle i vs (omega (arith, past)) at);
          order = in_order 0 0 all.visits (omega arith);
          legal = legal;
          entries = λ k lt. subst (λ (n : ℕ). FollowsEach f n (sats_by n (worker_by_worker 0 all.visits) all_joined.sats) [] history) (zero-add k) (all_joined.entries k (subst (λ (n : ℕ). k < n) (sym all.count) lt));
          callers = low;
          laws = laws;
          work = work;
        })

  -- ---- where nothing was done

  module _ (door : D) (un : IsUnserved passes gates door back) where
    -- Where nothing was done, no entry of the history is a caller's own.
    none_own : (c : ℕ) (b : Both c) → own_entries c history ≡ []
    none_own c b = mine_of c b ∙ (All_slice_get (IsNew f) passes c b.q (fresh turn f passes new) (ap (λ (l : List RealmPass). slice_get l c) (sym un.same_passes) ∙ b.q_at)).mine

    -- Where nothing was done, no session ran, and the gates and the history tell of none.
    runs_unserved : RunsSessions log_of faults_of view f manifests workers gates back.gates history (map (back_view view) back.links) (status_of back.cause)
    runs_unserved =
        subst (λ (bs : List (Back LinkView)). RunsSessions log_of faults_of view f manifests workers gates back.gates history bs (status_of back.cause)) (sym (ap (map (back_view view)) un.no_links))
        (record {
          sats = [];
          each = tt;
          workers_are = All-nil (λ (b : Back LinkView). b.worker < workers);
          order = tt;
          legal = legal;
          entries = λ k lt. FollowsEach.none_left (record { grows = (history, refl); own = none_own k (both k lt) });
          callers = low;
          laws = laws;
          work = work;
        })

  -- What came of a door's links, served or not for lack of memory, is sessions of the run.
  pub attended : (door : D) → ServedOrNot log_of faults_of view manifests workers passes gates door back → RunsSessions log_of faults_of view f manifests workers gates back.gates history (map (back_view view) back.links) (status_of back.cause)
  attended door (inl all) = runs_all all
  attended door (inr un) = runs_unserved door un
