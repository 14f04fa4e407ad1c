-- From lanes to passes and gates, and back.
use Rattle.std.proofs.Common.{suc, ◌≡◌, ℕ, ◌+◌, ◌<◌, List, [], ◌∷◌, ◌++◌, All, map, flat_map, length, get_or, Bool, true, false, Option, Some, None, IfSome, inl, inr, refl, sym, ap, ◌∙◌, subst, arith}
use Rattle.std.specs.List.{range_with_len, slice_get}
use Rattle.std.proofs.lemmas.List.{length-map, get_or-map}
use Rattle.std.proofs.lemmas.List.FromFn.{get_or-range_with_len, length-range_with_len}
use Rattle.std.proofs.lemmas.Option.{slice_get-get_or, slice_get_within, get_or_from_slice_get}
use Rattle.cm_facts.proofs.Lists.{length_by_map, slice_get_some}
use Rattle.cm_turn.specs.Passes.{LockView}
use Rattle.cm_world.specs.declared.frame.Frame.{Frame}
use Rattle.cm_world.specs.declared.reply.Entry.{Entry}
use Rattle.cm_world.proofs.lemmas.trees.Finding.{some_same}
use Rattle.cm_command.specs.declared.script.Line.{Line}
use Rattle.cm_gate.specs.declared.asked.GateCall.{GateCall}
use Rattle.cm_manager.specs.Asking.{no_frame, frame_of}
use Rattle.cm_manager.specs.Work.{Manifests}
use Rattle.cm_manager.specs.Contract.{RealmPass, GatesView}
use Rattle.cm_manager.specs.Closed.{HasEnds}
use Rattle.cm_manager.specs.Desks.{AreDeskParts, AreDesksOf, DeskLists, HasPassIn}
use Rattle.cm_manager.proofs.lemmas.left.HavingEnds.{grown_has_ends}
use Rattle.cm_lanes.specs.Lane.{Lane, Queue}
use Rattle.cm_lanes.specs.declared.said.Said.{Said}
use Rattle.cm_lanes.specs.declared.said.Lanes.{Lanes}
use Rattle.cm_lanes.specs.Script.{AnsweredLine, answers_of, PerformsLines, IsPhase, ArePhases, none_left, one_first}
use Rattle.cm_lanes.specs.ScriptInside.{said_of}
use Rattle.cm_manager.specs.Kept.{AreSixteen, ExtendsPass, KeepsPass, KeepsEach, frame_at, gates_view}
use Rattle.cm_lanes.specs.Lanes.{RanLanes, RanOrNot}
use Rattle.cm_lanes.specs.Phases.{told_to, AreLanes, lane_frames, frame_in_lane, LanesRan}
use Rattle.cm_manager.proofs.lemmas.calling.Sixteen.{sixteen_long}

-- A phase over frames is one over other frames, where both agree for sixteen lanes.
phase_same : (f g : ℕ → Frame) (a : List AnsweredLine) (h₀ h₁ : List Entry) → ((c : ℕ) → c < 16 → f c ≡ g c) → IsPhase f a h₀ h₁ → IsPhase g a h₀ h₁
phase_same f g a h₀ h₁ same is = record { grows = is.grows; lanes = λ c lt. subst (λ (x : Frame). PerformsLines x c (answers_of c a) h₀ h₁) (same c lt) (is.lanes c lt) }

-- Phases with the frames of sixteen lanes are phases with frames that are the same for these lanes.
pub phases_same : (f g : ℕ → Frame) (all : List (List AnsweredLine)) (h₀ h₁ : List Entry) → ((c : ℕ) → c < 16 → f c ≡ g c) → ArePhases f all h₀ h₁ → ArePhases g all h₀ h₁
phases_same f g [] h₀ h₁ same none_left = ArePhases.none_left
phases_same f g (a ∷ rest_of) h₀ h₁ same (one_first {h₁ = h} first rest) = ArePhases.one_first (phase_same f g a h₀ h same first) (phases_same f g rest_of h h₁ same rest)

-- what stands at a place of a list of which another is made
at_map : {A B : Type 0} (f : A → B) (xs : List A) (ys : List B) (k : ℕ) (d : A) (e : B) → map f xs ≡ ys → k < length xs → f (get_or xs k d) ≡ get_or ys k e
at_map f xs ys k d e is lt = sym (get_or-map f xs k d e lt) ∙ ap (λ (l : List _). get_or l k e) is

-- one of the lanes
pub some_lane : {G : Type 0} (lanes : List (Lane G)) → length lanes ≡ 16 → Lane G
some_lane [] e = absurd (cc e)
some_lane (l ∷ ls) e = l

module _ {G : Type 0} where
  -- the pass of the lane at a place
  pass_at : (lanes : List (Lane G)) (passes : List RealmPass) (k : ℕ) (e : Lane G) (d : RealmPass) → map (λ l. l.pass) lanes ≡ map Some passes → k < length passes → (get_or lanes k e).pass ≡ Some (get_or passes k d)
  pass_at lanes passes k e d is lt =
      let long = length_by_map (λ (l : Lane G). l.pass) Some lanes passes is in
      at_map (λ (l : Lane G). l.pass) lanes (map Some passes) k e (Some d) is (omega (arith, long)) ∙ get_or-map Some passes k d (Some d) lt

  -- the lanes that are made of the sixteen passes
  pub are_lanes : (turn : LockView) (lanes : List (Lane G)) (passes : List RealmPass) → AreSixteen turn passes → map (λ l. l.pass) lanes ≡ map Some passes → AreLanes turn lanes
  are_lanes turn lanes [] is made = absurd (cc (ap (λ (l : List ℕ). length l) is.callers))
  are_lanes turn lanes (p ∷ ps) is made = record {
    count = long ∙ count;
    each = λ k e lt. record {
      pass = get_or (p ∷ ps) k p;
      there = pass_at lanes (p ∷ ps) k e p made (omega (arith, count));
      of_lock = is.lock k p (omega (arith, count));
      caller = at_map (λ (p : RealmPass). p.caller) (p ∷ ps) (range_with_len 0 16) k p 0 is.callers (omega (arith, count)) ∙ get_or-range_with_len 0 16 k 0 lt ∙ none_more k;
    };
  } where
    long : length lanes ≡ length (p ∷ ps)
    long = length_by_map (λ (l : Lane G). l.pass) Some lanes (p ∷ ps) made

    count : length (p ∷ ps) ≡ 16
    count = sym (length-map (p ∷ ps) (λ (p : RealmPass). p.caller)) ∙ ap (λ (l : List ℕ). length l) is.callers ∙ length-range_with_len 0 16

    none_more : (k : ℕ) → 0 + k ≡ k
    none_more k = grind arith

module _ {G : Type 0} (log_of : G → Option (List GateCall)) (faults_of : G → ℕ) (manifests : Manifests) (phases : List (List Line)) (xs ys : List (Lane G)) (is : LanesRan log_of faults_of manifests phases xs ys) where
  -- each lane has its pass back
  pub have_passes : length xs ≡ 16 → All HasPassIn ys
  have_passes count k d lt = (let r = is.each k d (omega (arith, is.long, count)) in record { pass = r.q; there = r.now })

  -- what each lane was told, where nothing was lost
  pub told_each : (passes : List RealmPass) (gates : List G) (queues : List Queue) (parts : DeskLists G Queue) → length xs ≡ 16 → AreDesksOf passes gates queues xs → All (λ (q : Queue). q.items ≡ []) queues → AreDeskParts ys parts → parts.lost ≡ false → (k : ℕ) (q : Queue) → k < 16 → (get_or parts.works.items k q).items ≡ told_to k is.answered
  told_each passes gates queues parts count made new are kept k q lt = said_at (some_lane ys (is.long ∙ count)) where
    said_at : Lane G → (get_or parts.works.items k q).items ≡ told_to k is.answered
    said_at d =
        let r = is.each k d lt in
        let was : (get_or xs k d).work ≡ get_or queues k q = at_map (λ (l : Lane G). l.work) xs queues k d q made.works_are (omega (arith, count, lt)) in
        let many : length queues ≡ length xs = sym (ap (λ (l : List Queue). length l) made.works_are) ∙ length-map xs (λ (l : Lane G). l.work) in
        let here : (get_or ys k d).work ≡ get_or parts.works.items k q = at_map (λ (l : Lane G). l.work) ys parts.works.items k d q (sym are.works) (omega (arith, is.long, count, lt)) in
        sym (ap (λ (q : Queue). q.items) here) ∙ r.said (are.well kept k d (omega (arith, is.long, count, lt))) ∙ ap (λ (l : List Said). l ++ told_to k is.answered) (ap (λ (q : Queue). q.items) was ∙ new k q (omega (arith, many, count, lt)))

  -- the frames of the lanes are those of the passes
  frames_same : (passes : List RealmPass) → length xs ≡ 16 → map (λ l. l.pass) xs ≡ map Some passes → (c : ℕ) → c < 16 → lane_frames xs c ≡ frame_at passes c
  frames_same [] count made c lt = absurd (cc (sym count ∙ length_by_map (λ (l : Lane G). l.pass) Some xs [] made))
  frames_same (p ∷ ps) count made c lt =
      let long = length_by_map (λ (l : Lane G). l.pass) Some xs (p ∷ ps) made in
      let b = is.begins in
      frame_here xs c p (some_lane xs count) (omega (arith, count)) (pass_at xs (p ∷ ps) c (some_lane xs count) p made (omega (arith, count, long)))
      ∙ ap (λ (o : Option RealmPass). elim o as (λ _. Frame) [ None ↦ no_frame | Some p ↦ frame_of p ]) (sym (slice_get-get_or (p ∷ ps) c p (omega (arith, count, long)))) where
        frame_here : (ls : List (Lane G)) (c : ℕ) (d : RealmPass) (e : Lane G) → c < length ls → (get_or ls c e).pass ≡ Some (get_or (p ∷ ps) c d) → lane_frames ls c ≡ frame_of (get_or (p ∷ ps) c d)
        frame_here ls c d e lt there = ap frame_in_lane (slice_get-get_or ls c e lt) ∙ ap (λ (o : Option RealmPass). elim o as (λ _. Frame) [ None ↦ no_frame | Some p ↦ frame_of p ]) there

  -- the histories that the passes go on to
  begin_all : (passes : List RealmPass) → length xs ≡ 16 → map (λ l. l.pass) xs ≡ map Some passes → Lane G → All (ExtendsPass is.first) passes
  begin_all passes count made e k d lt =
      let long = length_by_map (λ (l : Lane G). l.pass) Some xs passes made in
      let b = is.begins k e (omega (arith, count, long)) in
      subst (ExtendsPass is.first) (some_same _ _ (sym b.there ∙ pass_at xs passes k e d made lt)) b.goes_on

  -- All passes that come back have seen the last history, where the lanes were sixteen.
  met_all : (passes : List RealmPass) → length xs ≡ 16 → map (λ l. l.pass) ys ≡ map Some passes → Lane G → All (λ (q : RealmPass). q.seen ≡ is.last) passes
  met_all passes count made e k d lt =
      let long = length_by_map (λ (l : Lane G). l.pass) Some ys passes made in
      let r = is.each k e (omega (arith, count, is.long, long)) in
      ap (λ (q : RealmPass). q.seen) (some_same _ _ (sym (pass_at ys passes k e d made lt) ∙ r.now)) ∙ r.seen

  -- the lane's pass and gates as they stand in lists
  kept_at : (old new : List RealmPass) (gates₀ gates₁ : List G) (e : Lane G) (k : ℕ) (p q : RealmPass) (g h : G) → length xs ≡ 16 → map (λ l. l.pass) xs ≡ map Some old → map (λ l. l.pass) ys ≡ map Some new → map (λ l. l.gates) xs ≡ gates₀ → map (λ l. l.gates) ys ≡ gates₁ → slice_get old k ≡ Some p → slice_get new k ≡ Some q → slice_get gates₀ k ≡ Some g → slice_get gates₁ k ≡ Some h → KeepsPass manifests p q (gates_view log_of faults_of g) (gates_view log_of faults_of h)
  kept_at old new gates₀ gates₁ e k p q g h count made back gates_made gates_back p_is q_is g_is h_is =
      let long = length_by_map (λ (l : Lane G). l.pass) Some xs old made in
      let lt : k < length old = slice_get_within old k p p_is in
      let lt_new : k < length new = slice_get_within new k q q_is in
      let r = is.each k e (omega (arith, count, long, lt)) in
      let p_same : r.p ≡ p = some_same _ _ (sym r.was ∙ pass_at xs old k e p made lt) ∙ get_or_from_slice_get old k p p p_is in
      let q_same : r.q ≡ q = some_same _ _ (sym r.now ∙ pass_at ys new k e q back lt_new) ∙ get_or_from_slice_get new k q q q_is in
      let g_same : (get_or xs k e).gates ≡ g = at_map (λ (l : Lane G). l.gates) xs gates₀ k e g gates_made (omega (arith, long, lt)) ∙ get_or_from_slice_get gates₀ k g g g_is in
      let h_same : (get_or ys k e).gates ≡ h = at_map (λ (l : Lane G). l.gates) ys gates₁ k e h gates_back (omega (arith, is.long, long, lt)) ∙ get_or_from_slice_get gates₁ k h h h_is in
      subst (λ (h : G). KeepsPass manifests p q (gates_view log_of faults_of g) (gates_view log_of faults_of h)) h_same
      (subst (λ (g : G). KeepsPass manifests p q (gates_view log_of faults_of g) (gates_view log_of faults_of (get_or ys k e).gates)) g_same
      (subst (λ (q : RealmPass). KeepsPass manifests p q (gates_view log_of faults_of (get_or xs k e).gates) (gates_view log_of faults_of (get_or ys k e).gates)) q_same
      (subst (λ (p : RealmPass). KeepsPass manifests p r.q (gates_view log_of faults_of (get_or xs k e).gates) (gates_view log_of faults_of (get_or ys k e).gates)) p_same r.keeps)))

  -- what comes back
  pub ran_by : (passes : List RealmPass) (gates : List G) (back : Lanes G) → length xs ≡ 16 → map (λ l. l.pass) xs ≡ map Some passes → map (λ l. l.gates) xs ≡ gates → map (λ l. l.pass) ys ≡ map Some back.passes → map (λ l. l.gates) ys ≡ back.gates → IfSome back.said (λ said. said ≡ flat_map (λ p. map said_of p) is.answered) → Lane G → RanLanes log_of faults_of manifests phases passes gates back
  ran_by passes gates back count made gates_made back_made back_gates said e = record {
    first = is.first;
    last = is.last;
    begins = begin_all passes count made e;
    answered = is.answered;
    lines = is.lines;
    performed = phases_same (lane_frames xs) (frame_at passes) is.answered is.first is.last (frames_same passes count made) is.performed;
    met = met_all back.passes count back_made e;
    kept = record {
      passes = sym (length_by_map (λ (l : Lane G). l.pass) Some ys back.passes back_made) ∙ is.long ∙ length_by_map (λ (l : Lane G). l.pass) Some xs passes made;
      gates = sym (ap (λ (l : List G). length l) back_gates) ∙ length-map ys (λ (l : Lane G). l.gates) ∙ is.long ∙ sym (length-map xs (λ (l : Lane G). l.gates)) ∙ ap (λ (l : List G). length l) gates_made;
      each = λ k p q g h p_is q_is g_is h_is. kept_at passes back.passes gates back.gates e k p q g h count made back_made gates_made back_gates p_is q_is g_is h_is;
    };
    said = said;
  }

-- what is said, whether something was lost or not
pub said_either : (lost : Bool) (said : Option (List Said)) (all : List Said) → (lost ≡ true → said ≡ None) → (lost ≡ false → IfSome said (λ s. s ≡ all)) → IfSome said (λ s. s ≡ all)
said_either true said all gone there = subst (λ (o : Option (List Said)). IfSome o (λ s. s ≡ all)) (sym (gone refl)) tt
said_either false said all gone there = there refl

-- ---- what else holds of the passes that come back

-- Lists of the same length that give the same at each place map to the same.
map_same : {A B : Type 0} (f : A → B) (xs ys : List A) → length ys ≡ length xs → ((k : ℕ) (d : A) → k < length xs → f (get_or ys k d) ≡ f (get_or xs k d)) → map f ys ≡ map f xs
map_same f [] [] long same = refl
map_same f [] (y ∷ ys) long same = absurd (cc long)
map_same f (x ∷ xs) [] long same = absurd (cc long)
map_same f (x ∷ xs) (y ∷ ys) long same =
    let here = same 0 x (grind arith) in
    let rest = map_same f xs ys (cc long) (λ k d lt. same (suc k) d (grind (arith, lt))) in
    cc (here, rest)

module _ {G : Type 0} (log_of : G → Option (List GateCall)) (faults_of : G → ℕ) (manifests : Manifests) (old new : List RealmPass) (gates₀ gates₁ : List G) where
  -- one pass with the gates at its place
  record KeptAt (k : ℕ) (d : RealmPass) : Type 0 where
    g : GatesView
    h : GatesView
    keeps : KeepsPass manifests (get_or old k d) (get_or new k d) g h

  -- A pass among those that keep what they were is kept with the gates at its place.
  kept_pair : KeepsEach log_of faults_of manifests old new gates₀ gates₁ → length gates₀ ≡ length old → (k : ℕ) (d : RealmPass) → k < length old → KeptAt k d
  kept_pair is many k d lt =
      let g = slice_get_some gates₀ k (omega (arith, many, lt)) in
      let h = slice_get_some gates₁ k (omega (arith, is.gates, many, lt)) in
      record {
        g = gates_view log_of faults_of g.0;
        h = gates_view log_of faults_of h.0;
        keeps = is.each k (get_or old k d) (get_or new k d) g.0 h.0 (slice_get-get_or old k d lt) (slice_get-get_or new k d (omega (arith, is.passes, lt))) g.1 h.1;
      }

  -- Passes that are kept, each with its gates, are still those of the sixteen callers.
  pub sixteen_after : (turn : LockView) → AreSixteen turn old → KeepsEach log_of faults_of manifests old new gates₀ gates₁ → length gates₀ ≡ length old → AreSixteen turn new
  sixteen_after turn are is many = record {
    lock = λ k d lt. (kept_pair is many k d (omega (arith, is.passes, lt))).keeps.lock ∙ are.lock k d (omega (arith, is.passes, lt));
    callers = map_same (λ (p : RealmPass). p.caller) old new is.passes (λ k d lt. (kept_pair is many k d lt).keeps.caller) ∙ are.callers;
  }

  -- Where passes are kept, each action that the entries of one begin is still ended by one of them.
  pub ended_after : KeepsEach log_of faults_of manifests old new gates₀ gates₁ → length gates₀ ≡ length old → All (λ (p : RealmPass). HasEnds p.mine) old → All (λ (p : RealmPass). HasEnds p.mine) new
  ended_after is many ends k d lt =
      let kept = kept_pair is many k d (omega (arith, is.passes, lt)) in
      grown_has_ends (get_or old k d).mine kept.keeps.part (get_or new k d).mine (ends k d (omega (arith, is.passes, lt))) kept.keeps.closed kept.keeps.mine

-- what holds of the passes whether lines were performed or not
pub back_sixteen : {G : Type 0} (log_of : G → Option (List GateCall)) (faults_of : G → ℕ) (manifests : Manifests) (phases : List (List Line)) (turn : LockView) (passes : List RealmPass) (gates : List G) (back : Lanes G) → length gates ≡ 16 → AreSixteen turn passes → RanOrNot log_of faults_of manifests phases passes gates back → AreSixteen turn back.passes
back_sixteen log_of faults_of manifests phases turn passes gates back many are (inl ran) = sixteen_after log_of faults_of manifests passes back.passes gates back.gates turn are ran.kept (many ∙ sym (sixteen_long turn passes are))
back_sixteen log_of faults_of manifests phases turn passes gates back many are (inr none) = subst (AreSixteen turn) (sym none.same_passes) are

-- Behind a run, or none, each action that the entries of a pass begin is still ended by one of them.
pub back_ended : {G : Type 0} (log_of : G → Option (List GateCall)) (faults_of : G → ℕ) (manifests : Manifests) (phases : List (List Line)) (turn : LockView) (passes : List RealmPass) (gates : List G) (back : Lanes G) → length gates ≡ 16 → AreSixteen turn passes → RanOrNot log_of faults_of manifests phases passes gates back → All (λ (p : RealmPass). HasEnds p.mine) passes → All (λ (p : RealmPass). HasEnds p.mine) back.passes
back_ended log_of faults_of manifests phases turn passes gates back many are (inl ran) ends = ended_after log_of faults_of manifests passes back.passes gates back.gates ran.kept (many ∙ sym (sixteen_long turn passes are)) ends
back_ended log_of faults_of manifests phases turn passes gates back many are (inr none) ends = subst (λ (l : List RealmPass). All (λ (p : RealmPass). HasEnds p.mine) l) (sym none.same_passes) ends

-- Behind a run, or none, as many gates come back as there were, sixteen.
pub back_gates : {G : Type 0} (log_of : G → Option (List GateCall)) (faults_of : G → ℕ) (manifests : Manifests) (phases : List (List Line)) (passes : List RealmPass) (gates : List G) (back : Lanes G) → length gates ≡ 16 → RanOrNot log_of faults_of manifests phases passes gates back → length back.gates ≡ 16
back_gates log_of faults_of manifests phases passes gates back many (inl ran) = ran.kept.gates ∙ many
back_gates log_of faults_of manifests phases passes gates back many (inr none) = ap (λ (l : List _). length l) none.same_gates ∙ many
