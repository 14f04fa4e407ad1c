-- What came of the links of each worker, and of all.
use Rattle.std.proofs.Common.{◌≡◌, ◌≢◌, ◌⊎◌, inl, inr, ℕ, zero, suc, ◌+◌, ◌<◌, ◌≤◌, Bool, true, false, cond, nat_eq, List, [], ◌∷◌, ◌++◌, All, map, length, Some, append-nil, refl, sym, ap, ◌∙◌, subst, arith, ne_eqb, eq-eqb}
use Rattle.std.specs.List.{AllZip, slice_get}
use Rattle.std.proofs.lemmas.List.Elements.{All-append, All-cons, All-head, All-nil, All-tail}
use Rattle.std.proofs.lemmas.Bool.{cases_lt}
use Rattle.cm_world.specs.declared.frame.Frame.{Frame}
use Rattle.cm_world.specs.declared.reply.Entry.{Entry}
use Rattle.cm_manager.specs.Asking.{frame_of}
use Rattle.cm_manager.specs.Contract.{GatesView, RealmPass}
use Rattle.cm_manager.specs.Turns.{IsLaterHistory}
use Rattle.cm_manager.specs.Work.{Manifests}
use Rattle.cm_session.specs.declared.ended.Ended.TheVariants as ended
use Rattle.cm_session.specs.declared.served.Back.{Back}
use Rattle.cm_session.specs.Links.{LinkView}
use Rattle.cm_session.specs.Serving.{IsOfLink, ServesVisits, ServedLink, none_came, one_first, worker_by_worker}
use Rattle.cm_session.proofs.lemmas.spoken.Kept.{caller_kept, frame_kept}
use Rattle.cm_program.specs.Sessions.{AreByWorker, FollowsEach, IsSessionOf, SessionRecord, sats_by}
use Rattle.cm_program.proofs.lemmas.links.SessionLinks.{judged}

-- ---- one worker

module _ {L : Type 0} (view : L → LinkView) (status : ℕ) (history : List Entry) where
  -- what came of the links of a worker, and what its caller performed from there on
  pub record Visited (f : Frame) (c : ℕ) (vs : List ServedLink) (from : List Entry) : Type 0 where
    pub sats : List SessionRecord
    pub each : AllZip (λ (v : ServedLink) (s : SessionRecord). IsSessionOf view status v.now s) vs sats
    pub follows : FollowsEach f c sats from history

  -- The links that a worker served have sessions whose commands its caller performed, one by one.
  pub visited : (manifests : Manifests) (vs : List ServedLink) (p q : RealmPass) (g h : GatesView) → ServesVisits manifests vs p q g h → All (λ (v : ServedLink). IsOfLink view v.was) vs → (status ≢ 6 → All (λ (v : ServedLink). v.ended ≢ ended.Memory) vs) → IsLaterHistory p.caller q.seen history → Visited (frame_of p) p.caller vs p.seen
  visited manifests [] p q g h none_came came well later = record { sats = []; each = tt; follows = FollowsEach.none_left later }
  visited manifests (v ∷ vs) p r g k (one_first {q = x} {h = y} visit rest) came well later =
      let kept = visit.session.keeps in
      let caller : x.caller ≡ p.caller = caller_kept manifests p x g y kept in
      let frame : frame_of x ≡ frame_of p = frame_kept manifests p x g y kept in
      let first = judged view status manifests p x g y v.was v.now v.ended (All-head (λ (v : ServedLink). IsOfLink view v.was) v vs came) visit.new visit.session (λ other. All-head (λ (v : ServedLink). v.ended ≢ ended.Memory) v vs (well other)) in
      let others = visited manifests vs x r y k rest (All-tail (λ (v : ServedLink). IsOfLink view v.was) v vs came) (λ other. All-tail (λ (v : ServedLink). v.ended ≢ ended.Memory) v vs (well other)) (subst (λ (c : ℕ). IsLaterHistory c r.seen history) (sym caller) later) in
      let same : Visited (frame_of p) p.caller vs x.seen = subst (λ (f : Frame). Visited f p.caller vs x.seen) frame (subst (λ (c : ℕ). Visited (frame_of x) c vs x.seen) caller others) in
      record { sats = first.sat ∷ same.sats; each = (first.is, same.each); follows = FollowsEach.one_first first.follows same.follows }

-- ---- lists of links

-- What holds of two lists item by item, and of two others, holds of both together.
zip_append : {A B : Type 0} (R : A → B → Type 0) (xs ys : List A) (ss ts : List B) → AllZip R xs ss → AllZip R ys ts → AllZip R (xs ++ ys) (ss ++ ts)
zip_append R [] ys [] ts h k = k
zip_append R [] ys (s ∷ ss) ts h k = absurd h
zip_append R (x ∷ xs) ys [] ts h k = absurd h
zip_append R (x ∷ xs) ys (s ∷ ss) ts h k = (h.0, zip_append R xs ys ss ts h.1 k)

-- What holds of what a list is mapped to, item by item, holds of the mapped list.
zip_map : {A B C : Type 0} (R : A → B → Type 0) (f : C → A) (xs : List C) (ss : List B) → AllZip (λ (x : C) (s : B). R (f x) s) xs ss → AllZip R (map f xs) ss
zip_map R f [] [] h = tt
zip_map R f [] (s ∷ ss) h = absurd h
zip_map R f (x ∷ xs) [] h = absurd h
zip_map R f (x ∷ xs) (s ∷ ss) h = (h.0, zip_map R f xs ss h.1)

-- the links of one worker's visits
abbrev back_of : ℕ → ServedLink → Back LinkView
back_of k v = record { worker = k; link = v.now }

-- What is a prefix and a rest stays so where a test puts one more in front or doesn't.
append_one : (t : Bool) (s : SessionRecord) (whole prefix rest : List SessionRecord) → whole ≡ prefix ++ rest → cond t (s ∷ whole) whole ≡ cond t (s ∷ prefix) prefix ++ rest
append_one true s whole prefix rest is = ap (λ (l : List SessionRecord). s ∷ l) is
append_one false s whole prefix rest is = is

-- A worker's records of two lists of links together are those of the first and of the second.
by_append : (R : Back LinkView → SessionRecord → Type 0) (c : ℕ) (bs others : List (Back LinkView)) (ss more : List SessionRecord) → AllZip R bs ss → sats_by c (bs ++ others) (ss ++ more) ≡ sats_by c bs ss ++ sats_by c others more
by_append R c [] others [] more h = refl
by_append R c [] others (s ∷ ss) more h = absurd h
by_append R c (b ∷ bs) others [] more h = absurd h
by_append R c (b ∷ bs) others (s ∷ ss) more h =
    append_one (nat_eq b.worker c) s (sats_by c (bs ++ others) (ss ++ more)) (sats_by c bs ss) (sats_by c others more) (by_append R c bs others ss more h.1)

-- The records of a worker's own links are all of them.
own_by : (R : ServedLink → SessionRecord → Type 0) (k c : ℕ) (vs : List ServedLink) (ss : List SessionRecord) → k ≡ c → AllZip R vs ss → sats_by c (map (back_of k) vs) ss ≡ ss
own_by R k c [] [] same h = refl
own_by R k c [] (s ∷ ss) same h = absurd h
own_by R k c (v ∷ vs) [] same h = absurd h
own_by R k c (v ∷ vs) (s ∷ ss) same h =
    ap (λ (t : Bool). cond t (s ∷ sats_by c (map (back_of k) vs) ss) (sats_by c (map (back_of k) vs) ss)) (eq-eqb k c same)
    ∙ ap (λ (l : List SessionRecord). s ∷ l) (own_by R k c vs ss same h.1)

-- The records of another worker's links are none of this one's.
other_by : (k c : ℕ) (vs : List ServedLink) (ss : List SessionRecord) → (k ≡ c → ⊥) → sats_by c (map (back_of k) vs) ss ≡ []
other_by k c [] ss apart = refl
other_by k c (v ∷ vs) [] apart = refl
other_by k c (v ∷ vs) (s ∷ ss) apart =
    ap (λ (t : Bool). cond t (s ∷ sats_by c (map (back_of k) vs) ss) (sats_by c (map (back_of k) vs) ss)) (ne_eqb k c apart)
    ∙ other_by k c vs ss apart

-- ---- all workers

-- The place of the next worker in turn is the next place of the worker.
shifted : (k j : ℕ) → k + 1 + j ≡ k + suc j
shifted k j = omega arith

module _ {L : Type 0} (view : L → LinkView) (status : ℕ) (history : List Entry) (f : Frame) where
  -- what came of the links of the workers from k on
  pub record Joined (k : ℕ) (visits : List (List ServedLink)) : Type 0 where
    pub sats : List SessionRecord
    pub each : AllZip (λ (b : Back LinkView) (s : SessionRecord). IsSessionOf view status b.link s) (worker_by_worker k visits) sats
    pub below : (c : ℕ) → c < k → sats_by c (worker_by_worker k visits) sats ≡ []
    pub entries : (i : ℕ) → i < length visits → FollowsEach f (k + i) (sats_by (k + i) (worker_by_worker k visits) sats) [] history

  -- one worker more before the others
  joined_more : (k : ℕ) (vs : List ServedLink) (others : List (List ServedLink)) → Visited view status history f (k + 0) vs [] → Joined (k + 1) others → Joined k (vs ∷ others)
  joined_more k vs others first rest = record {
    sats = all;
    each = zip_append R links more first.sats rest.sats zipped rest.each;
    below = λ c lt. split c ∙ ap (λ (l : List SessionRecord). l ++ sats_by c more rest.sats) (other_by k c vs first.sats (λ same. absurd (omega (arith, lt, same)))) ∙ rest.below c (omega (arith, lt));
    entries = entries;
  }
    where
      R : Back LinkView → SessionRecord → Type 0
      R b s = IsSessionOf view status b.link s

      links : List (Back LinkView)
      links = map (back_of k) vs

      more : List (Back LinkView)
      more = worker_by_worker (k + 1) others

      all : List SessionRecord
      all = first.sats ++ rest.sats

      zipped : AllZip R links first.sats
      zipped = zip_map R (back_of k) vs first.sats first.each

      split : (c : ℕ) → sats_by c (links ++ more) all ≡ sats_by c links first.sats ++ sats_by c more rest.sats
      split c = by_append R c links more first.sats rest.sats zipped

      own : sats_by (k + 0) (links ++ more) all ≡ first.sats
      own = split (k + 0)
          ∙ ap (λ (l : List SessionRecord). l ++ sats_by (k + 0) more rest.sats) (own_by (λ (v : ServedLink) (s : SessionRecord). R (back_of k v) s) k (k + 0) vs first.sats (omega arith) first.each)
          ∙ ap (λ (l : List SessionRecord). first.sats ++ l) (rest.below (k + 0) (omega arith)) ∙ append-nil first.sats

      apart : (j : ℕ) → sats_by (k + suc j) (links ++ more) all ≡ sats_by (k + suc j) more rest.sats
      apart j = split (k + suc j) ∙ ap (λ (l : List SessionRecord). l ++ sats_by (k + suc j) more rest.sats) (other_by k (k + suc j) vs first.sats (λ same. absurd (omega (arith, same))))

      entries : (i : ℕ) → i < length (vs ∷ others) → FollowsEach f (k + i) (sats_by (k + i) (links ++ more) all) [] history
      entries zero lt = subst (λ (l : List SessionRecord). FollowsEach f (k + 0) l [] history) (sym own) first.follows
      entries (suc j) lt =
          subst (λ (l : List SessionRecord). FollowsEach f (k + suc j) l [] history) (sym (apart j))
          (subst (λ (n : ℕ). FollowsEach f n (sats_by n more rest.sats) [] history) (shifted k j) (rest.entries j (omega (arith, lt))))

  -- What came of the links of each worker from one on is what came of all these workers' links.
  pub joined : (k : ℕ) (visits : List (List ServedLink)) → ((i : ℕ) (vs : List ServedLink) → slice_get visits i ≡ Some vs → Visited view status history f (k + i) vs []) → Joined k visits
  joined k [] each = record { sats = []; each = tt; below = λ c lt. refl; entries = λ i lt. absurd (omega (arith, lt)) }
  joined k (vs ∷ others) each =
      joined_more k vs others (each 0 vs refl)
      (joined (k + 1) others (λ i ws at. subst (λ (n : ℕ). Visited view status history f n ws []) (sym (shifted k i)) (each (suc i) ws at)))

-- ---- which workers

-- The links of a worker that is below the number of workers are of workers below it.
low_backs : (workers k : ℕ) (vs : List ServedLink) → k < workers → All (λ (b : Back LinkView). b.worker < workers) (map (back_of k) vs)
low_backs workers k [] lt = All-nil (λ (b : Back LinkView). b.worker < workers)
low_backs workers k (v ∷ vs) lt = All-cons (λ (b : Back LinkView). b.worker < workers) (back_of k v) (map (back_of k) vs) lt (low_backs workers k vs lt)

-- workers that serve nothing have no links
pub low_workers : (workers k : ℕ) (visits : List (List ServedLink)) → ((i : ℕ) (vs : List ServedLink) → workers ≤ k + i → slice_get visits i ≡ Some vs → vs ≡ []) → All (λ (b : Back LinkView). b.worker < workers) (worker_by_worker k visits)
low_workers workers k [] idle = All-nil (λ (b : Back LinkView). b.worker < workers)
low_workers workers k (vs ∷ others) idle =
    All-append (λ (b : Back LinkView). b.worker < workers) (map (back_of k) vs) (worker_by_worker (k + 1) others) (by (cases_lt k workers))
    (low_workers workers (k + 1) others (λ i ws past at. idle (suc i) ws (omega (arith, past)) at))
  where
    by : (k < workers) ⊎ (workers ≤ k) → All (λ (b : Back LinkView). b.worker < workers) (map (back_of k) vs)
    by (inl lt) = low_backs workers k vs lt
    by (inr le) = subst (λ (l : List ServedLink). All (λ (b : Back LinkView). b.worker < workers) (map (back_of k) l)) (sym (idle 0 vs (omega (arith, le)) refl)) (All-nil (λ (b : Back LinkView). b.worker < workers))

-- the links stand worker by worker
order_by : (k : ℕ) (vs : List ServedLink) (rest : List (Back LinkView)) → ((i : ℕ) → i ≤ k → AreByWorker i rest) → (j : ℕ) → j ≤ k → AreByWorker j (map (back_of k) vs ++ rest)
order_by k [] rest more j le = more j le
order_by k (v ∷ vs) rest more j le = (le, order_by k vs rest more k (omega arith))

-- Links that are put together worker by worker stand so from any earlier worker on.
pub in_order : (j k : ℕ) (visits : List (List ServedLink)) → j ≤ k → AreByWorker j (worker_by_worker k visits)
in_order j k [] le = tt
in_order j k (vs ∷ others) le = order_by k vs (worker_by_worker (k + 1) others) (λ i low. in_order i (k + 1) others (omega (arith, low))) j le
