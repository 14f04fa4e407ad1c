-- From passes, gates and links to workers, and back.
use Rattle.std.proofs.Common.{◌≡◌, ◌⊎◌, ℕ, zero, suc, ◌<◌, ◌≤◌, List, [], ◌∷◌, ◌++◌, All, Any, map, take, drop, length, get_or, Bool, true, false, Option, Some, inl, inr, refl, sym, ap, ◌∙◌, subst, arith}
use mathlib.Core.Logic.{dite}
use native.Mathlib.Decide.{dec_lt}
use Rattle.std.specs.List.{slice_get}
use Rattle.std.proofs.lemmas.List.{length-append, length-map}
use Rattle.std.proofs.lemmas.Option.{slice_get-get_or, slice_get_within, get_or_from_slice_get, same_Some}
use Rattle.std.proofs.Math.ListN.{get_or-append}
use Rattle.std.proofs.Math.Seq.{get_or-append_seam}
use mathlib.Core.List.{map-map}
use Rattle.cm_gate.specs.declared.asked.GateCall.{GateCall}
use Rattle.cm_facts.proofs.Lists.{length_by_map, slice_get_some, take_over, All_slice_get}
use Rattle.cm_manager.specs.Contract.{RealmPass}
use Rattle.cm_manager.specs.Kept.{AreSixteen}
use Rattle.cm_manager.specs.Gated.{gates_view}
use Rattle.cm_manager.specs.Work.{Manifests}
use Rattle.cm_manager.specs.Desks.{AreDesksOf}
use Rattle.cm_turn.specs.Passes.{LockView, new_pass, new_passes}
use Rattle.cm_session.specs.declared.doorway.Accepted.{Accepted}
use Rattle.cm_session.specs.declared.doorway.Opening.{Opening}
use Rattle.cm_session.specs.declared.workers.DoorWork.{DoorWork}
use Rattle.cm_session.specs.Pool.{DidWork, HasServed, IsReadyWorker, PoolWorked, Worker, WorkerWorked}
use Rattle.cm_session.specs.Doorway.{DoorPass, IsDoorDone, sessions_of}
use Rattle.cm_session.specs.Links.{LinkView}
use Rattle.cm_session.specs.PoolParts.{AreWorkerParts, HasPasses, HasRooms, Links, PoolParts}
use Rattle.cm_session.specs.Serving.{AreWell, EndsLost, StopsAtLoss, ServedLink}
use Rattle.cm_session.proofs.lemmas.work.Places.{all_places, any_place, at_map, field_at, item_at}
use Rattle.cm_manager.proofs.lemmas.calling.Sixteen.{sixteen_long}

module _ {G L : Type 0} where
  -- the workers that were made of these
  pub record Made (passes : List RealmPass) (at_door : List DoorPass) (gates : List G) (links : List (Links L)) (pool : List (Worker G L)) : Type 0 where
    pub passes_are : map (λ w. w.pass) pool ≡ map Some passes
    pub at_door_are : map (λ w. w.work.at_door) pool ≡ map Some at_door
    pub gates_are : map (λ w. w.gates) pool ≡ gates
    pub links_are : map (λ w. w.work.links) pool ≡ links

  -- Workers are made of these passes, gates and links, where their desks and works are.
  pub made_of : (passes : List RealmPass) (at_door : List DoorPass) (gates : List G) (links : List (Links L)) (works : List (DoorWork L)) (pool : List (Worker G L)) → AreDesksOf passes gates works pool → map (λ w. w.at_door) works ≡ map Some at_door → map (λ w. w.links) works ≡ links → Made passes at_door gates links pool
  made_of passes at_door gates links works pool is doors rooms = record {
    passes_are = is.passes_are;
    at_door_are = sym (map-map (λ (w : DoorWork L). w.at_door) (λ (w : Worker G L). w.work) pool) ∙ ap (map (λ w. w.at_door)) is.works_are ∙ doors;
    gates_are = is.gates_are;
    links_are = sym (map-map (λ (w : DoorWork L). w.links) (λ (w : Worker G L). w.work) pool) ∙ ap (map (λ w. w.links)) is.works_are ∙ rooms;
  }

-- ---- the passes of a new door

-- A new door has as many new passes as there are callers.
pub new_length : (door : LockView) (o : Opening) (n : ℕ) → length (new_passes {E = Accepted} door.lock o n) ≡ n
new_length door o zero = refl
new_length door o (suc n) =
    let e = length-append (new_passes {E = Accepted} door.lock o n) (new_pass door.lock o n ∷ []) in
    let h = new_length door o n in
    omega (arith, e, h)

-- The pass of a new door's caller at its place is the new pass of that caller.
new_or : (door : LockView) (o : Opening) (n c : ℕ) (d : DoorPass) → c < n → get_or (new_passes door.lock o n) c d ≡ new_pass door.lock o c
new_or door o zero c d lt = absurd (omega (arith, lt))
new_or door o (suc n) c d lt =
    let prefix = new_passes {E = Accepted} door.lock o n in
    let last : DoorPass = new_pass door.lock o n in
    let len : length prefix ≡ n = new_length door o n in
    dite (dec_lt c n)
    (λ low. get_or-append prefix (last ∷ []) d c (omega (arith, len, low)) ∙ new_or door o n c d low)
    (λ high.
    let here : c ≡ length prefix = omega (arith, len, high, lt) in
    let is : n ≡ c = omega (arith, high, lt) in
    ap (λ k. get_or (prefix ++ last ∷ []) k d) here ∙ (get_or-append_seam prefix last [] d ∙ ap (λ k. new_pass door.lock o k) is))

-- The pass at a place of a new door's passes is the new one of that number.
pub new_at : (door : LockView) (o : Opening) (n c : ℕ) (d : DoorPass) → slice_get (new_passes door.lock o n) c ≡ Some d → d ≡ new_pass door.lock o c
new_at door o n c d there = sym (get_or_from_slice_get (new_passes door.lock o n) c d d there) ∙ new_or door o n c d (subst (λ (k : ℕ). c < k) (new_length door o n) (slice_get_within (new_passes door.lock o n) c d there))

-- ---- the visits of all workers

-- What follows of a flag that isn't set, or of one that is, gives either one or the other.
either_way : {A B : Type 0} (b : Bool) → (b ≡ false → A) → (b ≡ true → B) → A ⊎ B
either_way true left right = inr (right refl)
either_way false left right = inl (left refl)

module _ {G L : Type 0} (log_of : G → Option (List GateCall)) (faults_of : G → ℕ) (view : L → LinkView) (manifests : Manifests) (workers : ℕ) where
  -- these are the visits of the workers, in their order
  pub record Visited (xs ys : List (Worker G L)) (visits : List (List ServedLink)) : Type 0 where
    pub count : length visits ≡ length xs
    pub each : (k : ℕ) (x y : Worker G L) (vs : List ServedLink) → slice_get xs k ≡ Some x → slice_get ys k ≡ Some y → slice_get visits k ≡ Some vs → WorkerWorked log_of faults_of view manifests workers vs x y

  -- Workers that did their work, each at its place, have visits, a list of them for each worker.
  pub visited_of : (xs ys : List (Worker G L)) → length ys ≡ length xs → ((k : ℕ) (d : Worker G L) → k < length xs → DidWork log_of faults_of view manifests workers (get_or xs k d) (get_or ys k d)) → (visits : List (List ServedLink)) × Visited xs ys visits
  visited_of [] ys long did = ([], record { count = refl; each = λ k x y vs a b c. absurd (omega (arith, slice_get_within [] k x a)) })
  visited_of (x ∷ xs) [] long did = absurd (cc long)
  visited_of (x ∷ xs) (y ∷ ys) long did =
      let others = visited_of xs ys (cc long) (λ k d lt. did (suc k) d (grind (arith, lt))) in
      let first = did 0 x (grind arith) in
      (first.visits ∷ others.0, record { count = ap suc others.1.count; each = each first.visits first.worked others.0 others.1 }) where
        each : (v : List ServedLink) → WorkerWorked log_of faults_of view manifests workers v x y → (vs : List (List ServedLink)) → Visited xs ys vs → (k : ℕ) (a b : Worker G L) (c : List ServedLink) → slice_get (x ∷ xs) k ≡ Some a → slice_get (y ∷ ys) k ≡ Some b → slice_get (v ∷ vs) k ≡ Some c → WorkerWorked log_of faults_of view manifests workers c a b
        each v worked vs visited zero a b c ha hb hc =
            subst (λ (z : List ServedLink). WorkerWorked log_of faults_of view manifests workers z a b) (same_Some v c hc)
            (subst (λ (z : Worker G L). WorkerWorked log_of faults_of view manifests workers v a z) (same_Some y b hb)
            (subst (λ (z : Worker G L). WorkerWorked log_of faults_of view manifests workers v z y) (same_Some x a ha) worked))
        each v worked vs visited (suc k) a b c ha hb hc = visited.each k a b c ha hb hc

  -- what was at one place, and what is there now
  pub record PlaceAt (passes : List RealmPass) (at_door : List DoorPass) (gates : List G) (parts : PoolParts G L) (k : ℕ) (vs : List ServedLink) : Type 0 where
    pub p : RealmPass
    pub q : RealmPass
    pub d : DoorPass
    pub e : DoorPass
    pub g : G
    pub h : G
    pub r : Links L
    pub p_is : slice_get passes k ≡ Some p
    pub q_is : slice_get parts.passes.items k ≡ Some q
    pub d_is : slice_get at_door k ≡ Some d
    pub e_is : slice_get parts.works.at_door.items k ≡ Some e
    pub g_is : slice_get gates k ≡ Some g
    pub h_is : slice_get parts.gates.items k ≡ Some h
    pub r_is : slice_get parts.works.links.items k ≡ Some r
    pub served : HasServed view manifests vs p q (gates_view log_of faults_of g) (gates_view log_of faults_of h) d e r.items
    pub idle : workers ≤ d.caller → vs ≡ []
    pub stops : StopsAtLoss vs
    pub well : parts.lost ≡ false → AreWell vs
    pub over : parts.lost ≡ false → d.caller < workers → IsDoorDone (sessions_of e) e.seen

  -- what was at all places
  pub record Places (passes : List RealmPass) (at_door : List DoorPass) (gates : List G) (parts : PoolParts G L) (visits : List (List ServedLink)) : Type 0 where
    pub count : length visits ≡ length passes
    pub passes_long : length parts.passes.items ≡ length passes
    pub doors_long : length parts.works.at_door.items ≡ length passes
    pub gates_long : length parts.gates.items ≡ length passes
    pub links_long : length parts.works.links.items ≡ length passes
    pub each : (k : ℕ) (vs : List ServedLink) → slice_get visits k ≡ Some vs → PlaceAt passes at_door gates parts k vs
    pub lost : parts.lost ≡ true → Any EndsLost visits

  -- of the workers that were made, did their work and were taken apart
  pub places_of : (passes : List RealmPass) (at_door : List DoorPass) (gates : List G) (links : List (Links L)) (xs ys : List (Worker G L)) (parts : PoolParts G L) (visits : List (List ServedLink)) → Made passes at_door gates links xs → length ys ≡ length xs → Visited xs ys visits → AreWorkerParts ys parts → Places passes at_door gates parts visits
  places_of passes at_door gates links xs ys parts visits made long visited are = record {
    count = visited.count ∙ as_many;
    passes_long = length_by_map Some (λ (w : Worker G L). w.pass) parts.passes.items ys are.passes ∙ long ∙ as_many;
    doors_long = length_by_map Some (λ (w : Worker G L). w.work.at_door) parts.works.at_door.items ys are.at_door ∙ long ∙ as_many;
    gates_long = ap (λ (l : List G). length l) are.gates ∙ length-map ys (λ (w : Worker G L). w.gates) ∙ long ∙ as_many;
    links_long = ap (λ (l : List (Links L)). length l) are.links ∙ length-map ys (λ (w : Worker G L). w.work.links) ∙ long ∙ as_many;
    each = place;
    lost = λ yes. lost_at (are.lost yes);
  } where
    as_many : length xs ≡ length passes
    as_many = length_by_map (λ (w : Worker G L). w.pass) Some xs passes made.passes_are

    place : (k : ℕ) (vs : List ServedLink) → slice_get visits k ≡ Some vs → PlaceAt passes at_door gates parts k vs
    place k vs there =
        let within : k < length visits = slice_get_within visits k vs there in
        let x = slice_get_some xs k (grind (arith, within, visited.count)) in
        let y = slice_get_some ys k (grind (arith, within, visited.count, long)) in
        let worked = visited.each k x.0 y.0 vs x.1 y.1 there in
        record {
          p = worked.p;
          q = worked.q;
          d = worked.d;
          e = worked.e;
          g = x.0.gates;
          h = y.0.gates;
          r = y.0.work.links;
          p_is = item_at (λ (w : Worker G L). w.pass) xs passes k x.0 worked.p made.passes_are x.1 worked.was;
          q_is = item_at (λ (w : Worker G L). w.pass) ys parts.passes.items k y.0 worked.q (sym are.passes) y.1 worked.now;
          d_is = item_at (λ (w : Worker G L). w.work.at_door) xs at_door k x.0 worked.d made.at_door_are x.1 worked.was_at_door;
          e_is = item_at (λ (w : Worker G L). w.work.at_door) ys parts.works.at_door.items k y.0 worked.e (sym are.at_door) y.1 worked.now_at_door;
          g_is = at_map (λ (w : Worker G L). w.gates) xs gates k x.0 made.gates_are x.1;
          h_is = at_map (λ (w : Worker G L). w.gates) ys parts.gates.items k y.0 (sym are.gates) y.1;
          r_is = at_map (λ (w : Worker G L). w.work.links) ys parts.works.links.items k y.0 (sym are.links) y.1;
          served = worked.served;
          idle = worked.idle;
          stops = either_way y.0.lost worked.well worked.lost;
          well = λ no. worked.well (All_slice_get (λ (w : Worker G L). w.lost ≡ false) ys k y.0 (are.well no) y.1);
          over = λ no. worked.over (All_slice_get (λ (w : Worker G L). w.lost ≡ false) ys k y.0 (are.well no) y.1);
        }

    lost_at : Any (λ (w : Worker G L). w.lost ≡ true) ys → Any EndsLost visits
    lost_at any =
        let y_is : slice_get ys any.0 ≡ Some any.1 = slice_get-get_or ys any.0 any.1 any.2 ∙ ap Some any.3 in
        let x = slice_get_some xs any.0 (grind (arith, any.2, long)) in
        let v = slice_get_some visits any.0 (grind (arith, any.2, long, visited.count)) in
        any_place EndsLost visits any.0 v.0 v.1 ((visited.each any.0 x.0 any.1 v.0 x.1 y_is v.1).lost any.4)

-- ---- before the work

module _ {G L : Type 0} where
  -- the workers that are made of sixteen passes, and of those of a new door, are ready
  pub ready_all : (realm door : LockView) (o : Opening) (workers : ℕ) (passes : List RealmPass) (at_door : List DoorPass) (gates : List G) (links : List (Links L)) (xs : List (Worker G L)) → AreSixteen realm passes → at_door ≡ new_passes door.lock o 16 → HasRooms 16 o.sessions workers links → Made passes at_door gates links xs → All (λ (w : Worker G L). w.lost ≡ false) xs → All (IsReadyWorker realm door workers) xs
  ready_all realm door o workers passes at_door gates links xs are new rooms made well = all_places (IsReadyWorker realm door workers) xs each where
    each : (k : ℕ) (x : Worker G L) → slice_get xs k ≡ Some x → IsReadyWorker realm door workers x
    each k x there =
        let within : k < length xs = slice_get_within xs k x there in
        let long : length xs ≡ length passes = length_by_map (λ (w : Worker G L). w.pass) Some xs passes made.passes_are in
        let doors_long : length xs ≡ length at_door = length_by_map (λ (w : Worker G L). w.work.at_door) Some xs at_door made.at_door_are in
        let p = slice_get_some passes k (grind (arith, within, long)) in
        let d = slice_get_some at_door k (grind (arith, within, doors_long)) in
        let d_new : d.0 ≡ new_pass door.lock o k = new_at door o 16 k d.0 (subst (λ (l : List DoorPass). slice_get l k ≡ Some d.0) new d.1) in
        let room_at = at_map (λ (w : Worker G L). w.work.links) xs links k x made.links_are there in
        let caller : d.0.caller ≡ k = ap (λ (p : DoorPass). p.caller) d_new in
        let sessions : sessions_of d.0 ≡ o.sessions = ap (λ (p : DoorPass). sessions_of p) d_new in
        record {
          pass = p.0;
          there = field_at (λ (w : Worker G L). w.pass) xs passes k x p.0 made.passes_are there p.1;
          of_realm = All_slice_get (λ (p : RealmPass). p.lock ≡ realm.lock) passes k p.0 are.lock p.1;
          at_door = d.0;
          there_too = field_at (λ (w : Worker G L). w.work.at_door) xs at_door k x d.0 made.at_door_are there d.1;
          of_door = ap (λ (p : DoorPass). p.lock) d_new;
          new = ap (λ (p : DoorPass). p.mine) d_new;
          none = All_slice_get (λ (r : Links L). r.items ≡ []) links k x.work.links rooms.none room_at;
          room = λ first. subst (λ (n : ℕ). n ≤ Rattle.std.specs.Prelude.vec_capacity x.work.links) (sym sessions) (rooms.room k x.work.links (subst (λ (n : ℕ). n < workers) caller first) room_at);
          well = All_slice_get (λ (w : Worker G L). w.lost ≡ false) xs k x well there;
        }

module _ {G L : Type 0} (log_of : G → Option (List GateCall)) (faults_of : G → ℕ) (view : L → LinkView) (manifests : Manifests) (workers : ℕ) where
  -- the workers that did their work have their passes
  pub have_passes : (xs ys : List (Worker G L)) → PoolWorked log_of faults_of view manifests workers xs ys → All HasPasses ys
  have_passes xs ys did k d lt =
      let w = did.each k d (grind (arith, did.long, lt)) in
      record { pass = w.worked.q; there = w.worked.now; door = record { at_door = w.worked.e; there = w.worked.now_at_door } }

  -- they are sixteen
  pub sixteen_left : (realm : LockView) (passes : List RealmPass) (xs ys : List (Worker G L)) → AreSixteen realm passes → map (λ (w : Worker G L). w.pass) xs ≡ map Some passes → PoolWorked log_of faults_of view manifests workers xs ys → length ys ≡ 16
  sixteen_left realm passes xs ys are made did = did.long ∙ length_by_map (λ (w : Worker G L). w.pass) Some xs passes made ∙ sixteen_long realm passes are

  -- the workers of a slice that took the place of a whole vector
  pub pool_worked : (xs s ys : List (Worker G L)) (n : ℕ) → s ≡ xs → n ≡ length xs → length ys ≡ length s → ((k : ℕ) (d : Worker G L) → k < length s → DidWork log_of faults_of view manifests workers (get_or s k d) (get_or ys k d)) → PoolWorked log_of faults_of view manifests workers xs (take n (ys ++ drop (length ys) xs))
  pool_worked xs s ys n s_is n_is many did =
      let long : length ys ≡ length xs = many ∙ ap (λ (l : List (Worker G L)). length l) s_is in
      let each : (k : ℕ) (d : Worker G L) → k < length xs → DidWork log_of faults_of view manifests workers (get_or xs k d) (get_or ys k d) = λ k d lt.
      subst (λ (l : List (Worker G L)). DidWork log_of faults_of view manifests workers (get_or l k d) (get_or ys k d)) s_is (did k d (subst (λ (l : List (Worker G L)). k < length l) (sym s_is) lt)) in
      subst (λ (l : List (Worker G L)). PoolWorked log_of faults_of view manifests workers xs l) (sym (take_over xs ys n n_is long)) (record { long = long; each = each })
