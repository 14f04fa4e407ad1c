-- What comes back at the end.
use Rattle.std.proofs.Common.{◌≡◌, ◌≢◌, ◌⊎◌, ℕ, suc, ◌+◌, ◌<◌, ◌≤◌, List, [], ◌∷◌, ◌++◌, All, map, length, Bool, true, false, Option, Some, inl, inr, refl, sym, ap, ◌∙◌, subst, arith}
use Rattle.std.specs.List.{slice_get}
use Rattle.std.proofs.lemmas.List.{length-map, map-append}
use Rattle.std.proofs.lemmas.Option.{slice_get_within, same_Some}
use mathlib.Core.List.{map-map}
use Rattle.cm_facts.proofs.Lists.{slice_get_some, All_slice_get}
use Rattle.cm_gate.specs.declared.asked.GateCall.{GateCall}
use Rattle.cm_io.specs.Doors.{DoorPlace}
use Rattle.cm_io.specs.Outside.{Rose}
use Rattle.cm_io.specs.declared.door.DoorCounts.{DoorCounts}
use Rattle.cm_manager.specs.Closed.{HasEnds}
use Rattle.cm_manager.proofs.lemmas.left.HavingEnds.{grown_has_ends}
use Rattle.cm_manager.proofs.lemmas.calling.Keeping.{keeps_nothing}
use Rattle.cm_manager.specs.Contract.{GatesView, RealmPass}
use Rattle.cm_manager.specs.Gated.{gates_view}
use Rattle.cm_manager.specs.Kept.{AreSixteen, IsOwnPass, KeepsPass, KeepsEach}
use Rattle.cm_manager.specs.Work.{Manifests}
use Rattle.cm_turn.specs.Passes.{AreAll, LockView, new_pass, new_passes}
use Rattle.cm_session.specs.declared.doorway.Opening.{Opening}
use Rattle.cm_session.specs.declared.served.Back.{Back}
use Rattle.cm_session.specs.declared.served.Cause.{Cause}
use Rattle.cm_session.specs.declared.served.Cause.TheVariants as cause
use Rattle.cm_session.specs.declared.served.Served.{Served}
use Rattle.cm_session.specs.Closing.{ClosesDoor, CountsLinks, backs_of, cause_of, links_from}
use Rattle.cm_session.specs.Doorway.{DoorPass, IsDoorDone, failures_of, links_of, sessions_in, sessions_of}
use Rattle.cm_session.specs.Links.{LinkView}
use Rattle.cm_session.specs.PoolParts.{Links, PoolParts}
use Rattle.cm_session.specs.Serving.{AreWell, IsOfLink, ServesVisits, ServesAll, StopsAtLoss, ServedLink, back_view, worker_by_worker}
use Rattle.cm_session.specs.Session.{KeepsOrNot}
use Rattle.cm_session.proofs.lemmas.links.Accepts.{over_later}
use Rattle.cm_session.proofs.lemmas.ends.Ending.{PlaceAt, Places, new_at}
use Rattle.cm_session.proofs.lemmas.work.Places.{all_places, map_same}
use Rattle.cm_session.proofs.lemmas.links.Visits.{serves_keep}
use Rattle.cm_session.proofs.lemmas.spoken.Kept.{caller_kept, keeps_kept, lock_kept}

-- ---- the links, worker by worker

-- Where each worker's links are those of its visits, the links that come back are, worker by worker.
pub merged : {L : Type 0} (view : L → LinkView) (k : ℕ) (links : List (Links L)) (visits : List (List ServedLink)) → length links ≡ length visits → ((i : ℕ) (r : Links L) (vs : List ServedLink) → slice_get links i ≡ Some r → slice_get visits i ≡ Some vs → map view r.items ≡ map (λ v. v.now) vs) → map (back_view view) (links_from k links) ≡ worker_by_worker k visits
merged view k [] [] long each = refl
merged view k [] (vs ∷ visits) long each = absurd (cc long)
merged view k (r ∷ rs) [] long each = absurd (cc long)
merged {L} view k (r ∷ rs) (vs ∷ visits) long each =
    let back : LinkView → Back LinkView = λ l. record { worker = k; link = l } in
    let first : map (back_view view) (backs_of k r.items) ≡ map (λ (v : ServedLink). back v.now) vs =
    map-map (back_view view) (λ (l : L). record { worker = k; link = l }) r.items ∙ sym (map-map back view r.items) ∙ ap (map back) (each 0 r vs refl refl) ∙ map-map back (λ (v : ServedLink). v.now) vs in
    let rest = merged view (k + 1) rs visits (cc long) (λ i x y a b. each (suc i) x y a b) in
    map-append (back_view view) (backs_of k r.items) (links_from (k + 1) rs) ∙ ap (λ (l : List (Back LinkView)). l ++ map (back_view view) (links_from (k + 1) rs)) first ∙ ap (λ (l : List (Back LinkView)). map (λ (v : ServedLink). back v.now) vs ++ l) rest

-- ---- why no more links were served

-- Where serving ended because it was done, neither did memory run out nor did the door fail.
pub done_means : (lost failed : Bool) (why : Cause) → why ≡ cause_of lost failed → why ≡ cause.Done → (lost ≡ false) × (failed ≡ false)
done_means true failed why is done = absurd (cc (sym is ∙ done))
done_means false true why is done = absurd (cc (sym is ∙ done))
done_means false false why is done = (refl, refl)

-- Where serving ended because of the door, the door had failed.
pub fault_means : (lost failed : Bool) (why : Cause) → why ≡ cause_of lost failed → why ≡ cause.DoorFault → failed ≡ true
fault_means true failed why is fault = absurd (cc (sym is ∙ fault))
fault_means false true why is fault = refl
fault_means false false why is fault = absurd (cc (sym is ∙ fault))

-- Where serving ended for lack of memory, memory had run out.
pub memory_means : (lost failed : Bool) (why : Cause) → why ≡ cause_of lost failed → why ≡ cause.Memory → lost ≡ true
memory_means true failed why is memory = refl
memory_means false true why is memory = absurd (cc (sym is ∙ memory))
memory_means false false why is memory = absurd (cc (sym is ∙ memory))

-- Where serving ended otherwise than for lack of memory, memory hadn't run out.
pub well_means : (lost failed : Bool) (why : Cause) → why ≡ cause_of lost failed → why ≢ cause.Memory → lost ≡ false
well_means true failed why is other = absurd (other is)
well_means false failed why is other = refl

module _ {G L : Type 0} (log_of : G → Option (List GateCall)) (faults_of : G → ℕ) (view : L → LinkView) (manifests : Manifests) (workers : ℕ) (door : LockView) (o : Opening) (passes : List RealmPass) (at_door : List DoorPass) (gates : List G) (parts : PoolParts G L) (visits : List (List ServedLink)) (pl : Places log_of faults_of view manifests workers passes at_door gates parts visits) (sixteen : length passes ≡ 16) (new : at_door ≡ new_passes door.lock o 16) where
  -- one worker's place, with its pass at the door
  record DoorAt (k : ℕ) (e : DoorPass) : Type 0 where
    vs : List ServedLink
    place : PlaceAt log_of faults_of view manifests workers passes at_door gates parts k vs
    there : slice_get visits k ≡ Some vs
    is : place.e ≡ e
    first : place.d ≡ new_pass door.lock o k
    lock : e.lock ≡ door.lock
    frame : e.frame ≡ Some o
    caller : e.caller ≡ k

  -- A pass that comes back at the door is that of one worker's place.
  door_at : (k : ℕ) (e : DoorPass) → slice_get parts.works.at_door.items k ≡ Some e → DoorAt k e
  door_at k e there =
      let within : k < length parts.works.at_door.items = slice_get_within parts.works.at_door.items k e there in
      let v = slice_get_some visits k (grind (arith, within, pl.doors_long, pl.count)) in
      let place = pl.each k v.0 v.1 in
      let is : place.e ≡ e = same_Some place.e e (sym place.e_is ∙ there) in
      let first : place.d ≡ new_pass door.lock o k = new_at door o 16 k place.d (subst (λ (l : List DoorPass). slice_get l k ≡ Some place.d) new place.d_is) in
      record {
        vs = v.0;
        place = place;
        there = v.1;
        is = is;
        first = first;
        lock = ap (λ (p : DoorPass). p.lock) (sym is) ∙ place.served.at_door.lock ∙ ap (λ (p : DoorPass). p.lock) first;
        frame = ap (λ (p : DoorPass). p.frame) (sym is) ∙ place.served.at_door.frame ∙ ap (λ (p : DoorPass). p.frame) first;
        caller = ap (λ (p : DoorPass). p.caller) (sym is) ∙ place.served.at_door.caller ∙ ap (λ (p : DoorPass). p.caller) first;
      }

  -- the passes at the door are all of its passes
  pub all_at_door : door.passes ≡ 16 → AreAll door parts.works.at_door.items
  all_at_door many = (
    all_places (λ (p : DoorPass). p.lock ≡ door.lock) parts.works.at_door.items (λ k e there. (door_at k e there).lock),
    pl.doors_long ∙ sixteen ∙ sym many,
    (λ c lt. (let e = slice_get_some parts.works.at_door.items c (grind (arith, lt, many, pl.doors_long, sixteen)) in (c, e.0, e.1, (door_at c e.0 e.1).caller))),
  )

  -- each worker's links are as many as its entries with a link
  pub counts_links : (room : ℕ) → o.sessions ≤ room → CountsLinks parts.works.at_door.items parts.works.links.items room
  counts_links room fits = record {
    count = pl.doors_long ∙ sixteen;
    callers = λ k e there. (door_at k e there).caller;
    long = pl.links_long ∙ sixteen;
    each = each;
    room = all_places (λ (p : DoorPass). sessions_of p ≤ room) parts.works.at_door.items (λ k e there. subst (λ (n : ℕ). n ≤ room) (sym (ap sessions_in (door_at k e there).frame)) fits);
  } where
    each : (k : ℕ) (e : DoorPass) (r : Links L) → slice_get parts.works.at_door.items k ≡ Some e → slice_get parts.works.links.items k ≡ Some r → links_of e.mine ≡ length r.items
    each k e r there r_there =
        let at = door_at k e there in
        let r_is : at.place.r ≡ r = same_Some at.place.r r (sym at.place.r_is ∙ r_there) in
        let as_many : length r.items ≡ length at.vs = sym (length-map r.items view) ∙ ap (λ (x : Links L). length (map view x.items)) (sym r_is) ∙ ap (λ (l : List LinkView). length l) at.place.served.links_are ∙ length-map at.vs (λ (v : ServedLink). v.now) in
        ap (λ (p : DoorPass). links_of p.mine) (sym at.is) ∙ at.place.served.counts ∙ sym as_many

  -- ---- what the closed door says

  module _ (first : DoorCounts) (opened : o.counts ≡ first) (some_worker : 0 < workers) (now : DoorCounts) (place_now : DoorPlace) (links : ℕ) (why : Cause) (is : ClosesDoor parts.works.at_door.items now place_now links parts.lost why) where
    -- There is a first pass at the door.
    zero_at : (e : DoorPass) × (slice_get parts.works.at_door.items 0 ≡ Some e)
    zero_at = slice_get_some parts.works.at_door.items 0 (grind (arith, pl.doors_long, sixteen))

    -- The opening of the closed door is the one that the door was opened by.
    opening_is : is.opening ≡ o
    opening_is = same_Some is.opening o (sym (All_slice_get (λ (p : DoorPass). p.frame ≡ Some is.opening) parts.works.at_door.items 0 zero_at.0 is.opened zero_at.1) ∙ (door_at 0 zero_at.0 zero_at.1).frame)

    -- The counts at the opening of the closed door are the first ones.
    pub counts_first : is.opening.counts ≡ first
    counts_first = ap (λ (x : Opening). x.counts) opening_is ∙ opened

    -- peers may come where they could
    pub place_kept : place_now ≡ o.place
    place_kept = is.place ∙ ap (λ (x : Opening). x.place) opening_is

    -- The count of links is more by the links that were served.
    pub links_counted : now.links ≡ first.links + links
    links_counted = is.counted.links ∙ ap (λ (x : DoorCounts). x.links + links_of is.entries) counts_first ∙ ap (λ (n : ℕ). first.links + n) (sym is.links_are)

    -- No more links were served than sessions were asked for.
    pub few_links : links ≤ o.sessions
    few_links = subst (λ (x : Opening). links ≤ x.sessions) opening_is (subst (λ (n : ℕ). n ≤ is.opening.sessions) (sym is.links_are) is.few)

    -- Where the door failed, its count of faults rose.
    pub fault_rose : why ≡ cause.DoorFault → Rose first.faults now.faults
    fault_rose fault = subst (λ (x : DoorCounts). Rose x.faults now.faults) counts_first (is.counted.faults (is.failure (fault_means parts.lost is.failed why is.why_is fault)))

    -- where no session ended for lack of memory, the first worker found that no further accept was due
    over_at_end : parts.lost ≡ false → IsDoorDone o.sessions is.entries
    over_at_end well =
        let at = door_at 0 zero_at.0 zero_at.1 in
        let caller : at.place.d.caller ≡ 0 = ap (λ (p : DoorPass). p.caller) at.first in
        let over : IsDoorDone (sessions_of at.place.e) at.place.e.seen = at.place.over well (subst (λ (n : ℕ). n < workers) (sym caller) some_worker) in
        let sessions : sessions_of at.place.e ≡ o.sessions = ap (λ (p : DoorPass). sessions_of p) at.is ∙ ap sessions_in at.frame in
        let seen = All_slice_get (λ (p : DoorPass). Rattle.cm_turn.specs.History.StartsWith is.entries p.seen) parts.works.at_door.items 0 zero_at.0 is.seen zero_at.1 in
        let found : IsDoorDone o.sessions zero_at.0.seen = subst (λ (p : DoorPass). IsDoorDone o.sessions p.seen) at.is (subst (λ (n : ℕ). IsDoorDone n at.place.e.seen) sessions over) in
        subst (λ l. IsDoorDone o.sessions l) (sym seen.1) (over_later o.sessions zero_at.0.seen seen.0 found)

    -- Where all is done, all sessions were served or the count of closings rose.
    pub done_over : why ≡ cause.Done → (links ≡ o.sessions) ⊎ Rose first.closings now.closings
    done_over done = (let means = done_means parts.lost is.failed why is.why_is done in by (over_at_end means.0) (is.no_failure means.1)) where
      by : IsDoorDone o.sessions is.entries → failures_of is.entries ≡ 0 → (links ≡ o.sessions) ⊎ Rose first.closings now.closings
      by (inl many) none = (let few = few_links in inl (omega (arith, few, many, is.links_are)))
      by (inr (inl closed)) none = inr (subst (λ (x : DoorCounts). Rose x.closings now.closings) counts_first (is.counted.closings closed))
      by (inr (inr failed)) none = absurd (omega (arith, failed, none))

    -- where that is the cause, the door never failed
    pub done_sound : why ≡ cause.Done → now.faults ≡ first.faults
    done_sound done =
        let means = done_means parts.lost is.failed why is.why_is done in
        is.counted.sound (is.no_failure means.1) ∙ ap (λ (x : DoorCounts). x.faults) counts_first

    -- ---- all that comes back

    module _ {D : Type 0} (back : Served D L G) (passes_are : back.passes ≡ parts.passes.items) (gates_are : back.gates ≡ parts.gates.items) (links_are : back.links ≡ links_from 0 parts.works.links.items) (why_is : back.cause ≡ why) where
      -- What comes back of a worker's pass and gates is what serving its links made of them.
      kept_at : (k : ℕ) (vs : List ServedLink) (p q : RealmPass) (g h : G) → slice_get visits k ≡ Some vs → slice_get passes k ≡ Some p → slice_get back.passes k ≡ Some q → slice_get gates k ≡ Some g → slice_get back.gates k ≡ Some h → ServesVisits manifests vs p q (gates_view log_of faults_of g) (gates_view log_of faults_of h)
      kept_at k vs p q g h v_there p_there q_there g_there h_there =
          let place = pl.each k vs v_there in
          let p_same = same_Some place.p p (sym place.p_is ∙ p_there) in
          let q_same = same_Some place.q q (sym place.q_is ∙ subst (λ (l : List RealmPass). slice_get l k ≡ Some q) passes_are q_there) in
          let g_same = same_Some place.g g (sym place.g_is ∙ g_there) in
          let h_same = same_Some place.h h (sym place.h_is ∙ subst (λ (l : List G). slice_get l k ≡ Some h) gates_are h_there) in
          subst (λ (x : G). ServesVisits manifests vs p q (gates_view log_of faults_of g) (gates_view log_of faults_of x)) h_same
          (subst (λ (x : G). ServesVisits manifests vs p q (gates_view log_of faults_of x) (gates_view log_of faults_of place.h)) g_same
          (subst (λ (x : RealmPass). ServesVisits manifests vs p x (gates_view log_of faults_of place.g) (gates_view log_of faults_of place.h)) q_same
          (subst (λ (x : RealmPass). ServesVisits manifests vs x place.q (gates_view log_of faults_of place.g) (gates_view log_of faults_of place.h)) p_same place.served.serves)))

      -- The links that come back of a worker are those of its visits, as they are now.
      now_links : (k : ℕ) (r : Links L) (vs : List ServedLink) → slice_get parts.works.links.items k ≡ Some r → slice_get visits k ≡ Some vs → map view r.items ≡ map (λ v. v.now) vs
      now_links k r vs r_there v_there = (let place = pl.each k vs v_there in subst (λ (x : Links L). map view x.items ≡ map (λ v. v.now) vs) (same_Some place.r r (sym place.r_is ∙ r_there)) place.served.links_are)

      -- The workers have served all links that come back, with their passes and gates.
      pub serves_all : ServesAll log_of faults_of view manifests workers passes gates back
      serves_all = record {
        visits = visits;
        count = pl.count ∙ sixteen;
        links = ap (map (back_view view)) links_are ∙ merged view 0 parts.works.links.items visits (pl.links_long ∙ sym pl.count) now_links;
        came = all_places (λ (vs : List ServedLink). All (λ v. IsOfLink view v.was) vs) visits (λ k vs there. (pl.each k vs there).served.came);
        each = kept_at;
        idle = λ k vs past there. (pl.each k vs there).idle (idle_at k vs past there);
        stops = all_places StopsAtLoss visits (λ k vs there. (pl.each k vs there).stops);
        well = λ other. all_places AreWell visits (λ k vs there. (pl.each k vs there).well (well_means parts.lost is.failed why is.why_is (λ same. other (why_is ∙ same))));
        lost = λ memory. pl.lost (memory_means parts.lost is.failed why is.why_is (sym why_is ∙ memory));
      } where
        idle_at : (k : ℕ) (vs : List ServedLink) → workers ≤ k → (there : slice_get visits k ≡ Some vs) → workers ≤ (pl.each k vs there).d.caller
        idle_at k vs past there =
            let place = pl.each k vs there in
            let first : place.d ≡ new_pass door.lock o k = new_at door o 16 k place.d (subst (λ (l : List DoorPass). slice_get l k ≡ Some place.d) new place.d_is) in
            subst (λ (n : ℕ). workers ≤ n) (sym (ap (λ (p : DoorPass). p.caller) first)) past

      -- one pass with its gates, as it comes back
      record BackAt (k : ℕ) (q : RealmPass) : Type 0 where
        p : RealmPass
        g : GatesView
        h : GatesView
        there : slice_get passes k ≡ Some p
        keeps : KeepsOrNot manifests p q g h

      -- A pass that comes back keeps what it was with its gates, or nothing was done with it.
      back_at : (k : ℕ) (q : RealmPass) → slice_get back.passes k ≡ Some q → BackAt k q
      back_at k q there =
          let q_there : slice_get parts.passes.items k ≡ Some q = subst (λ (l : List RealmPass). slice_get l k ≡ Some q) passes_are there in
          let v = slice_get_some visits k (grind (arith, slice_get_within parts.passes.items k q q_there, pl.passes_long, pl.count)) in
          let place = pl.each k v.0 v.1 in
          record {
            p = place.p;
            g = gates_view log_of faults_of place.g;
            h = gates_view log_of faults_of place.h;
            there = place.p_is;
            keeps = subst (λ (x : RealmPass). KeepsOrNot manifests place.p x (gates_view log_of faults_of place.g) (gates_view log_of faults_of place.h)) (same_Some place.q q (sym place.q_is ∙ q_there)) (serves_keep manifests v.0 place.p place.q (gates_view log_of faults_of place.g) (gates_view log_of faults_of place.h) place.served.serves);
          }

      -- As many passes come back as there were.
      back_long : length back.passes ≡ length passes
      back_long = ap (λ (l : List RealmPass). length l) passes_are ∙ pl.passes_long

      -- Where the passes are those of sixteen callers, those that come back are.
      pub sixteen_back : (realm : LockView) → AreSixteen realm passes → AreSixteen realm back.passes
      sixteen_back realm are = record {
        lock = all_places (λ (p : RealmPass). p.lock ≡ realm.lock) back.passes (λ k q there. (let at = back_at k q there in lock_kept manifests at.p q at.g at.h at.keeps ∙ All_slice_get (λ (p : RealmPass). p.lock ≡ realm.lock) passes k at.p are.lock at.there));
        callers = map_same (λ (p : RealmPass). p.caller) passes back.passes back_long (λ k p q p_there q_there. (let at = back_at k q q_there in caller_kept manifests at.p q at.g at.h at.keeps ∙ ap (λ (p : RealmPass). p.caller) (same_Some at.p p (sym at.there ∙ p_there)))) ∙ are.callers;
      }

      -- Sixteen gates come back.
      pub gates_back : length back.gates ≡ 16
      gates_back = ap (λ (l : List G). length l) gates_are ∙ pl.gates_long ∙ sixteen

      -- Each pass that comes back keeps what it was with its gates, where all have their own entries.
      pub keeps_each : length gates ≡ 16 → All IsOwnPass passes → KeepsEach log_of faults_of manifests passes back.passes gates back.gates
      keeps_each many own = record {
        passes = back_long;
        gates = gates_back ∙ sym many;
        each = each;
      } where
        each : (k : ℕ) (p q : RealmPass) (g h : G) → slice_get passes k ≡ Some p → slice_get back.passes k ≡ Some q → slice_get gates k ≡ Some g → slice_get back.gates k ≡ Some h → KeepsPass manifests p q (gates_view log_of faults_of g) (gates_view log_of faults_of h)
        each k p q g h p_there q_there g_there h_there =
            let v = slice_get_some visits k (grind (arith, slice_get_within passes k p p_there, pl.count)) in
            keeps_kept manifests p q (gates_view log_of faults_of g) (gates_view log_of faults_of h) (All_slice_get IsOwnPass passes k p own p_there)
            (serves_keep manifests v.0 p q (gates_view log_of faults_of g) (gates_view log_of faults_of h) (kept_at k v.0 p q g h v.1 p_there q_there g_there h_there))

      -- Where all actions of the passes have their ends, those of the passes that come back do.
      pub ends_back : All (λ (p : RealmPass). HasEnds p.mine) passes → All (λ (p : RealmPass). HasEnds p.mine) back.passes
      ends_back ends = all_places (λ (p : RealmPass). HasEnds p.mine) back.passes (λ k q there. (let at = back_at k q there in after at.p q at.g at.h at.keeps (All_slice_get (λ (p : RealmPass). HasEnds p.mine) passes k at.p ends at.there))) where
        after : (p q : RealmPass) (g h : GatesView) → KeepsOrNot manifests p q g h → HasEnds p.mine → HasEnds q.mine
        after p q g h (inl same) has = subst (λ (x : RealmPass). HasEnds x.mine) (sym same.0) has
        after p q g h (inr keeps) has = grown_has_ends p.mine keeps.part q.mine has keeps.closed keeps.mine

-- ---- where nothing was done

-- Passes that have their callers' entries, and their gates, are kept where nothing is done.
pub keeps_all : {G : Type 0} (log_of : G → Option (List GateCall)) (faults_of : G → ℕ) (manifests : Manifests) (passes : List RealmPass) (gates : List G) → All IsOwnPass passes → KeepsEach log_of faults_of manifests passes passes gates gates
keeps_all log_of faults_of manifests passes gates own = record { passes = refl; gates = refl; each = each } where
  each : (k : ℕ) (p q : RealmPass) (g h : _) → slice_get passes k ≡ Some p → slice_get passes k ≡ Some q → slice_get gates k ≡ Some g → slice_get gates k ≡ Some h → KeepsPass manifests p q (gates_view log_of faults_of g) (gates_view log_of faults_of h)
  each k p q g h p_there q_there g_there h_there =
      subst (λ (x : RealmPass). KeepsPass manifests p x (gates_view log_of faults_of g) (gates_view log_of faults_of h)) (same_Some p q (sym p_there ∙ q_there))
      (subst (λ (x : _). KeepsPass manifests p p (gates_view log_of faults_of g) (gates_view log_of faults_of x)) (same_Some g h (sym g_there ∙ h_there))
      (keeps_nothing manifests p (gates_view log_of faults_of g) (All_slice_get IsOwnPass passes k p own p_there)))
