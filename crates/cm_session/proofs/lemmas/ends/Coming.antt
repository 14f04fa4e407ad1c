-- All that is said of what comes back.
use Rattle.std.proofs.Common.{◌≡◌, ◌⊎◌, ℕ, ◌+◌, ◌<◌, ◌≤◌, List, All, length, Option, inl, inr, refl, sym, ap, ◌∙◌, subst, arith}
use Rattle.cm_gate.specs.declared.asked.GateCall.{GateCall}
use Rattle.cm_io.specs.Doors.{DoorPlace}
use Rattle.cm_io.specs.Outside.{Rose}
use Rattle.cm_io.specs.declared.door.DoorCounts.{DoorCounts}
use Rattle.cm_manager.specs.Closed.{HasEnds}
use Rattle.cm_manager.specs.Contract.{RealmPass}
use Rattle.cm_manager.specs.Kept.{AreSixteen, IsOwnPass, KeepsEach}
use Rattle.cm_manager.specs.Work.{Manifests}
use Rattle.cm_turn.specs.Passes.{AreAll, LockView, new_passes}
use Rattle.cm_session.specs.declared.doorway.Opening.{Opening}
use Rattle.cm_session.specs.declared.served.Cause.TheVariants as cause
use Rattle.cm_session.specs.declared.served.Served.{Served}
use Rattle.cm_session.specs.Closing.{ClosesDoor, CountsLinks, links_from}
use Rattle.cm_session.specs.Pool.{PoolWorked, Worker}
use Rattle.cm_session.specs.Doorway.{DoorPass}
use Rattle.cm_session.specs.Links.{LinkView}
use Rattle.cm_session.specs.PoolParts.{AreWorkerParts, Links, PoolParts}
use Rattle.cm_session.specs.Serving.{IsUnserved, ServedOrNot}
use Rattle.cm_session.proofs.lemmas.ends.Ending.{Made, places_of, visited_of}
use Rattle.cm_session.proofs.lemmas.ends.Finishing.{all_at_door, counts_links, done_over, ends_back, fault_rose, few_links, gates_back, keeps_all, keeps_each, links_counted, place_kept, serves_all, sixteen_back, done_sound}
use Rattle.cm_manager.proofs.lemmas.calling.Sixteen.{sixteen_long}

module _ {D L G : Type 0} (log_of : G → Option (List GateCall)) (faults_of : G → ℕ) (view : L → LinkView) (counts : D → DoorCounts) (place_of : D → DoorPlace) (manifests : Manifests) (realm : LockView) (sessions workers : ℕ) (passes : List RealmPass) (gates : List G) (door : D) where
  -- before the door is closed
  pub closing_ready : (lock : LockView) (at_door : List DoorPass) (rooms : List (Links L)) (xs ys : List (Worker G L)) (parts : PoolParts G L) (room : ℕ) → AreSixteen realm passes → at_door ≡ new_passes lock.lock (record { counts = counts door; place = place_of door; sessions = sessions }) 16 → Made passes at_door gates rooms xs → PoolWorked log_of faults_of view manifests workers xs ys → AreWorkerParts ys parts → lock.passes ≡ 16 → sessions ≤ room → AreAll lock parts.works.at_door.items × CountsLinks parts.works.at_door.items parts.works.links.items room
  closing_ready lock at_door rooms xs ys parts room are new made did taken many fits =
      let o : Opening = record { counts = counts door; place = place_of door; sessions = sessions } in
      let sixteen = sixteen_long realm passes are in
      let visited = visited_of log_of faults_of view manifests workers xs ys did.long did.each in
      let pl = places_of log_of faults_of view manifests workers passes at_door gates rooms xs ys parts visited.0 made did.long visited.1 taken in
      (all_at_door log_of faults_of view manifests workers lock o passes at_door gates parts visited.0 pl sixteen new many, counts_links log_of faults_of view manifests workers lock o passes at_door gates parts visited.0 pl sixteen new room fits)

module _ {D L G : Type 0} (log_of : G → Option (List GateCall)) (faults_of : G → ℕ) (view : L → LinkView) (counts : D → DoorCounts) (place_of : D → DoorPlace) (manifests : Manifests) (realm : LockView) (sessions workers : ℕ) (passes : List RealmPass) (gates : List G) (door : D) (back : Served D L G) where
  -- all that is said
  pub record Comes : Type 0 where
    pub served : ServedOrNot log_of faults_of view manifests workers passes gates door back
    pub passes_are : AreSixteen realm back.passes
    pub gates_are : length back.gates ≡ 16
    pub kept : All IsOwnPass passes → KeepsEach log_of faults_of manifests passes back.passes gates back.gates
    pub ended : All (λ (p : RealmPass). HasEnds p.mine) passes → All (λ (p : RealmPass). HasEnds p.mine) back.passes
    pub links : (counts back.door).links ≡ (counts door).links + length back.links
    pub place : place_of back.door ≡ place_of door
    pub few : length back.links ≤ sessions
    pub done : back.cause ≡ cause.Done → (length back.links ≡ sessions) ⊎ Rose (counts door).closings (counts back.door).closings
    pub fault : back.cause ≡ cause.DoorFault → Rose (counts door).faults (counts back.door).faults
    pub sound : back.cause ≡ cause.Done → (counts back.door).faults ≡ (counts door).faults

  -- where nothing was done
  pub comes_not : AreSixteen realm passes → length gates ≡ 16 → IsUnserved passes gates door back → Comes
  comes_not are many is =
      let none : length back.links ≡ 0 = ap (λ (l : List _). length l) is.no_links in
      let same : (counts back.door).links ≡ (counts door).links = ap (λ (d : D). (counts d).links) is.same_door in
      record {
        served = inr is;
        passes_are = subst (AreSixteen realm) (sym is.same_passes) are;
        gates_are = ap (λ (l : List G). length l) is.same_gates ∙ many;
        kept = λ own. subst (λ (l : List RealmPass). KeepsEach log_of faults_of manifests passes l gates back.gates) (sym is.same_passes) (subst (λ (l : List G). KeepsEach log_of faults_of manifests passes passes gates l) (sym is.same_gates) (keeps_all log_of faults_of manifests passes gates own));
        ended = λ ends. subst (λ (l : List RealmPass). All (λ (p : RealmPass). HasEnds p.mine) l) (sym is.same_passes) ends;
        links = omega (arith, none, same);
        place = ap place_of is.same_door;
        few = omega (arith, none);
        done = λ e. absurd (cc (sym is.memory ∙ e));
        fault = λ e. absurd (cc (sym is.memory ∙ e));
        sound = λ e. absurd (cc (sym is.memory ∙ e));
      }

  -- where links were served
  pub comes : (lock : LockView) (at_door : List DoorPass) (rooms : List (Links L)) (xs ys : List (Worker G L)) (parts : PoolParts G L) → AreSixteen realm passes → length gates ≡ 16 → 0 < workers → at_door ≡ new_passes lock.lock (record { counts = counts door; place = place_of door; sessions = sessions }) 16 → Made passes at_door gates rooms xs → PoolWorked log_of faults_of view manifests workers xs ys → AreWorkerParts ys parts → ClosesDoor parts.works.at_door.items (counts back.door) (place_of back.door) (length back.links) parts.lost back.cause → back.passes ≡ parts.passes.items → back.gates ≡ parts.gates.items → back.links ≡ links_from 0 parts.works.links.items → Comes
  comes lock at_door rooms xs ys parts are many some new made did taken closes passes_are gates_are links_are =
      let o : Opening = record { counts = counts door; place = place_of door; sessions = sessions } in
      let sixteen = sixteen_long realm passes are in
      let visited = visited_of log_of faults_of view manifests workers xs ys did.long did.each in
      let pl = places_of log_of faults_of view manifests workers passes at_door gates rooms xs ys parts visited.0 made did.long visited.1 taken in
      record {
        served = inl (serves_all log_of faults_of view manifests workers lock o passes at_door gates parts visited.0 pl sixteen new (counts door) refl some (counts back.door) (place_of back.door) (length back.links) back.cause closes back passes_are gates_are links_are refl);
        passes_are = sixteen_back log_of faults_of view manifests workers lock o passes at_door gates parts visited.0 pl sixteen new (counts door) refl some (counts back.door) (place_of back.door) (length back.links) back.cause closes back passes_are gates_are links_are refl realm are;
        gates_are = gates_back log_of faults_of view manifests workers lock o passes at_door gates parts visited.0 pl sixteen new (counts door) refl some (counts back.door) (place_of back.door) (length back.links) back.cause closes back passes_are gates_are links_are refl;
        kept = keeps_each log_of faults_of view manifests workers lock o passes at_door gates parts visited.0 pl sixteen new (counts door) refl some (counts back.door) (place_of back.door) (length back.links) back.cause closes back passes_are gates_are links_are refl many;
        ended = ends_back log_of faults_of view manifests workers lock o passes at_door gates parts visited.0 pl sixteen new (counts door) refl some (counts back.door) (place_of back.door) (length back.links) back.cause closes back passes_are gates_are links_are refl;
        links = links_counted log_of faults_of view manifests workers lock o passes at_door gates parts visited.0 pl sixteen new (counts door) refl some (counts back.door) (place_of back.door) (length back.links) back.cause closes;
        place = place_kept log_of faults_of view manifests workers lock o passes at_door gates parts visited.0 pl sixteen new (counts door) refl some (counts back.door) (place_of back.door) (length back.links) back.cause closes;
        few = few_links log_of faults_of view manifests workers lock o passes at_door gates parts visited.0 pl sixteen new (counts door) refl some (counts back.door) (place_of back.door) (length back.links) back.cause closes;
        done = done_over log_of faults_of view manifests workers lock o passes at_door gates parts visited.0 pl sixteen new (counts door) refl some (counts back.door) (place_of back.door) (length back.links) back.cause closes;
        fault = fault_rose log_of faults_of view manifests workers lock o passes at_door gates parts visited.0 pl sixteen new (counts door) refl some (counts back.door) (place_of back.door) (length back.links) back.cause closes;
        sound = done_sound log_of faults_of view manifests workers lock o passes at_door gates parts visited.0 pl sixteen new (counts door) refl some (counts back.door) (place_of back.door) (length back.links) back.cause closes;
      }
