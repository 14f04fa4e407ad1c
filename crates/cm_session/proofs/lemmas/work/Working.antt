-- What one worker did, and what all did.
use Rattle.std.proofs.Common.{◌≡◌, ◌≢◌, ℕ, ◌<◌, ◌≤◌, Bool, true≢false, List, [], map, vec_capacity, Option, Some, refl, sym, ap, ◌∙◌, subst, arith}
use Rattle.std.proofs.lemmas.List.Elements.{All-nil}
use Rattle.std.proofs.lemmas.Option.{same_Some}
use Rattle.cm_gate.specs.declared.asked.GateCall.{GateCall}
use Rattle.cm_manager.specs.Contract.{RealmPass}
use Rattle.cm_manager.specs.Gated.{gates_view}
use Rattle.cm_manager.specs.Work.{Manifests}
use Rattle.cm_turn.specs.Passes.{LockView}
use Rattle.cm_session.specs.declared.ended.Ended.TheVariants as ended
use Rattle.cm_session.specs.Pool.{DidWork, IsReadyWorker, ServesLinks, Worker}
use Rattle.cm_session.specs.Doorway.{DoorPass, links_of, sessions_of}
use Rattle.cm_session.specs.Links.{LinkView}
use Rattle.cm_session.specs.Serving.{IsOfLink, ServesVisits, ServedLink, none_came}

module _ {G L : Type 0} (realm door : LockView) (workers : ℕ) (worker : Worker G L) (is : IsReadyWorker realm door workers worker) where
  -- The pass of a worker that is ready is of the realm's lock.
  pub ready_pass : (p : RealmPass) → worker.pass ≡ Some p → p.lock ≡ realm.lock
  ready_pass p there = ap (λ (x : RealmPass). x.lock) (same_Some p is.pass (sym there ∙ is.there)) ∙ is.of_realm

  -- A worker that is ready has one pass at the door.
  pub ready_door : (d : DoorPass) → worker.work.at_door ≡ Some d → d ≡ is.at_door
  ready_door d there = same_Some d is.at_door (sym there ∙ is.there_too)

-- what a worker that is ready hands to the loop
module _ {G L : Type 0} (realm door : LockView) (workers : ℕ) (worker : Worker G L) (is : IsReadyWorker realm door workers worker) (d : DoorPass) (there : worker.work.at_door ≡ Some d) where
  -- The pass at the door of a worker that is ready is of the door's lock.
  pub ready_lock : d.lock ≡ door.lock
  ready_lock = ap (λ (x : DoorPass). x.lock) (ready_door realm door workers worker is d there) ∙ is.of_door

  -- The pass at the door of a worker that is ready has no entries of its own yet.
  pub ready_new : d.mine ≡ []
  ready_new = ap (λ (x : DoorPass). x.mine) (ready_door realm door workers worker is d there) ∙ is.new

  -- A worker that is ready, and one of those that serve, has room for as many links as were asked for.
  pub ready_room : d.caller < workers → sessions_of d ≤ vec_capacity worker.work.links
  ready_room first =
      let same = ready_door realm door workers worker is d there in
      subst (λ (x : DoorPass). sessions_of x ≤ vec_capacity worker.work.links) (sym same) (is.room (subst (λ (x : DoorPass). x.caller < workers) same first))

module _ {G L : Type 0} (log_of : G → Option (List GateCall)) (faults_of : G → ℕ) (view : L → LinkView) (manifests : Manifests) (realm door : LockView) (workers : ℕ) (old new : Worker G L) (is : IsReadyWorker realm door workers old) where
  -- a worker that isn't one of the first so many
  pub worked_idle : (d : DoorPass) → old.work.at_door ≡ Some d → workers ≤ d.caller → new.work.at_door ≡ Some d → new.pass ≡ old.pass → new.gates ≡ old.gates → new.work.links ≡ old.work.links → new.lost ≡ old.lost → DidWork log_of faults_of view manifests workers old new
  worked_idle d there past back pass gates links lost = record {
    visits = [];
    worked = record {
      p = is.pass;
      q = is.pass;
      d = d;
      e = d;
      was = is.there;
      now = pass ∙ is.there;
      was_at_door = there;
      now_at_door = back;
      served = record {
        serves = subst (λ (g : G). ServesVisits manifests [] is.pass is.pass (gates_view log_of faults_of old.gates) (gates_view log_of faults_of g)) (sym gates) none_came;
        came = All-nil (λ (v : ServedLink). IsOfLink view v.was);
        links_are = ap (λ l. map view l.items) links ∙ ap (map view) is.none;
        at_door = record { lock = refl; frame = refl; caller = refl };
        counts = ap (λ (x : DoorPass). links_of x.mine) (ready_door realm door workers old is d there) ∙ ap links_of is.new;
      };
      idle = λ past. refl;
      lost = λ yes. absurd (true≢false (sym yes ∙ lost ∙ is.well));
      well = λ no. All-nil (λ (v : ServedLink). v.ended ≢ ended.Memory);
      over = λ no first. absurd (omega (arith, past, first));
    };
  }

  -- a worker that served links
  pub worked_served : (p q : RealmPass) (d e : DoorPass) (lost : Bool) → old.pass ≡ Some p → old.work.at_door ≡ Some d → d.caller < workers → new.pass ≡ Some q → new.work.at_door ≡ Some e → new.lost ≡ lost → ServesLinks view manifests p q (gates_view log_of faults_of old.gates) (gates_view log_of faults_of new.gates) d e new.work.links.items lost → DidWork log_of faults_of view manifests workers old new
  worked_served p q d e lost was was_at_door first now now_at_door lost_is served = record {
    visits = served.visits;
    worked = record {
      p = p;
      q = q;
      d = d;
      e = e;
      was = was;
      now = now;
      was_at_door = was_at_door;
      now_at_door = now_at_door;
      served = served.served;
      idle = λ past. absurd (omega (arith, past, first));
      lost = λ yes. served.stops.lost (sym lost_is ∙ yes);
      well = λ no. served.stops.well (sym lost_is ∙ no);
      over = λ no first. served.stops.over (sym lost_is ∙ no);
    };
  }
