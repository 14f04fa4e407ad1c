-- A worker, from turn to turn and from link to link.
use Rattle.std.proofs.Common.{◌≡◌, ◌≢◌, ℕ, ◌+◌, ◌<◌, ◌≤◌, true, false, true≢false, List, [], ◌∷◌, ◌++◌, All, map, length, set, get_or, Option, Some, None, refl, sym, ap, ◌∙◌, subst, arith}
use Rattle.std.proofs.lemmas.List.{map-append, length-append, length-map}
use Rattle.std.proofs.lemmas.List.Elements.{All-push, All-nil}
use Rattle.std.proofs.Math.Seq.{get_or-append_seam, set-append_seam}
use Rattle.cm_io.specs.declared.door.Accept.{Accept}
use Rattle.cm_io.specs.declared.door.Accept.TheVariants as accept
use Rattle.cm_manager.specs.Contract.{GatesView, RealmPass}
use Rattle.cm_manager.specs.Work.{Manifests}
use Rattle.cm_turn.specs.Passes.{LockView}
use Rattle.cm_session.specs.declared.ended.Ended.{Ended}
use Rattle.cm_session.specs.declared.ended.Ended.TheVariants as ended
use Rattle.cm_session.specs.Pool.{HasServed, ServesLink, ServesLinks}
use Rattle.cm_session.specs.Doorway.{DoorPass, IsLater, OnGiven, TakesTurn, links_of, sessions_in, sessions_of}
use Rattle.cm_session.specs.Links.{LinkView}
use Rattle.cm_session.specs.Serving.{AreWell, IsNewLink, IsOfLink, ServedLink, none_came}
use Rattle.cm_session.specs.Session.{Session}
use Rattle.cm_session.proofs.lemmas.links.Accepts.{counts_given, given_by}
use Rattle.cm_session.proofs.lemmas.links.Visits.{serves_more}

-- A sum whose second part is zero is equal to what its first part is equal to.
pub no_more : (x y z n : ℕ) → x ≡ y + z → z ≡ 0 → y ≡ n → x ≡ n
no_more x y z n more none is = grind (arith, more, none, is)

-- A pass at the door that is later than a second, which is later than a third, is later than that.
pub later_then : (d e f : DoorPass) → IsLater d e → IsLater e f → IsLater d f
later_then d e f a b = record { lock = b.lock ∙ a.lock; frame = b.frame ∙ a.frame; caller = b.caller ∙ a.caller }

module _ {L : Type 0} (view : L → LinkView) (manifests : Manifests) where
  -- a worker serves, and may go on
  pub record Going (door : LockView) (p q : RealmPass) (g h : GatesView) (d e : DoorPass) (links : List L) (capacity : ℕ) : Type 0 where
    pub visits : List ServedLink
    pub served : HasServed view manifests visits p q g h d e links
    pub well : AreWell visits
    pub of_door : e.lock ≡ door.lock
    pub room : sessions_of e ≤ capacity

  -- A worker without entries or links may go on, where it has room for as many as were asked for.
  pub going_none : (door : LockView) (p : RealmPass) (g : GatesView) (d : DoorPass) (links : List L) (capacity : ℕ) → d.lock ≡ door.lock → d.mine ≡ [] → links ≡ [] → sessions_of d ≤ capacity → Going door p p g g d d links capacity
  going_none door p g d links capacity of_door new none room = record {
    visits = [];
    served = record {
      serves = none_came;
      came = All-nil (λ (v : ServedLink). IsOfLink view v.was);
      links_are = ap (map view) none;
      at_door = record { lock = refl; frame = refl; caller = refl };
      counts = ap links_of new;
    };
    well = All-nil (λ (v : ServedLink). v.ended ≢ ended.Memory);
    of_door = of_door;
    room = room;
  }

  -- a turn that gave no link
  abbrev pub going_on : (door : LockView) (p q : RealmPass) (g h : GatesView) (d e f : DoorPass) (links : List L) (capacity : ℕ) (a : Option (Accept L)) → Going door p q g h d e links capacity → TakesTurn e f a → given_by a ≡ 0 → Going door p q g h d f links capacity
  going_on door p q g h d e f links capacity a is turn none = record {
    visits = is.visits;
    served = record {
      serves = is.served.serves;
      came = is.served.came;
      links_are = is.served.links_are;
      at_door = later_then d e f is.served.at_door turn.same;
      counts = no_more (links_of f.mine) (links_of e.mine) (given_by a) (length is.visits) (counts_given e f a turn) none is.served.counts;
    };
    well = is.well;
    of_door = turn.same.lock ∙ is.of_door;
    room = subst (λ (n : ℕ). n ≤ capacity) (sym (ap sessions_in turn.same.frame)) is.room;
  }

  -- there is room for a link that came
  pub fits : (door : LockView) (p q : RealmPass) (g h : GatesView) (d e f : DoorPass) (links : List L) (capacity : ℕ) (l : L) → Going door p q g h d e links capacity → TakesTurn e f (Some (accept.Link l)) → length links < capacity
  fits door p q g h d e f links capacity l is turn =
      let as_many : length links ≡ length is.visits = sym (length-map links view) ∙ ap (λ (l : List LinkView). length l) is.served.links_are ∙ length-map is.visits (λ (v : ServedLink). v.now) in
      let sessions : sessions_of f ≡ sessions_of e = ap sessions_in turn.same.frame in
      grind (arith, as_many, sessions, counts_given e f (Some (accept.Link l)) turn, turn.few, is.served.counts, is.room)

  -- a link that came was served
  pub served_more : (visits : List ServedLink) (p q r : RealmPass) (g h k : GatesView) (d e f : DoorPass) (links links' : List L) (l : L) (end : Ended) → HasServed view manifests visits p q g h d e links → TakesTurn e f (Some (accept.Link l)) → IsNewLink (view l) → (s : ServesLink view manifests q r h k l links links' end) → HasServed view manifests (visits ++ record { was = view l; now = view s.now; ended = end } ∷ []) p r g k d f links'
  served_more visits p q r g h k d e f links links' l end is turn new s =
      let v : ServedLink = record { was = view l; now = view s.now; ended = end } in record {
        serves = serves_more manifests visits v p q r g h k is.serves (record { new = new; session = s.session });
        came = All-push (λ (v : ServedLink). IsOfLink view v.was) visits v is.came (l, refl);
        links_are = ap (map view) s.links ∙ map-append view links (s.now ∷ []) ∙ ap (λ (x : List LinkView). x ++ view s.now ∷ []) is.links_are ∙ sym (map-append (λ (v : ServedLink). v.now) visits (v ∷ []));
        at_door = later_then d e f is.at_door turn.same;
        counts = grind (arith, counts_given e f (Some (accept.Link l)) turn, is.counts, length-append visits (v ∷ []));
      }

  -- and the worker goes on
  pub going_served : (door : LockView) (p q r : RealmPass) (g h k : GatesView) (d e f : DoorPass) (links links' : List L) (capacity : ℕ) (l : L) (end : Ended) → Going door p q g h d e links capacity → TakesTurn e f (Some (accept.Link l)) → IsNewLink (view l) → ServesLink view manifests q r h k l links links' end → end ≢ ended.Memory → Going door p r g k d f links' capacity
  going_served door p q r g h k d e f links links' capacity l end is turn new s well = record {
    visits = is.visits ++ record { was = view l; now = view s.now; ended = end } ∷ [];
    served = served_more is.visits p q r g h k d e f links links' l end is.served turn new s;
    well = All-push (λ (v : ServedLink). v.ended ≢ ended.Memory) is.visits (record { was = view l; now = view s.now; ended = end }) is.well well;
    of_door = turn.same.lock ∙ is.of_door;
    room = subst (λ (n : ℕ). n ≤ capacity) (sym (ap sessions_in turn.same.frame)) is.room;
  }

  -- or it stops, for lack of memory
  pub stops_lost : (door : LockView) (p q r : RealmPass) (g h k : GatesView) (d e f : DoorPass) (links links' : List L) (capacity : ℕ) (l : L) (end : Ended) → Going door p q g h d e links capacity → TakesTurn e f (Some (accept.Link l)) → IsNewLink (view l) → ServesLink view manifests q r h k l links links' end → end ≡ ended.Memory → ServesLinks view manifests p r g k d f links' true
  stops_lost door p q r g h k d e f links links' capacity l end is turn new s lost = record {
    visits = is.visits ++ record { was = view l; now = view s.now; ended = end } ∷ [];
    served = served_more is.visits p q r g h k d e f links links' l end is.served turn new s;
    stops = record {
      lost = λ yes. record {
        before = is.visits;
        last = record { was = view l; now = view s.now; ended = end };
        visits_are = refl;
        well = is.well;
        lost = lost;
      };
      well = λ no. absurd (true≢false no);
      over = λ no. absurd (true≢false no);
    };
  }

  -- or because no further accept is due
  pub stops_over : (door : LockView) (p q : RealmPass) (g h : GatesView) (d e f : DoorPass) (links : List L) (capacity : ℕ) (a : Option (Accept L)) → Going door p q g h d e links capacity → TakesTurn e f a → a ≡ None → ServesLinks view manifests p q g h d f links false
  stops_over door p q g h d e f links capacity a is turn none = record {
    visits = is.visits;
    served = (going_on door p q g h d e f links capacity a is turn (ap given_by none)).served;
    stops = record {
      lost = λ yes. absurd (true≢false (sym yes));
      well = λ no. is.well;
      over = λ no. turn.over none;
    };
  }

-- a link was put last, and served there
pub served_in_place : {L : Type 0} (view : L → LinkView) (manifests : Manifests) (p q : RealmPass) (g h : GatesView) (link x now : L) (old pushed new : List L) (n : ℕ) (end : Ended) → n ≡ length old → pushed ≡ old ++ link ∷ [] → x ≡ get_or pushed n x → new ≡ set pushed n now → Session manifests p q g h (view x) (view now) end → ServesLink view manifests p q g h link old new end
served_in_place view manifests p q g h link x now old pushed new n end n_is pushed_is x_is new_is is = record {
  now = now;
  links = new_is ∙ ap (λ (l : List _). set l n now) pushed_is ∙ ap (λ (k : ℕ). set (old ++ link ∷ []) k now) n_is ∙ set-append_seam old link [] now;
  session = subst (λ (l : _). Session manifests p q g h (view l) (view now) end) (x_is ∙ ap (λ (l : List _). get_or l n x) pushed_is ∙ ap (λ (k : ℕ). get_or (old ++ link ∷ []) k x) n_is ∙ get_or-append_seam old link [] x) is;
}

-- ---- by what a turn came to

-- A turn that gave a link is the turn with that accept.
given_link : {L : Type 0} (d e : DoorPass) (a : Option (Accept L)) (l : L) → TakesTurn d e a → a ≡ Some (accept.Link l) → TakesTurn d e (Some (accept.Link l))
given_link d e a l turn is = subst (λ (x : Option (Accept _)). TakesTurn d e x) is turn

-- What holds of the link that a turn gave holds of the link.
new_link : {L : Type 0} (P : L → Type 0) (a : Option (Accept L)) (l : L) → OnGiven a P → a ≡ Some (accept.Link l) → P l
new_link P a l new is = subst (λ (x : Option (Accept _)). OnGiven x P) is new

module _ {L : Type 0} (view : L → LinkView) (manifests : Manifests) (door : LockView) (p q : RealmPass) (g h : GatesView) (d e f : DoorPass) (links : List L) (capacity : ℕ) (is : Going view manifests door p q g h d e links capacity) (a : Option (Accept L)) (turn : TakesTurn e f a) where
  -- it closed
  pub on_closed : a ≡ Some accept.Closed → Going view manifests door p q g h d f links capacity
  on_closed closed = going_on view manifests door p q g h d e f links capacity a is turn (ap given_by closed)

  -- it failed
  pub on_failed : a ≡ Some accept.Failed → Going view manifests door p q g h d f links capacity
  on_failed failed = going_on view manifests door p q g h d e f links capacity a is turn (ap given_by failed)

  -- there is room for a link
  pub on_room : (l : L) → a ≡ Some (accept.Link l) → length links < capacity
  on_room l given = fits view manifests door p q g h d e f links capacity l is (given_link e f a l turn given)

  -- a link was served
  pub on_served : (l : L) (r : RealmPass) (k : GatesView) (links' : List L) (capacity' : ℕ) (end : Ended) → a ≡ Some (accept.Link l) → OnGiven a (λ l. IsNewLink (view l)) → ServesLink view manifests q r h k l links links' end → capacity' ≡ capacity → end ≢ ended.Memory → Going view manifests door p r g k d f links' capacity'
  on_served l r k links' capacity' end given new s same well = subst (λ (n : ℕ). Going view manifests door p r g k d f links' n) (sym same)
      (going_served view manifests door p q r g h k d e f links links' capacity l end is (given_link e f a l turn given) (new_link (λ l. IsNewLink (view l)) a l new given) s well)

  -- and that was the last one
  pub on_lost : (l : L) (r : RealmPass) (k : GatesView) (links' : List L) (end : Ended) → a ≡ Some (accept.Link l) → OnGiven a (λ l. IsNewLink (view l)) → ServesLink view manifests q r h k l links links' end → end ≡ ended.Memory → ServesLinks view manifests p r g k d f links' true
  on_lost l r k links' end given new s lost = stops_lost view manifests door p q r g h k d e f links links' capacity l end is (given_link e f a l turn given) (new_link (λ l. IsNewLink (view l)) a l new given) s lost

  -- no accept was due
  pub on_over : a ≡ None → ServesLinks view manifests p q g h d f links false
  on_over none = stops_over view manifests door p q g h d e f links capacity a is turn none
