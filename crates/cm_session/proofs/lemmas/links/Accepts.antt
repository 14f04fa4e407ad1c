-- What one accept more counts.
use Rattle.std.proofs.Common.{◌≡◌, ◌==◌, ℕ, ◌+◌, ◌≤◌, Bool, true, false, cond, List, [], ◌∷◌, ◌++◌, All, filter, length, Option, Some, None, ap, ◌∙◌, inl, inr, arith, refl, sym, subst, append-nil}
use Rattle.std.proofs.lemmas.List.{length-append}
use Rattle.std.proofs.lemmas.List.Elements.{filter-append, All-push, All-nil}
use Rattle.cm_io.specs.declared.door.Accept.{Accept}
use Rattle.cm_io.specs.declared.door.Accept.TheVariants as accept
use Rattle.cm_turn.specs.Passes.{HeldView, Enters, LeavesTurn, IsOwn, with_state}
use Rattle.cm_session.specs.declared.doorway.Accepted.{Accepted}
use Rattle.cm_session.specs.declared.doorway.Accepting.{Accepting}
use Rattle.cm_session.specs.declared.doorway.Accepting.TheVariants as came
use Rattle.cm_session.specs.declared.doorway.Opening.{Opening}
use Rattle.cm_session.specs.Doorway.{accepted_by, came_of, closings_of, failures_of, is_closing, is_failure, is_link, links_of, sessions_in, sessions_of, DoorPass, DoorwayView, IsLater, IsDoorDone, TakesTurn, TurnedBy}

-- how many of a list's entries pass, with more behind them
pub count_more : {A : Type 0} (p : A → Bool) (xs ys : List A) → length (filter p (xs ++ ys)) ≡ length (filter p xs) + length (filter p ys)
count_more p xs ys = ap (λ (l : List _). length l) (filter-append p xs ys) ∙ length-append (filter p xs) (filter p ys)

-- an accept by this worker
abbrev pub entry_of : ℕ → Accepting → Accepted
entry_of w c = record { worker = w; came = c }

-- what an entry counts
pub record CountsMore (es fs : List Accepted) (links closings failures : ℕ) : Type 0 where
  pub links_are : links_of fs ≡ links_of es + links
  pub closings_are : closings_of fs ≡ closings_of es + closings
  pub failures_are : failures_of fs ≡ failures_of es + failures
  pub long : length fs ≡ length es + 1

-- One accept more counts as the link, the closing or the failure that it is.
counts_with : (es : List Accepted) (e : Accepted) → CountsMore es (es ++ e ∷ []) (length (filter is_link (e ∷ []))) (length (filter is_closing (e ∷ []))) (length (filter is_failure (e ∷ [])))
counts_with es e = record {
  links_are = count_more is_link es (e ∷ []);
  closings_are = count_more is_closing es (e ∷ []);
  failures_are = count_more is_failure es (e ∷ []);
  long = length-append es (e ∷ []);
}

-- One accept more that gave a link counts as one link and as nothing else.
pub with_link : (es : List Accepted) (w : ℕ) → CountsMore es (es ++ entry_of w came.Link ∷ []) 1 0 0
with_link es w = counts_with es (entry_of w came.Link)

-- One accept more that told that no further link comes counts as one closing and as nothing else.
pub with_closing : (es : List Accepted) (w : ℕ) → CountsMore es (es ++ entry_of w came.Closed ∷ []) 0 1 0
with_closing es w = counts_with es (entry_of w came.Closed)

-- One accept more that told that the door failed counts as one failure and as nothing else.
pub with_failure : (es : List Accepted) (w : ℕ) → CountsMore es (es ++ entry_of w came.Failed ∷ []) 0 0 1
with_failure es w = counts_with es (entry_of w came.Failed)

-- what is over stays so
pub over_later : (sessions : ℕ) (es more : List Accepted) → IsDoorDone sessions es → IsDoorDone sessions (es ++ more)
over_later sessions es more (inl many) = inl (grind (arith, many, count_more is_link es more))
over_later sessions es more (inr (inl closed)) = inr (inl (grind (arith, closed, count_more is_closing es more)))
over_later sessions es more (inr (inr failed)) = inr (inr (grind (arith, failed, count_more is_failure es more)))

-- what a turn adds are entries of its worker
pub turn_adds : {L : Type 0} (w sessions : ℕ) (found left : List Accepted) (a : Option (Accept L)) → TurnedBy w sessions found left a → (es : List Accepted) × (left ≡ found ++ es) × All (λ (e : Accepted). e.worker ≡ w) es
turn_adds w sessions found left (Some a) is = (entry_of w (came_of a) ∷ [], is, All-push (λ (e : Accepted). e.worker ≡ w) [] (entry_of w (came_of a)) (All-nil (λ (e : Accepted). e.worker ≡ w)) refl)
turn_adds w sessions found left None is = ([], is.0 ∙ sym (append-nil found), All-nil (λ (e : Accepted). e.worker ≡ w))

-- of a list's links, those of some entries are no more
pub links_within : (p : Accepted → Bool) (es : List Accepted) → links_of (filter p es) ≤ links_of es
links_within p [] = grind arith
links_within p (e ∷ es) = within (p e) (links_within p es) where
  within : (b : Bool) → links_of (filter p es) ≤ links_of es → links_of (cond b (e ∷ filter p es) (filter p es)) ≤ links_of (e ∷ es)
  within true less = grind (arith, less, count_more is_link (e ∷ []) (filter p es), count_more is_link (e ∷ []) es)
  within false less = grind (arith, less, count_more is_link (e ∷ []) es)

-- how many links a turn gave
abbrev pub given_by : {L : Type 0} → Option (Accept L) → ℕ
given_by (Some (accept.Link l)) = 1
given_by (Some accept.Closed) = 0
given_by (Some accept.Failed) = 0
given_by None = 0

-- A turn counts as many links among the pass's own entries as it was given.
pub counts_given : {L : Type 0} (p q : DoorPass) (a : Option (Accept L)) → TakesTurn p q a → links_of q.mine ≡ links_of p.mine + given_by a
counts_given p q (Some (accept.Link l)) turn = ap links_of turn.made ∙ (with_link p.mine p.caller).links_are
counts_given p q (Some accept.Closed) turn = ap links_of turn.made ∙ (with_closing p.mine p.caller).links_are
counts_given p q (Some accept.Failed) turn = ap links_of turn.made ∙ (with_failure p.mine p.caller).links_are
counts_given p q None turn = ap links_of (turn.made ∙ append-nil p.mine) ∙ grind arith

-- what a turn leaves among the pass's own entries
made_by : {L : Type 0} (w sessions : ℕ) (found left mine mine' : List Accepted) (a : Option (Accept L)) → TurnedBy w sessions found left a → ((es : List Accepted) → left ≡ found ++ es → mine' ≡ mine ++ es) → mine' ≡ mine ++ accepted_by w a
made_by w sessions found left mine mine' (Some a) is grows = grows (entry_of w (came_of a) ∷ []) is
made_by w sessions found left mine mine' None is grows = grows [] (is.0 ∙ sym (append-nil found))

-- where no accept is due, what was found is over
pub over_found : {L : Type 0} (w sessions : ℕ) (found left : List Accepted) (a : Option (Accept L)) → TurnedBy w sessions found left a → a ≡ None → IsDoorDone sessions left
over_found w sessions found left (Some a) is none = absurd (cc none)
over_found w sessions found left None is none = subst (IsDoorDone sessions) (sym is.0) is.1

-- A worker's whole turn at the door, by what it found there and what it left.
pub turn_taken : {L : Type 0} (p q : DoorPass) (o : Opening) (found left : List Accepted) (a : Option (Accept L)) → p.frame ≡ Some o → TurnedBy p.caller o.sessions found left a → links_of left ≤ o.sessions → IsLater p q → q.seen ≡ left → IsOwn (λ (e : Accepted). e.worker) q → ((es : List Accepted) → left ≡ found ++ es → q.mine ≡ p.mine ++ es) → TakesTurn p q a
turn_taken p q o found left a framed turned few same seen own grows =
    let sessions : sessions_of q ≡ o.sessions = ap sessions_in (same.frame ∙ framed) in
    let within : links_of q.mine ≤ links_of q.seen = subst (λ (l : List Accepted). links_of l ≤ links_of q.seen) own (links_within (λ (e : Accepted). e.worker == q.caller) q.seen) in
    let seen_few : links_of q.seen ≤ o.sessions = subst (λ (l : List Accepted). links_of l ≤ o.sessions) (sym seen) few in
    record {
      same = same;
      made = made_by p.caller o.sessions found left p.mine q.mine a turned grows;
      few = grind (arith, sessions, within, seen_few);
      over = λ none. subst (λ (n : ℕ). IsDoorDone n q.seen) (sym sessions) (subst (IsDoorDone o.sessions) (sym seen) (over_found p.caller o.sessions found left a turned none));
    }

-- what an enter and a leave of a door's turn say
abbrev pub DoorEnters : {D : Type 0} → DoorPass → HeldView (DoorwayView D) Accepted Opening → Type 0
DoorEnters {D} p h = Enters (λ (s : DoorwayView D). s.entries) (λ (s : DoorwayView D). s.opening) (λ (e : Accepted). e.worker) p h

-- This pass has left a held turn at the door, and has seen all of the door's entries then.
abbrev pub DoorLeaves : {D : Type 0} → HeldView (DoorwayView D) Accepted Opening → DoorPass → Type 0
DoorLeaves {D} h q = LeavesTurn (λ (s : DoorwayView D). s.entries) (λ (e : Accepted). e.worker) h q

-- the door's entries as the pass in a held turn has seen them
seen_as : {D : Type 0} (p : DoorPass) (h : HeldView (DoorwayView D) Accepted Opening) (x : DoorwayView D) → DoorEnters p h → x ≡ h.state → h.pass.seen ≡ x.entries
seen_as {D} p h x e is = ap (λ (q : DoorPass). q.seen) e.pass ∙ ap (λ (s : DoorwayView D). s.entries) (sym is)

-- what a turn adds to what its pass had seen
pub turn_adds_to : {D L : Type 0} (p : DoorPass) (h : HeldView (DoorwayView D) Accepted Opening) (x y : DoorwayView D) (w : ℕ) (a : Option (Accept L)) → DoorEnters p h → x ≡ h.state → w ≡ p.caller → TurnedBy w x.opening.sessions x.entries y.entries a → (es : List Accepted) × (y.entries ≡ h.pass.seen ++ es) × All (λ (e : Accepted). e.worker ≡ h.pass.caller) es
turn_adds_to p h x y w a e is w_is turned =
    let adds = turn_adds w x.opening.sessions x.entries y.entries a turned in
    let caller : h.pass.caller ≡ w = ap (λ (q : DoorPass). q.caller) e.pass ∙ sym w_is in
    (adds.0, subst (λ (l : List Accepted). y.entries ≡ l ++ adds.0) (sym (seen_as p h x e is)) adds.1, subst (λ (n : ℕ). All (λ (e : Accepted). e.worker ≡ n) adds.0) (sym caller) adds.2)

-- a whole turn, by its enter, its accept and its leave
pub turn_by : {D L : Type 0} (p : DoorPass) (h : HeldView (DoorwayView D) Accepted Opening) (q : DoorPass) (x y : DoorwayView D) (w : ℕ) (a : Option (Accept L)) → DoorEnters p h → x ≡ h.state → w ≡ p.caller → TurnedBy w x.opening.sessions x.entries y.entries a → y.opening ≡ x.opening → links_of y.entries ≤ y.opening.sessions → DoorLeaves (with_state h y) q → TakesTurn p q a
turn_by {D} p h q x y w a e is w_is turned opening few l =
    let framed : p.frame ≡ Some x.opening = e.frame ∙ ap (λ (s : DoorwayView D). Some s.opening) (sym is) in
    let turned_here : TurnedBy p.caller x.opening.sessions x.entries y.entries a = subst (λ (n : ℕ). TurnedBy n x.opening.sessions x.entries y.entries a) w_is turned in
    let few_here : links_of y.entries ≤ x.opening.sessions = subst (λ (o : Opening). links_of y.entries ≤ o.sessions) opening few in
    let same : IsLater p q = record {
      lock = l.lock ∙ ap (λ (x : DoorPass). x.lock) e.pass;
      frame = l.frame ∙ ap (λ (x : DoorPass). x.frame) e.pass;
      caller = l.caller ∙ ap (λ (x : DoorPass). x.caller) e.pass;
    } in
    let mine_is : h.pass.mine ≡ p.mine = ap (λ (x : DoorPass). x.mine) e.pass in
    turn_taken p q x.opening x.entries y.entries a framed turned_here few_here same l.seen l.own
    (λ es more. l.mine es (more ∙ ap (λ (l : List Accepted). l ++ es) (sym (seen_as p h x e is))) ∙ ap (λ (l : List Accepted). l ++ es) mine_is)
