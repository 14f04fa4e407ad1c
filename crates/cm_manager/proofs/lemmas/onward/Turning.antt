-- What a turn comes to, from what its step is.
use Rattle.std.proofs.Common.{◌≡◌, ℕ, ◌<◌, ◌≤◌, List, [], ◌∷◌, ◌++◌, All, Bool, Option, Some, None, Result, Ok, Err, IfNone, refl, sym, ap, subst, ◌∙◌, append-nil}
use Rattle.std.proofs.lemmas.List.Elements.{All-cons, All-nil}
use Rattle.cm_turn.specs.History.{StartsWith}
use Rattle.cm_turn.specs.Passes.{HeldView, Enters, LeavesTurn, seen_up_to, with_state}
use Rattle.cm_world.specs.declared.event.Event.{Event}
use Rattle.cm_world.specs.declared.event.Event.TheVariants as event
use Rattle.cm_world.specs.declared.frame.Frame.{Frame}
use Rattle.cm_world.specs.declared.action.Finish.{Finish}
use Rattle.cm_world.specs.declared.action.Outcome.{Outcome}
use Rattle.cm_world.specs.declared.answer.Refusal.{Refusal}
use Rattle.cm_world.specs.declared.answer.Refusal.TheVariants as refusal
use Rattle.cm_world.specs.declared.reply.Entry.{Entry}
use Rattle.cm_world.specs.declared.reply.Reply.{Reply}
use Rattle.cm_world.specs.declared.reply.Reply.TheVariants as reply
use Rattle.cm_world.specs.World.{World, start, outcome_of}
use Rattle.cm_world.specs.Expiring.{runs_once}
use Rattle.cm_world.specs.Step.{MayEnd}
use Rattle.cm_world.specs.Legal.{Legal}
use Rattle.cm_world.proofs.lemmas.trees.Histories.{Legal-push}
use Rattle.cm_laws.specs.Story.{Story, world_of, IsLegal, AddsEntry, entry_of}
use Rattle.cm_steps.specs.Needs.{need}
use Rattle.cm_steps.specs.Requests.{Steps, RefusesEvent, EventWaitsFor}
use Rattle.cm_steps.specs.Steps.{RealmHasRoom, LacksRoom}
use Rattle.cm_laws.specs.Laws.{IsJoined}
use Rattle.cm_steps.specs.declared.nostep.NoStep.{NoStep}
use Rattle.cm_steps.specs.declared.nostep.NoStep.TheVariants as nostep
use Rattle.cm_manager.specs.Turns.{world_after, own_entries, wanted, IsLaterHistory, AddsOneEntry, AddsWithinRoom, EndsWithoutEntry}
use Rattle.cm_manager.specs.Contract.{RealmPass, IsSamePass}
use Rattle.cm_manager.specs.Asking.{frame_in, frame_of, AwaitsBy, Turned, RecordsEvent, Awaited, RecordsOutcome}
use Rattle.cm_manager.proofs.lemmas.calling.Joining.{later-trans, makes-later, asks-later}
use Rattle.cm_manager.proofs.lemmas.left.Standing.{ends_later, joins_later}
use Rattle.cm_turn.proofs.lemmas.Histories.{starts-trans}

-- ---- what a state and a pass are behind a step

-- a story that goes on from another by entries of one caller
pub record ExtendsPass (c : ℕ) (old new : Story) (more : List Entry) : Type 0 where
  pub entries : new.entries ≡ old.entries ++ more
  pub frame : new.frame ≡ old.frame
  pub own : All (λ (e : Entry). e.caller ≡ c) more
  pub legal : Legal (start old.frame) new.entries

-- A legal story with one more entry of a caller goes on by that entry.
pub tells_on : (c : ℕ) (old new : Story) (e : Event) (r : Reply) → IsLegal old → AddsEntry old new c e r → ExtendsPass c old new (entry_of c e r ∷ [])
unfolding IsLegal world_of
tells_on c old new e r legal is = record {
  entries = is.entries;
  frame = is.frame;
  own = All-cons (λ (x : Entry). x.caller ≡ c) (entry_of c e r) [] refl (All-nil (λ (x : Entry). x.caller ≡ c));
  legal = subst (Legal (start old.frame)) (sym is.entries) (Legal-push (start old.frame) old.entries (entry_of c e r) legal is.step);
}

-- A legal story that is as it was goes on by no entry.
pub same_on : (c : ℕ) (old new : Story) → IsLegal old → new ≡ old → ExtendsPass c old new []
unfolding IsLegal
same_on c old new legal is = record {
  entries = ap (λ (s : Story). s.entries) is ∙ sym (append-nil old.entries);
  frame = ap (λ (s : Story). s.frame) is;
  own = All-nil (λ (x : Entry). x.caller ≡ c);
  legal = subst (λ (s : Story). Legal (start old.frame) s.entries) (sym is) legal;
}

-- what an enter tells of the state that it found
pub record Entered (p : RealmPass) (s : Story) : Type 0 where
  pub frame : p.frame ≡ Some s.frame
  pub begins : StartsWith s.entries p.seen
  pub mine : own_entries p.caller s.entries ≡ p.mine
  pub own : p.mine ≡ own_entries p.caller p.seen
  pub legal : IsLegal s

-- a turn at a realm
abbrev pub RealmTurn : Type 0
RealmTurn = HeldView Story Entry Frame

-- what its enter and its leave say
abbrev pub RealmEnters : RealmPass → RealmTurn → Type 0
RealmEnters = Enters (λ (s : Story). s.entries) (λ (s : Story). s.frame) (λ (e : Entry). e.caller)

-- What a leave of a turn says of the pass that it gives back.
abbrev pub RealmLeaves : RealmTurn → RealmPass → Type 0
RealmLeaves = LeavesTurn (λ (s : Story). s.entries) (λ (e : Entry). e.caller)

-- a turn that went so
pub record Took (p q : RealmPass) (s t : Story) (more : List Entry) : Type 0 where
  pub entered : Entered p s
  pub left : RealmLeaves (record { state = t; pass = seen_up_to s.entries p }) q
  pub goes : ExtendsPass p.caller s t more

-- The pass behind a turn is the same one, and has seen a later, legal history.
pub same_pass : (p q : RealmPass) (s t : Story) (more : List Entry) → Took p q s t more → IsSamePass (frame_of p) p q
same_pass p q s t more is = record {
  lock = is.left.lock;
  frame = is.left.frame;
  caller = is.left.caller;
  seen = subst (λ (l : List Entry). StartsWith l p.seen) (sym is.left.seen) (starts-trans t.entries s.entries p.seen (more, is.goes.entries) is.entered.begins);
  own = sym is.left.own;
  legal = subst (λ (f : Frame). Legal (start f) q.seen) (sym (ap frame_in is.entered.frame)) (subst (Legal (start s.frame)) (sym is.left.seen) is.goes.legal);
}

-- The entries of a turn stand behind the entries that its pass had as its own.
pub grown : (p q : RealmPass) (s t : Story) (more : List Entry) → Took p q s t more → q.mine ≡ p.mine ++ more
grown p q s t more is = is.left.mine more is.goes.entries

-- what an enter finds is a later history of what the pass had seen
pub since_seen : (p : RealmPass) (s : Story) → Entered p s → IsLaterHistory p.caller p.seen s.entries
since_seen p s is = record { grows = is.begins; own = is.mine ∙ is.own }

-- A turn that took one entry adds it to what its pass had seen.
unfoldable pub makes_by : (p q : RealmPass) (s t : Story) (e : Event) (r : Reply) → Took p q s t (entry_of p.caller e r ∷ []) → AddsOneEntry p.caller p.seen e r q.seen
makes_by p q s t e r is = record {
  found = s.entries;
  later = since_seen p s is.entered;
  entries = is.left.seen ∙ is.goes.entries;
}

-- A turn without an entry finds a later history, and the caller's own entries stay.
pub nothing_by : (p q : RealmPass) (s t : Story) → Took p q s t [] → IsLaterHistory p.caller p.seen q.seen × (q.mine ≡ p.mine)
nothing_by p q s t is = (
  subst (IsLaterHistory p.caller p.seen) (sym (is.left.seen ∙ is.goes.entries ∙ append-nil s.entries)) (since_seen p s is.entered),
  grown p q s t [] is ∙ append-nil p.mine,
)

-- what holds of the tree that such a turn finds holds of what the pass has seen then
pub found_by : (p q : RealmPass) (s t : Story) (P : World → Type 0) → Took p q s t [] → P (world_of s) → P (world_after (frame_of p) q.seen)
unfolding world_of
found_by p q s t P is holds =
    subst (λ (f : Frame). P (world_after f q.seen)) (sym (ap frame_in is.entered.frame))
    (subst (λ (l : List Entry). P (world_after s.frame l)) (sym (is.left.seen ∙ is.goes.entries ∙ append-nil s.entries)) holds)

-- What a turn without an entry reads of a row is so in the tree that the pass has seen then.
pub looked_by : (p q : RealmPass) (s t : Story) (i : ℕ) (once : Bool) → Took p q s t [] → once ≡ runs_once (world_of s).rows i → once ≡ runs_once (world_after (frame_of p) q.seen).rows i
looked_by p q s t i once is read = found_by p q s t (λ (w : World). once ≡ runs_once w.rows i) is read

-- ---- a turn

-- Where a realm has room for an event, what it wants is within the limit that the pass tells.
pub room_in : (p : RealmPass) (s : Story) (e : Event) → p.frame ≡ Some s.frame → RealmHasRoom s (need e) → wanted (frame_of p) s.entries e ≤ (frame_of p).limits.entries
unfolding world_of
room_in p s e frame room = subst (λ (f : Frame). wanted f s.entries e ≤ f.limits.entries) (sym (ap frame_in frame)) room

-- Where a realm lacks room for an event, what it wants is more than the limit that the pass tells.
pub lacks_in : (p : RealmPass) (s : Story) (e : Event) → p.frame ≡ Some s.frame → LacksRoom s (need e) → (frame_of p).limits.entries < wanted (frame_of p) s.entries e
unfolding world_of
lacks_in p s e frame room = subst (λ (f : Frame). f.limits.entries < wanted f s.entries e) (sym (ap frame_in frame)) room

-- what the entries of a step are
abbrev pub entries_of : ℕ → Event → Result Reply NoStep → List Entry
entries_of c e (Ok r) = entry_of c e r ∷ []
entries_of c e (Err x) = []

-- A step of a realm goes on by the entry of its event, or by none where it is refused.
pub steps_on : (c : ℕ) (old new : Story) (e : Event) (r : Result Reply NoStep) → IsLegal old → Steps old new c e r → ExtendsPass c old new (entries_of c e r)
steps_on c old new e (Ok r) legal is = tells_on c old new e r legal is.step
steps_on c old new e (Err x) legal is = same_on c old new legal is.err

-- A turn that took a step of the realm gives the step's entry, or its refusal.
pub turned_by : (p q : RealmPass) (s t : Story) (e : Event) (r : Result Reply NoStep) → Took p q s t (entries_of p.caller e r) → Steps s t p.caller e r → Turned e p q r
unfolding makes_by
turned_by p q s t e (Ok r) is step = (
  record { made = makes_by p q s t e r is; room = room_in p s e is.entered.frame step.room },
  grown p q s t (entry_of p.caller e r ∷ []) is,
)
turned_by p q s t e (Err (nostep.Busy a)) is step = nothing_by p q s t is
turned_by p q s t e (Err nostep.HistoryFull) is step =
    let n = nothing_by p q s t is in
    let lacks = subst (λ (l : List Entry). (frame_of p).limits.entries < wanted (frame_of p) l e) (sym (is.left.seen ∙ is.goes.entries ∙ append-nil s.entries)) (lacks_in p s e is.entered.frame step.refused) in
    ((n.0, lacks), n.1)
turned_by p q s t e (Err nostep.Memory) is step = nothing_by p q s t is

-- what the event has to wait for, it has to wait for in what the pass has seen then
pub busy_by : (p q : RealmPass) (s t : Story) (c : ℕ) (e : Event) (r : Result Reply NoStep) → Took p q s t (entries_of c e r) → Steps s t c e r → (a : ℕ) → r ≡ Err (nostep.Busy a) → EventWaitsFor (world_after (frame_of p) q.seen) e a
busy_by p q s t c e (Ok r) is step a busy = absurd (cc busy)
busy_by p q s t c e (Err x) is step a busy =
    let same : x ≡ nostep.Busy a = cc busy in
    let waits : RefusesEvent s e (nostep.Busy a) = subst (λ (y : NoStep). RefusesEvent s e y) same step.refused in
    found_by p q s t (λ (w : World). EventWaitsFor w e a) is waits.1

-- A turn that took the entry of an event's outcome records that outcome.
pub told_by : (p q : RealmPass) (s t : Story) (e : Event) (o : Outcome) → Took p q s t (entry_of p.caller e (reply.Ended o) ∷ []) → RecordsOutcome p q e o
told_by p q s t e o is = record {
  makes = makes_by p q s t e (reply.Ended o) is;
  mine = grown p q s t (entry_of p.caller e (reply.Ended o) ∷ []) is;
}

-- The entries of an await: one with the outcome, or none where there is none yet.
abbrev pub awaited_entries : ℕ → ℕ → Option Outcome → List Entry
awaited_entries c a (Some o) = entry_of c (event.Await a) (reply.Ended o) ∷ []
awaited_entries c a None = []

-- An await at a realm goes on by the entry with its outcome, or by none.
pub awaits_on : (c a : ℕ) (old new : Story) (o : Option Outcome) → IsLegal old → AwaitsBy old new c a o → ExtendsPass c old new (awaited_entries c a o)
awaits_on c a old new (Some o) legal is = tells_on c old new (event.Await a) (reply.Ended o) legal is
awaits_on c a old new None legal is = same_on c old new legal is

-- A turn that took the entries of an await has awaited the action.
pub awaited_by : (p q : RealmPass) (s t : Story) (a : ℕ) (o : Option Outcome) → Took p q s t (awaited_entries p.caller a o) → Awaited a p q o
awaited_by p q s t a (Some o) is = told_by p q s t (event.Await a) o is
awaited_by p q s t a None is = nothing_by p q s t is

-- an action that is waited for on hasn't ended
pub unended_by : (p q : RealmPass) (s t : Story) (c a : ℕ) (o : Option Outcome) → Took p q s t (awaited_entries c a o) → IfNone o (outcome_of (world_of s).acts a ≡ None) → IfNone o (outcome_of (world_after (frame_of p) q.seen).acts a ≡ None)
unended_by p q s t c a (Some o) is none = tt
unended_by p q s t c a None is none = found_by p q s t (λ (w : World). outcome_of w.acts a ≡ None) is none

-- ---- what was open in what a pass has seen is open in what it finds

-- An end that a caller may make after what its pass has seen may be made in the realm it enters.
pub may_end : (p : RealmPass) (s : Story) (a : ℕ) (end : Finish) → Entered p s → MayEnd (world_after (frame_of p) p.seen).acts p.caller a end → MayEnd (world_of s).acts p.caller a end
unfolding IsLegal world_of
may_end p s a end is may =
    ends_later s.frame p.caller a end p.seen s.entries is.legal (since_seen p s is)
    (subst (λ (f : Frame). MayEnd (world_after f p.seen).acts p.caller a end) (ap frame_in is.frame) may)

-- An action that a caller has joined in what its pass has seen is joined in the realm it enters.
pub may_await : (p : RealmPass) (s : Story) (a : ℕ) → Entered p s → IsJoined (world_after (frame_of p) p.seen) p.caller a → IsJoined (world_of s) p.caller a
unfolding world_of
may_await p s a is joined =
    joins_later s.frame p.caller a p.seen s.entries (since_seen p s is)
    (subst (λ (f : Frame). IsJoined (world_after f p.seen) p.caller a) (ap frame_in is.frame) joined)

-- ---- a turn, from the clauses of its three calls

-- A legal story that a turn found begins with what its pass has seen, with all the caller's entries.
pub entered_by : (p : RealmPass) (h : RealmTurn) (s : Story) → RealmEnters p h → s ≡ h.state → IsLegal s → Entered p s
entered_by p h s e is legal =
    subst (Entered p) (sym is) (record { frame = e.frame; begins = e.begins; mine = e.own; own = sym e.known; legal = subst IsLegal is legal })

-- what a held turn has to say before it is left
pub may_leave : (p : RealmPass) (h : RealmTurn) (s t : Story) (c : ℕ) (more : List Entry) → RealmEnters p h → s ≡ h.state → c ≡ p.caller → ExtendsPass c s t more → (es : List Entry) × (t.entries ≡ h.pass.seen ++ es) × All (λ (e : Entry). e.caller ≡ h.pass.caller) es
may_leave p h s t c more e is by goes =
    subst (λ (x : RealmPass). (es : List Entry) × (t.entries ≡ x.seen ++ es) × All (λ (e : Entry). e.caller ≡ x.caller) es) (sym e.pass)
    (more, goes.entries ∙ ap (λ (x : Story). x.entries ++ more) is, subst (λ (n : ℕ). All (λ (e : Entry). e.caller ≡ n) more) by goes.own)

-- A turn that entered, went on by entries of its caller and left took these entries.
pub took_by : (p : RealmPass) (h : RealmTurn) (q : RealmPass) (s t : Story) (c : ℕ) (more : List Entry) → RealmEnters p h → s ≡ h.state → IsLegal s → c ≡ p.caller → ExtendsPass c s t more → RealmLeaves (with_state h t) q → Took p q s t more
took_by p h q s t c more e is legal by goes left = record {
  entered = entered_by p h s e is legal;
  left = subst (λ (x : RealmPass). RealmLeaves (record { state = t; pass = x }) q) (e.pass ∙ ap (λ (x : Story). seen_up_to x.entries p) (sym is)) left;
  goes = subst (λ (n : ℕ). ExtendsPass n s t more) by goes;
}

-- the turn's event, told by the caller's number
pub turned_as : (p q : RealmPass) (s t : Story) (c : ℕ) (e : Event) (r : Result Reply NoStep) → c ≡ p.caller → Took p q s t (entries_of c e r) → Steps s t c e r → Turned e p q r
turned_as p q s t c e r by is step =
    turned_by p q s t e r (subst (λ (n : ℕ). Took p q s t (entries_of n e r)) by is) (subst (λ (n : ℕ). Steps s t n e r) by step)

-- ---- turns without an entry

-- A turn that took the entry of an outcome under its caller's number records that outcome.
pub told_as : (p q : RealmPass) (s t : Story) (c : ℕ) (e : Event) (o : Outcome) → c ≡ p.caller → Took p q s t (entry_of c e (reply.Ended o) ∷ []) → RecordsOutcome p q e o
told_as p q s t c e o is took = told_by p q s t e o (subst (λ (n : ℕ). Took p q s t (entry_of n e (reply.Ended o) ∷ [])) is took)

-- A turn that took the entries of an await under its caller's number has awaited the action.
pub awaited_as : (p q : RealmPass) (s t : Story) (c a : ℕ) (o : Option Outcome) → c ≡ p.caller → Took p q s t (awaited_entries c a o) → Awaited a p q o
awaited_as p q s t c a o is took = awaited_by p q s t a o (subst (λ (n : ℕ). Took p q s t (awaited_entries n a o)) is took)

-- the caller has waited so far, from one pass to another
pub record Waits (first idle : RealmPass) : Type 0 where
  pub lock : idle.lock ≡ first.lock
  pub frame : idle.frame ≡ first.frame
  pub caller : idle.caller ≡ first.caller
  pub later : IsLaterHistory first.caller first.seen idle.seen
  pub mine : idle.mine ≡ first.mine

-- From a pass to itself a caller has only waited.
pub waits_none : (p : RealmPass) → Waits p p
waits_none p = record {
  lock = refl;
  frame = refl;
  caller = refl;
  later = record { grows = ([], sym (append-nil p.seen)); own = refl };
  mine = refl;
}

-- A caller that has waited, and takes one more turn without an entry of its own, has waited.
pub waits_more : (first idle after : RealmPass) → Waits first idle → IsSamePass (frame_of idle) idle after → IsLaterHistory idle.caller idle.seen after.seen × (after.mine ≡ idle.mine) → Waits first after
waits_more first idle after w same is = record {
  lock = same.lock ∙ w.lock;
  frame = same.frame ∙ w.frame;
  caller = same.caller ∙ w.caller;
  later = later-trans first.caller first.seen idle.seen after.seen w.later (subst (λ (c : ℕ). IsLaterHistory c idle.seen after.seen) w.caller is.0);
  mine = is.1 ∙ w.mine;
}

-- a turn without an entry leaves a later history
turned_later : (idle after : RealmPass) (e : Event) (x : NoStep) → Turned e idle after (Err x) → IsLaterHistory idle.caller idle.seen after.seen × (after.mine ≡ idle.mine)
turned_later idle after e (nostep.Busy a) turned = turned
turned_later idle after e nostep.HistoryFull turned = (turned.0.0, turned.1)
turned_later idle after e nostep.Memory turned = turned

-- A turn that made no entry leaves a caller that waits where it may go on waiting.
pub waits_turned : (first idle after : RealmPass) (e : Event) (r : Result Reply NoStep) (x : NoStep) → Waits first idle → IsSamePass (frame_of idle) idle after → r ≡ Err x → Turned e idle after r → Waits first after
waits_turned first idle after e r x waits same fails turned =
    waits_more first idle after waits same (turned_later idle after e x (subst (λ (s : Result Reply NoStep). Turned e idle after s) fails turned))

-- A pass that is the same behind waiting and a turn is the same as before the waiting.
pub waits_same : (first idle after : RealmPass) → Waits first idle → IsSamePass (frame_of idle) idle after → IsSamePass (frame_of first) first after
waits_same first idle after w same = record {
  lock = same.lock ∙ w.lock;
  frame = same.frame ∙ w.frame;
  caller = same.caller ∙ w.caller;
  seen = starts-trans after.seen idle.seen first.seen same.seen w.later.grows;
  own = same.own;
  legal = subst (λ (f : Frame). Legal (start f) after.seen) (ap frame_in w.frame) same.legal;
}

-- A turn that adds no entry and ends the call does so from an earlier history too.
cut_trans : (f : Frame) (c : ℕ) (a b d : List Entry) (e : Event) (x : Refusal) → IsLaterHistory c a b → EndsWithoutEntry f c b e d x → EndsWithoutEntry f c a e d x
cut_trans f c a b d e refusal.Memory l is = later-trans c a b d l is
cut_trans f c a b d e refusal.HistoryFull l is = (later-trans c a b d l is.0, is.1)
cut_trans f c a b d e _ l is = absurd is

-- what comes behind the waiting is all that the call did
pub waits_asked : (e : Event) (first idle after : RealmPass) (r : Result Reply Refusal) → Waits first idle → RecordsEvent e idle after r → RecordsEvent e first after r
waits_asked e first idle after (Ok r) w is =
    let asks : AddsWithinRoom (frame_of first) first.caller idle.seen e r after.seen =
    subst (λ (f : Frame). AddsWithinRoom f first.caller idle.seen e r after.seen) (ap frame_in w.frame) (subst (λ (c : ℕ). AddsWithinRoom (frame_of idle) c idle.seen e r after.seen) w.caller is.0) in (
      asks-later (frame_of first) first.caller first.seen idle.seen after.seen w.later asks,
      is.1 ∙ ap (λ (l : List Entry). l ++ entry_of idle.caller e r ∷ []) w.mine ∙ ap (λ (c : ℕ). first.mine ++ entry_of c e r ∷ []) w.caller,
    )
waits_asked e first idle after (Err x) w is =
    let cut : EndsWithoutEntry (frame_of first) first.caller idle.seen e after.seen x =
    subst (λ (f : Frame). EndsWithoutEntry f first.caller idle.seen e after.seen x) (ap frame_in w.frame) (subst (λ (c : ℕ). EndsWithoutEntry (frame_of idle) c idle.seen e after.seen x) w.caller is.0) in
    (cut_trans (frame_of first) first.caller first.seen idle.seen after.seen e x w.later cut, is.1 ∙ w.mine)

-- An outcome that is recorded behind waiting is recorded as from before the waiting.
pub waits_told : (e : Event) (first idle after : RealmPass) (o : Outcome) → Waits first idle → RecordsOutcome idle after e o → RecordsOutcome first after e o
waits_told e first idle after o w is = record {
  makes = makes-later first.caller first.seen idle.seen after.seen w.later (subst (λ (c : ℕ). AddsOneEntry c idle.seen e (reply.Ended o) after.seen) w.caller is.makes);
  mine = is.mine ∙ ap (λ (l : List Entry). l ++ entry_of idle.caller e (reply.Ended o) ∷ []) w.mine ∙ ap (λ (c : ℕ). first.mine ++ entry_of c e (reply.Ended o) ∷ []) w.caller;
}

-- who waits for an action is still joined to it
pub waits_joined : (first idle : RealmPass) (a : ℕ) → Waits first idle → IsJoined (world_after (frame_of first) first.seen) first.caller a → IsJoined (world_after (frame_of idle) idle.seen) idle.caller a
waits_joined first idle a w joined =
    subst (λ (c : ℕ). IsJoined (world_after (frame_of idle) idle.seen) c a) (sym w.caller)
    (subst (λ (f : Frame). IsJoined (world_after f idle.seen) first.caller a) (sym (ap frame_in w.frame))
    (joins_later (frame_of first) first.caller a first.seen idle.seen w.later joined))
