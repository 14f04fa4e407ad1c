-- What the turns of a shutdown come to.
use Rattle.std.proofs.Common.{◌≡◌, ◌≢◌, ◌⊎◌, inl, inr, ℕ, List, Bool, true, Option, Some, None, Result, Ok, Err, IfNone, refl, sym, subst}
use Rattle.cm_world.specs.declared.action.ActKind.TheVariants as kind
use Rattle.cm_world.specs.declared.action.Finish.{Finish}
use Rattle.cm_world.specs.declared.action.Outcome.{Outcome}
use Rattle.cm_world.specs.declared.action.Work.{Work}
use Rattle.cm_world.specs.declared.answer.Refusal.{Refusal}
use Rattle.cm_world.specs.declared.event.Event.TheVariants as event
use Rattle.cm_world.specs.declared.frame.Frame.{Frame}
use Rattle.cm_world.specs.declared.reply.Entry.{Entry}
use Rattle.cm_world.specs.declared.reply.Reply.{Reply}
use Rattle.cm_world.specs.declared.reply.Reply.TheVariants as reply
use Rattle.cm_world.specs.declared.row.Row.{Row}
use Rattle.cm_world.specs.World.{start}
use Rattle.cm_world.specs.Step.{MayEnd, IsPickReply}
use Rattle.cm_world.specs.Legal.{Legal}
use Rattle.cm_world.proofs.lemmas.trees.Histories.{Legal-split}
use Rattle.cm_laws.specs.Shutdowns.{IsLeaving, IsMarked}
use Rattle.cm_laws.specs.ShutdownsInside.{IsShutBelow, MarksMark, MarksStay, DoneIsOver, PickersMayEnd}
use Rattle.cm_laws.specs.Story.{IsLegal, world_of}
use Rattle.cm_manager.specs.Turns.{AddsOneEntry, AddsWithinRoom, EndsWithoutEntry, world_after}
use Rattle.cm_answers.specs.Answers.{unmarked}
use Rattle.cm_answers.specs.AnswersInside.{unmarked_by}
use Rattle.cm_manager.specs.Shutdowns.{Shuts, Destroys}
use Rattle.cm_manager.specs.Sweeps.{Stops}
use Rattle.cm_manager.specs.Acting.{PickRun}
use Rattle.cm_manager.specs.Asking.{RecordsEvent, Purged, RecordsOutcome, frame_of}
use Rattle.cm_manager.specs.Contract.{RealmPass, GatesView, IsSamePass, IsSubcall}
use Rattle.cm_manager.specs.Doing.{Did, FitsAction}
use Rattle.cm_manager.specs.Work.{Manifests}
use Rattle.cm_manager.specs.declared.began.PickTurn.{PickTurn}
use Rattle.cm_manager.specs.declared.began.PickTurn.TheVariants as picked
use Rattle.cm_manager.specs.ClosedInside.{AddsClosedPart}
use Rattle.cm_manager.proofs.lemmas.left.Closing.{cut-later, grows-trans, later-grows, plain-grows, stops_close}
use Rattle.cm_manager.proofs.lemmas.left.Due.{leaving_stays, marked_stays}
use Rattle.cm_manager.proofs.lemmas.calling.Helping.{helps_acted, helps_nothing, helps_plain}
use Rattle.cm_manager.proofs.lemmas.onward.Onward.{by_first, frame_kept}
use Rattle.cm_manager.proofs.lemmas.left.Standing.{last_step, told}

-- what holds in every case holds where nothing ended the call
pub none_or : (o : Option Refusal) (P : Type 0) → P → IfNone o P
none_or None P it = it
none_or (Some x) P it = tt

-- ---- picks

-- a pick gets one of three replies
pub three_replies : (rows : List Row) (next t : ℕ) (r : Reply) → IsPickReply rows next t r → r ≢ reply.Done → ((i : ℕ) → r ≢ reply.ShutDown i) → ((w : Work) → r ≢ reply.Stopping w) → ⊥
three_replies rows next t reply.Done is done off on = done refl
three_replies rows next t (reply.ShutDown i) is done off on = off i refl
three_replies rows next t (reply.Stopping w) is done off on = on w refl
three_replies rows next t _ is done off on = absurd is

-- A pick has no reply but that all is done, that a row is shut down, or a stop.
pub no_other_pick : (t : ℕ) (r : Reply) (p q : RealmPass) → IsSamePass (frame_of p) p q → RecordsEvent (event.Pick t) p q (Ok r) → r ≢ reply.Done → ((i : ℕ) → r ≢ reply.ShutDown i) → ((w : Work) → r ≢ reply.Stopping w) → ⊥
no_other_pick t r p q same asked =
    let w = world_after (frame_of p) asked.0.made.found in
    three_replies w.rows w.next_action t r (last_step (frame_of p) p.caller p.seen (event.Pick t) r q.seen same.legal asked.0.made).allowed

-- the stop that was picked may be ended
pub picked_may : PickersMayEnd → (t : ℕ) (w : Work) (end : Finish) (p q : RealmPass) → IsSamePass (frame_of p) p q → RecordsEvent (event.Pick t) p q (Ok (reply.Stopping w)) → FitsAction kind.Stop end → MayEnd (world_after (frame_of q) q.seen).acts q.caller w.action end
unfolding world_of
picked_may may t w end p q same asked fits =
    by_first (λ f c. MayEnd (world_after f q.seen).acts c w.action end) q p (sym same.frame) (sym same.caller)
    (may (record { frame = frame_of p; entries = asked.0.made.found }) (record { frame = frame_of p; entries = q.seen }) p.caller t w end
    (told (frame_of p) p.caller p.seen (event.Pick t) (reply.Stopping w) q.seen same.legal asked.0.made) fits.fitting fits.valid)

-- A pick that was refused its entry is a part of a call that is cut there.
pub cut_pick_help : (manifests : Manifests) (t : ℕ) (x : Refusal) (p q : RealmPass) (g : GatesView) → IsSamePass (frame_of p) p q → RecordsEvent (event.Pick t) p q (Err x) → IsSubcall manifests (frame_of p) (λ a b. PickRun (frame_of p) p.caller t (picked.Cut x) a b) p q g g
cut_pick_help manifests t x p q g same asked =
    helps_nothing manifests (frame_of p) (λ a b. PickRun (frame_of p) p.caller t (picked.Cut x) a b) p q g same asked.0 asked.1

-- A pick that was answered that all is done is a part of a call.
pub done_help : (manifests : Manifests) (t : ℕ) (p q : RealmPass) (g : GatesView) → IsSamePass (frame_of p) p q → RecordsEvent (event.Pick t) p q (Ok reply.Done) → IsSubcall manifests (frame_of p) (λ a b. PickRun (frame_of p) p.caller t picked.Done a b) p q g g
done_help manifests t p q g same asked =
    helps_plain manifests (frame_of p) (λ a b. PickRun (frame_of p) p.caller t picked.Done a b) p q g (event.Pick t) reply.Done refl refl refl same asked.0 asked.1

-- A pick that shut a row that was off is a part of a call, which goes further.
pub off_help : (manifests : Manifests) (t i : ℕ) (p q : RealmPass) (g : GatesView) → IsSamePass (frame_of p) p q → RecordsEvent (event.Pick t) p q (Ok (reply.ShutDown i)) → IsSubcall manifests (frame_of p) (λ a b. PickRun (frame_of p) p.caller t picked.Further a b) p q g g
off_help manifests t i p q g same asked =
    helps_plain manifests (frame_of p) (λ a b. PickRun (frame_of p) p.caller t picked.Further a b) p q g (event.Pick t) (reply.ShutDown i) refl refl refl same
    (λ b end rest. Stops.was_off asked.0 rest) asked.1

-- A pick whose stop was worked for and ended is a part of a call, which goes further.
pub on_help : (manifests : Manifests) (t : ℕ) (w : Work) (end : Finish) (o : Outcome) (p q r : RealmPass) (g h : GatesView) → IsSamePass (frame_of p) p q → RecordsEvent (event.Pick t) p q (Ok (reply.Stopping w)) → Did manifests w kind.Stop end g h → IsSamePass (frame_of q) q r → RecordsOutcome q r (event.End w.action end) o → IsSubcall manifests (frame_of p) (λ a b. PickRun (frame_of p) p.caller t picked.Further a b) p r g h
on_help manifests t w end o p q r g h first asked did second told =
    let f = frame_of p in
    let c = p.caller in
    let makes = subst (λ (c : ℕ). AddsOneEntry c q.seen (event.End w.action end) (reply.Ended o) r.seen) first.caller told.makes in
    helps_acted manifests f (λ a b. PickRun f c t picked.Further a b) p q r g h (event.Pick t) (reply.Stopping w) kind.Stop w end o refl first
    (subst (λ (f : Frame). IsSamePass f q r) (frame_kept p q first.frame) second)
    (λ b end rest. Stops.was_on asked.0 makes rest)
    asked.1 told.mine did

-- ---- all picks of a target

-- a pick, by what it came to
abbrev pub Picking : ℕ → PickTurn → Frame → ℕ → List Entry → List Entry → Type 0
Picking t by f c a b = PickRun f c t by a b

-- Behind the last pick, which tells that all is done, all below the target is shut.
pub done_over : MarksStay → DoneIsOver → (manifests : Manifests) (t : ℕ) (by : PickTurn) (p q : RealmPass) (g h : GatesView) → IsLeaving (world_after (frame_of p) p.seen) t → by ≡ picked.Done → IsSubcall manifests (frame_of p) (λ a b. Picking t by (frame_of p) p.caller a b) p q g h → IsShutBelow (world_after (frame_of q) q.seen) t
unfolding world_of
done_over stays done manifests t by p q g h leaving is help =
    let f = frame_of p in
    let asks : AddsWithinRoom f p.caller p.seen (event.Pick t) reply.Done q.seen = subst (λ (by : PickTurn). PickRun f p.caller t by p.seen q.seen) is help.way in
    let found = asks.made.found in
    let legal : Legal (start f) found = (Legal-split (start f) found _ (subst (Legal (start f)) asks.made.entries help.same.legal)).0 in
    subst (λ (f : Frame). IsShutBelow (world_after f q.seen) t) (sym (frame_kept p q help.same.frame))
    (done (record { frame = f; entries = found }) (record { frame = f; entries = q.seen }) p.caller t
    (leaving_stays stays f t p.seen found legal asks.made.later.grows leaving)
    (told f p.caller p.seen (event.Pick t) reply.Done q.seen help.same.legal asks.made))

-- ---- marks

-- A reply to a mark that stands for no refusal says that the row is marked, now or before.
pub unmarked_not : (r : Reply) → unmarked r ≡ None → (r ≡ reply.Marked) ⊎ (r ≡ reply.Already)
unmarked_not reply.Marked is = inl refl
unmarked_not reply.Already is = inr refl
unmarked_not _ is = absurd (cc is)

-- the mark, which was made now or before
abbrev pub Marks : Bool → ℕ → Frame → ℕ → List Entry → List Entry → Type 0
Marks doom i f c a b = (r : Reply) × AddsWithinRoom f c a (event.Mark doom i) r b × (unmarked r ≡ None)

-- A mark that isn't refused is a part of a call.
pub marks_help : (manifests : Manifests) (doom : Bool) (i : ℕ) (asked : Result Reply Refusal) (p q : RealmPass) (g : GatesView) → unmarked_by asked ≡ None → IsSamePass (frame_of p) p q → RecordsEvent (event.Mark doom i) p q asked → IsSubcall manifests (frame_of p) (λ a b. Marks doom i (frame_of p) p.caller a b) p q g g
marks_help manifests doom i (Ok r) p q g is same it =
    helps_plain manifests (frame_of p) (λ a b. Marks doom i (frame_of p) p.caller a b) p q g (event.Mark doom i) r refl refl refl same (r, it.0, is) it.1
marks_help manifests doom i (Err x) p q g is same it = absurd (cc is)

-- Behind a mark that was not refused the row is marked.
pub marked_at : MarksMark → (doom : Bool) (i : ℕ) (asked : Result Reply Refusal) (p q : RealmPass) → unmarked_by asked ≡ None → IsSamePass (frame_of p) p q → RecordsEvent (event.Mark doom i) p q asked → IsMarked doom (world_after (frame_of q) q.seen) i
unfolding world_of IsLegal
marked_at marks doom i (Ok r) p q is same it =
    let f = frame_of p in
    let made = it.0.made in
    let legal : Legal (start f) made.found = (Legal-split (start f) made.found _ (subst (Legal (start f)) made.entries same.legal)).0 in
    subst (λ (f : Frame). IsMarked doom (world_after f q.seen) i) (sym (frame_kept p q same.frame))
    (marks (record { frame = f; entries = made.found }) (record { frame = f; entries = q.seen }) p.caller i doom r legal
    (told f p.caller p.seen (event.Mark doom i) r q.seen same.legal made) (unmarked_not r is))
marked_at marks doom i (Err x) p q is same it = absurd (cc is)

-- A row that was marked in a tree seen before is marked in the one seen later.
pub marked_next : MarksStay → (doom : Bool) (i : ℕ) (p q : RealmPass) → IsSamePass (frame_of p) p q → IsMarked doom (world_after (frame_of p) p.seen) i → IsMarked doom (world_after (frame_of q) q.seen) i
marked_next stays doom i p q same marked =
    subst (λ (f : Frame). IsMarked doom (world_after f q.seen) i) (sym (frame_kept p q same.frame))
    (marked_stays stays (frame_of p) doom i p.seen q.seen same.legal same.seen marked)

-- What is leaving in what a pass has seen is leaving after its next turns.
pub leaving_next : MarksStay → (i : ℕ) (p q : RealmPass) → IsSamePass (frame_of p) p q → IsLeaving (world_after (frame_of p) p.seen) i → IsLeaving (world_after (frame_of q) q.seen) i
leaving_next stays i p q same leaving =
    subst (λ (f : Frame). IsLeaving (world_after f q.seen) i) (sym (frame_kept p q same.frame))
    (leaving_stays stays (frame_of p) i p.seen q.seen same.legal same.seen leaving)

-- A mark that is refused is a part of a call whose shutdown ends there.
pub unmarked_shuts : (manifests : Manifests) (doom : Bool) (i : ℕ) (asked : Result Reply Refusal) (x : Refusal) (p q : RealmPass) (g : GatesView) → unmarked_by asked ≡ Some x → IsSamePass (frame_of p) p q → RecordsEvent (event.Mark doom i) p q asked → IsSubcall manifests (frame_of p) (λ a b. Shuts (frame_of p) p.caller doom i a b (Some x)) p q g g
unmarked_shuts manifests doom i (Ok r) x p q g is same it =
    helps_plain manifests (frame_of p) (λ a b. Shuts (frame_of p) p.caller doom i a b (Some x)) p q g (event.Mark doom i) r refl refl refl same (Shuts.refused it.0 is) it.1
unmarked_shuts manifests doom i (Err y) x p q g is same it =
    helps_nothing manifests (frame_of p) (λ a b. Shuts (frame_of p) p.caller doom i a b (Some x)) p q g same
    (subst (λ (o : Option Refusal). Shuts (frame_of p) p.caller doom i p.seen q.seen o) is (Shuts.cut_mark it.0)) it.1

-- ---- a row that is destroyed

-- one turn with the removal, or what ended the call there
abbrev pub Purges : ℕ → Frame → ℕ → Option Refusal → List Entry → List Entry → Type 0
Purges i f c None a b = (r : Reply) × AddsWithinRoom f c a (event.Purge i) r b
Purges i f c (Some x) a b = EndsWithoutEntry f c a (event.Purge i) b x

-- A purge, or what ended the call before it, is a part of a call.
pub purge_help : (manifests : Manifests) (i : ℕ) (end : Option Refusal) (p q : RealmPass) (g : GatesView) → IsSamePass (frame_of p) p q → Purged i p q end → IsSubcall manifests (frame_of p) (λ a b. Purges i (frame_of p) p.caller end a b) p q g g
purge_help manifests i None p q g same it = helps_plain manifests (frame_of p) (λ a b. Purges i (frame_of p) p.caller None a b) p q g (event.Purge i) it.0 refl refl refl same (it.0, it.1.0) it.1.1
purge_help manifests i (Some x) p q g same it = helps_nothing manifests (frame_of p) (λ a b. Purges i (frame_of p) p.caller (Some x) a b) p q g same it.0 it.1

-- A row that is shut down and then purged is destroyed, and ends as its purge does.
pub purged_by : (f : Frame) (c i : ℕ) (end : Option Refusal) (a b d : List Entry) → Shuts f c true i a b None → Purges i f c end b d → Destroys f c i a d end
purged_by f c i None a b d shuts purges = Destroys.purged shuts purges.1
purged_by f c i (Some x) a b d shuts purges = Destroys.cut_purge shuts purges

-- ---- parts

-- A shutdown adds a closed part, however it ends.
pub shuts_close : (f : Frame) (c : ℕ) (doom : Bool) (i : ℕ) {a b : List Entry} {end : Option Refusal} → Shuts f c doom i a b end → AddsClosedPart c a b
shuts_close f c doom i (Shuts.marked asks is rest) = grows-trans c _ _ _ (plain-grows c _ _ _ _ refl refl asks.made) (stops_close f c i rest)
shuts_close f c doom i (Shuts.refused asks is) = plain-grows c _ _ _ _ refl refl asks.made
shuts_close f c doom i (Shuts.cut_mark {h₀ = a} {h₁ = b} {x = x} is) = later-grows c a b (cut-later f c a b (event.Mark doom i) x is)

-- A destruction adds a closed part, however it ends.
pub destroys_close : (f : Frame) (c i : ℕ) {a b : List Entry} {end : Option Refusal} → Destroys f c i a b end → AddsClosedPart c a b
destroys_close f c i (Destroys.purged shuts asks) = grows-trans c _ _ _ (shuts_close f c true i shuts) (plain-grows c _ _ _ _ refl refl asks.made)
destroys_close f c i (Destroys.cut_purge {h₁ = a} {h₂ = b} {x = x} shuts is) = grows-trans c _ _ _ (shuts_close f c true i shuts) (later-grows c a b (cut-later f c a b (event.Purge i) x is))
destroys_close f c i (Destroys.unshut shuts) = shuts_close f c true i shuts
