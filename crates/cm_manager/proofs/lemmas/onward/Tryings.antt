-- What the turns of an event come to that is made again until a reply decides it.
use Rattle.std.proofs.Common.{◌≡◌, ℕ, List, None, Result, Ok, Err, IsTrue, IsFalse, refl}
use Rattle.cm_world.specs.declared.answer.Refusal.{Refusal}
use Rattle.cm_world.specs.declared.event.Event.{Event}
use Rattle.cm_world.specs.declared.event.Event.TheVariants as event
use Rattle.cm_world.specs.declared.frame.Frame.{Frame}
use Rattle.cm_world.specs.declared.reply.Entry.{Entry}
use Rattle.cm_world.specs.declared.reply.Reply.{Reply}
use Rattle.cm_manager.specs.Turns.{AddsWithinRoom}
use Rattle.cm_manager.specs.Runs.{RetriesEvent}
use Rattle.cm_manager.specs.Asking.{RecordsEvent, frame_of, is_asked, is_plain}
use Rattle.cm_manager.specs.ClosedInside.{joins}
use Rattle.cm_manager.specs.Contract.{RealmPass, GatesView, IsSamePass, IsSubcall}
use Rattle.cm_manager.specs.Work.{Manifests, begins, is_end}
use Rattle.cm_manager.proofs.lemmas.calling.Helping.{helps_nothing, helps_plain}

-- an event that is tried, by what it came to
abbrev pub Trying : Event → Frame → ℕ → Result Reply Refusal → List Entry → List Entry → Type 0
Trying e f c end a b = RetriesEvent f c e a b end

-- One turn that adds the entry of this event with this reply, for which there was room.
abbrev pub Replying : Event → Reply → Frame → ℕ → List Entry → List Entry → Type 0
Replying e r f c a b = AddsWithinRoom f c a e r b

-- An event that is asked for, and is plain, begins, joins and ends no action.
apart_of : (e : Event) (r : Reply) → IsTrue (is_asked e) → IsTrue (is_plain e) → IsFalse (is_end e) × (begins e r ≡ None) × (joins e r ≡ None)
apart_of (event.Find m) r asked plain = (refl, refl, refl)
apart_of (event.Begin k i) r asked plain = absurd (cc plain)
apart_of (event.Create i child) r asked plain = (refl, refl, refl)
apart_of (event.Mark doom i) r asked plain = (refl, refl, refl)
apart_of (event.Pick i) r asked plain = absurd (cc plain)
apart_of (event.Purge i) r asked plain = absurd (cc plain)
apart_of (event.Route i path) r asked plain = (refl, refl, refl)
apart_of (event.OpenUse i path) r asked plain = (refl, refl, refl)
apart_of (event.OpenExposed i name) r asked plain = (refl, refl, refl)
apart_of (event.Listing i coll) r asked plain = (refl, refl, refl)
apart_of (event.Show i) r asked plain = (refl, refl, refl)
apart_of (event.Survey i) r asked plain = (refl, refl, refl)
apart_of (event.Exited i) r asked plain = (refl, refl, refl)
apart_of (event.Reap i) r asked plain = (refl, refl, refl)
apart_of _ r asked plain = absurd (cc asked)

-- A plain event that a call asks for and that has its entry is a part of a call.
pub asked_help : (manifests : Manifests) (e : Event) (r : Reply) (p q : RealmPass) (g : GatesView) → IsTrue (is_asked e) → IsTrue (is_plain e) → IsSamePass (frame_of p) p q → RecordsEvent e p q (Ok r) → IsSubcall manifests (frame_of p) (λ a b. Replying e r (frame_of p) p.caller a b) p q g g
asked_help manifests e r p q g is_asked is_plain same asked =
    let apart = apart_of e r is_asked is_plain in
    helps_plain manifests (frame_of p) (λ a b. Replying e r (frame_of p) p.caller a b) p q g e r apart.0 apart.1 apart.2 same asked.0 asked.1

-- An event that was refused its entry is a part of a call whose tries end there.
pub cut_trying : (manifests : Manifests) (e : Event) (x : Refusal) (p q : RealmPass) (g : GatesView) → IsSamePass (frame_of p) p q → RecordsEvent e p q (Err x) → IsSubcall manifests (frame_of p) (λ a b. Trying e (frame_of p) p.caller (Err x) a b) p q g g
cut_trying manifests e x p q g same asked =
    helps_nothing manifests (frame_of p) (λ a b. Trying e (frame_of p) p.caller (Err x) a b) p q g same (RetriesEvent.cut_try asked.0) asked.1
