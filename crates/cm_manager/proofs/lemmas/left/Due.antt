-- What is due in what a caller has seen stays due, and the tree allows it.
use Rattle.std.proofs.Common.{ℕ, List, Bool, true, false, ap, subst, sym, ◌∙◌}
use Rattle.cm_turn.specs.History.{StartsWith}
use Rattle.cm_world.specs.declared.event.Event.{Event}
use Rattle.cm_world.specs.declared.event.Event.TheVariants as event
use Rattle.cm_world.specs.declared.frame.Frame.{Frame}
use Rattle.cm_world.specs.declared.reply.Entry.{Entry}
use Rattle.cm_world.specs.World.{World, start}
use Rattle.cm_world.specs.Legal.{Legal, replay}
use Rattle.cm_world.proofs.lemmas.trees.Histories.{Legal-split, replay-append}
use Rattle.cm_laws.specs.Shutdowns.{IsLeaving, IsMarked}
use Rattle.cm_laws.specs.ShutdownsInside.{IsShutBelow, MarksStay, MarkedMayClose, OverStays, OverMayPurge}
use Rattle.cm_laws.specs.Story.{Story, world_of, IsLegal}
use Rattle.cm_steps.specs.Requests.{TreeAllows}
use Rattle.cm_manager.specs.Turns.{world_after}
use Rattle.cm_manager.specs.Asking.{frame_in, frame_of, IsDue, DueStays, DueIsOpen}
use Rattle.cm_manager.specs.Contract.{RealmPass, IsSamePass}
use Rattle.cm_manager.proofs.lemmas.onward.Turning.{Entered}

-- what is leaving is marked to be shut down
pub leaving_marked : (w : World) (i : ℕ) → IsLeaving w i → IsMarked false w i
leaving_marked w i leaving = (leaving, λ e. absurd (cc e))

-- What a caller has seen marked is marked in every legal history that goes on from there.
pub marked_stays : MarksStay → (f : Frame) (doom : Bool) (i : ℕ) (seen found : List Entry) → Legal (start f) found → StartsWith found seen → IsMarked doom (world_after f seen) i → IsMarked doom (world_after f found) i
marked_stays stays f doom i seen found legal grows marked =
    let both = Legal-split (start f) seen grows.0 (subst (Legal (start f)) grows.1 legal) in
    subst (λ (w : World). IsMarked doom w i) (sym (ap (replay (start f)) grows.1 ∙ replay-append (start f) seen grows.0))
    (stays (world_after f seen) grows.0 i doom both.1 marked)

-- What a caller has seen leaving is leaving in every legal history that goes on from there.
pub leaving_stays : MarksStay → (f : Frame) (i : ℕ) (seen found : List Entry) → Legal (start f) found → StartsWith found seen → IsLeaving (world_after f seen) i → IsLeaving (world_after f found) i
leaving_stays stays f i seen found legal grows leaving = (marked_stays stays f false i seen found legal grows (leaving_marked (world_after f seen) i leaving)).0

-- What a caller has seen shut with all below it is so in every legal history that goes on from there.
pub over_stays : OverStays → (f : Frame) (i : ℕ) (seen found : List Entry) → Legal (start f) found → StartsWith found seen → IsShutBelow (world_after f seen) i → IsShutBelow (world_after f found) i
over_stays stays f i seen found legal grows over =
    subst (λ (l : List Entry). IsShutBelow (world_after f l) i) (sym grows.1)
    (stays f seen grows.0 i (subst (Legal (start f)) grows.1 legal) over)

-- What a caller has seen as due stays due, where marks stay and what is shut stays so.
pub due_stays : MarksStay → OverStays → DueStays
due_stays marks over f (event.Pick t) seen found legal grows due = leaving_stays marks f t seen found legal grows due
due_stays marks over f (event.Purge i) seen found legal grows due = (marked_stays marks f true i seen found legal grows due.0, over_stays over f i seen found legal grows due.1)
due_stays marks over f _ seen found legal grows due = tt

-- The tree allows what is due, where what is marked may close, and what is shut may be purged.
pub due_is_open : MarkedMayClose → OverMayPurge → DueIsOpen
due_is_open closes purges w (event.Pick t) due = closes w t false (leaving_marked w t due)
due_is_open closes purges w (event.Purge i) due = purges w i due.0 due.1
due_is_open closes purges w _ due = tt

-- ---- turns

-- the tree that a turn finds allows what was due in what its pass had seen
pub open_at : DueStays → DueIsOpen → (p : RealmPass) (s : Story) (e : Event) → Entered p s → IsDue (world_after (frame_of p) p.seen) e → TreeAllows (world_of s) e
unfolding IsLegal world_of
open_at stays allowed p s e is due =
    allowed (world_of s) e
    (stays s.frame e p.seen s.entries is.legal is.begins
    (subst (λ (f : Frame). IsDue (world_after f p.seen) e) (ap frame_in is.frame) due))

-- what is due in what a pass has seen is due in what it has seen after a turn
pub due_next : DueStays → (p q : RealmPass) (e : Event) → IsSamePass (frame_of p) p q → IsDue (world_after (frame_of p) p.seen) e → IsDue (world_after (frame_of q) q.seen) e
due_next stays p q e same due =
    subst (λ (f : Frame). IsDue (world_after f q.seen) e) (sym (ap frame_in same.frame))
    (stays (frame_of p) e p.seen q.seen same.legal same.seen due)
