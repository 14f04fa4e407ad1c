-- What follows a stop, or an exit: what went with the row is removed.
use Rattle.std.proofs.Common.{◌≡◌, ◌≢◌, ℕ, ◌<◌, List, [], length, get_or, true, Option, Some, None, Result, Ok, Err}
use Rattle.std.proofs.Common.{refl, sym, subst}
use Rattle.std.specs.Prelude.{Contains}
use Rattle.cm_world.specs.declared.action.ActKind.TheVariants as kind
use Rattle.cm_world.specs.declared.action.Outcome.{Outcome}
use Rattle.cm_world.specs.declared.answer.Refusal.{Refusal}
use Rattle.cm_world.specs.declared.event.Event.TheVariants as event
use Rattle.cm_world.specs.declared.frame.Frame.{Frame}
use Rattle.cm_world.specs.declared.reply.Entry.{Entry}
use Rattle.cm_world.specs.declared.reply.Reply.{Reply}
use Rattle.cm_world.specs.declared.reply.Reply.TheVariants as reply
use Rattle.cm_world.specs.Expiring.{reaped}
use Rattle.cm_world.specs.World.{World, start}
use Rattle.cm_world.specs.Legal.{Legal}
use Rattle.cm_world.proofs.lemmas.trees.Histories.{Legal-split}
use Rattle.cm_laws.specs.Shutdowns.{IsMarked}
use Rattle.cm_laws.specs.ShutdownsInside.{MarksStay, ReapsMarked}
use Rattle.cm_laws.specs.Story.{IsLegal, world_of}
use Rattle.cm_manager.specs.Turns.{AddsWithinRoom, world_after}
use Rattle.cm_manager.specs.Runs.{RunsAction}
use Rattle.cm_manager.specs.Sweeps.{Stops, Removes, Sweeps}
use Rattle.cm_manager.specs.Acting.{EndsBegun}
use Rattle.cm_manager.specs.Asking.{RecordsEvent, frame_of}
use Rattle.cm_manager.specs.Contract.{RealmPass, GatesView, IsSamePass, IsSubcall}
use Rattle.cm_manager.specs.Work.{Manifests}
use Rattle.cm_answers.specs.declared.acted.ActionResult.{ActionResult}
use Rattle.cm_answers.specs.declared.acted.ActionResult.TheVariants as acted
use Rattle.cm_manager.proofs.lemmas.calling.Helping.{helps_nothing}
use Rattle.cm_manager.proofs.lemmas.onward.Onward.{frame_kept}
use Rattle.cm_manager.proofs.lemmas.shutdowns.ShuttingDown.{Purges, marked_next}
use Rattle.cm_manager.proofs.lemmas.left.Standing.{last_step, told}

-- ---- one row

-- A row that is stopped with all below it and then purged is removed, and ends as its purge does.
pub removed_by : (f : Frame) (c i : ℕ) (end : Option Refusal) (a b d : List Entry) → Stops f c i a b None → Purges i f c end b d → Removes f c i a d end
removed_by f c i None a b d stops purges = Removes.removed stops purges.1
removed_by f c i (Some x) a b d stops purges = Removes.cut_remove stops purges

-- ---- rows that are removed in order

-- A row at a place of the list is marked, where all in the list are.
pub item_marked : (w : World) (rows items : List ℕ) (k i : ℕ) → ((j : ℕ) → Contains rows j → IsMarked true w j) → items ≡ rows → k < length items → i ≡ get_or items k i → IsMarked true w i
item_marked w rows items k i marked same lt is = marked i (subst (λ (l : List ℕ). Contains l i) same (k, lt, sym is))

-- Rows that were marked in a tree seen before are all marked in the one seen later.
pub all_marked : MarksStay → (rows : List ℕ) (p q : RealmPass) → IsSamePass (frame_of p) p q → ((j : ℕ) → Contains rows j → IsMarked true (world_after (frame_of p) p.seen) j) → (j : ℕ) → Contains rows j → IsMarked true (world_after (frame_of q) q.seen) j
all_marked stays rows p q same marked j there = marked_next stays true j p q same (marked j there)

-- ---- a reap

-- no other reply than this comes
pub reaps_only : (i : ℕ) (r : Reply) (p q : RealmPass) → IsSamePass (frame_of p) p q → RecordsEvent (event.Reap i) p q (Ok r) → ((incs : List ℕ) → r ≢ reply.Reaping incs) → ⊥
reaps_only i r p q same asked other =
    let w = world_after (frame_of p) asked.0.made.found in
    other (reaped w.rows i) (last_step (frame_of p) p.caller p.seen (event.Reap i) r q.seen same.legal asked.0.made).allowed

-- what it names is marked, and stays so
pub reap_marks : ReapsMarked → (i : ℕ) (incs : List ℕ) (p q : RealmPass) → IsSamePass (frame_of p) p q → RecordsEvent (event.Reap i) p q (Ok (reply.Reaping incs)) → (j : ℕ) → Contains incs j → IsMarked true (world_after (frame_of q) q.seen) j
unfolding world_of IsLegal
reap_marks marks i incs p q same asked j there =
    let f = frame_of p in
    let made = asked.0.made in
    let legal : Legal (start f) made.found = (Legal-split (start f) made.found _ (subst (Legal (start f)) made.entries same.legal)).0 in
    subst (λ (f : Frame). IsMarked true (world_after f q.seen) j) (sym (frame_kept p q same.frame))
    (marks (record { frame = f; entries = made.found }) (record { frame = f; entries = q.seen }) p.caller i j incs legal
    (told f p.caller p.seen (event.Reap i) (reply.Reaping incs) q.seen same.legal made) there)

-- The sweep of a row, with its end before its histories.
abbrev pub Sweeping : ℕ → Frame → ℕ → Option Refusal → List Entry → List Entry → Type 0
Sweeping i f c end a b = Sweeps f c i a b end

-- One turn that adds the entry of a reap with these rows, for which there was room.
abbrev pub Reaps : ℕ → List ℕ → Frame → ℕ → List Entry → List Entry → Type 0
Reaps i incs f c a b = AddsWithinRoom f c a (event.Reap i) (reply.Reaping incs) b

-- A reap that was refused its entry is a part of a call whose sweep ends there.
pub swept_not : (manifests : Manifests) (i : ℕ) (x : Refusal) (p q : RealmPass) (g : GatesView) → IsSamePass (frame_of p) p q → RecordsEvent (event.Reap i) p q (Err x) → IsSubcall manifests (frame_of p) (λ a b. Sweeping i (frame_of p) p.caller (Some x) a b) p q g g
swept_not manifests i x p q g same asked =
    helps_nothing manifests (frame_of p) (λ a b. Sweeping i (frame_of p) p.caller (Some x) a b) p q g same (Sweeps.cut_reap asked.0) asked.1

-- ---- a stop

-- how a stop ends behind the removal of what goes with its row, which may have ended the call
abbrev pub behind_sweep : ℕ → Outcome → Option Refusal → Result ActionResult Refusal
behind_sweep a o None = Ok (acted.Ended kind.Stop a o)
behind_sweep a o (Some x) = Err x

-- who stopped a row itself goes on with what went with it
pub sweep_stops : (f : Frame) (c i n : ℕ) (o : Outcome) (eager : List ℕ) (end : Option Refusal) (a b d : List Entry) → EndsBegun f c kind.Stop i n o eager a b → Sweeps f c i b d end → RunsAction f c kind.Stop i a d (behind_sweep n o end)
sweep_stops f c i n o eager None a b d ends sweeps =
    subst (λ (n : ℕ). RunsAction f c kind.Stop i a d (Ok (acted.Ended kind.Stop n o))) (sym ends.action)
    (RunsAction.stopped {finish = ends.finish} ends.asks ends.makes (ends.whole refl) sweeps)
sweep_stops f c i n o eager (Some x) a b d ends sweeps =
    RunsAction.stopped_cut {finish = ends.finish} ends.asks ends.makes (ends.whole refl) sweeps
