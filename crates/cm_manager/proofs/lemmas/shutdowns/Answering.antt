-- What shutdowns and destructions leave of their rows, where nothing ended them before.
use Rattle.std.proofs.Common.{◌≡◌, ◌==◌, ◌||◌, ℕ, List, [], ◌∷◌, Bool, true, false, true≢false, cond, not, IsTrue, filter, length, map, Option, Some, None, is_some, Result, Ok, Err, IfOk, if◌then◌else◌, inl, inr, refl, sym, ap, subst, ◌∙◌}
use Rattle.std.specs.Cmp.{unsigned_Decides}
use Rattle.cm_turn.specs.History.{StartsWith}
use Rattle.cm_world.specs.declared.answer.Answer.{Answer}
use Rattle.cm_world.specs.declared.answer.Answer.TheVariants as answer
use Rattle.cm_world.specs.declared.answer.Refusal.{Refusal}
use Rattle.cm_world.specs.declared.event.Event.TheVariants as event
use Rattle.cm_world.specs.declared.event.Target.{Target}
use Rattle.cm_world.specs.declared.frame.Frame.{Frame}
use Rattle.cm_world.specs.declared.reply.Entry.{Entry}
use Rattle.cm_world.specs.declared.reply.Reply.{Reply}
use Rattle.cm_world.specs.declared.reply.Reply.TheVariants as reply
use Rattle.cm_world.specs.declared.row.Row.{Row}
use Rattle.cm_world.specs.After.{after}
use Rattle.cm_world.specs.Legal.{Legal, replay}
use Rattle.cm_world.specs.Marks.{lost_of, purge_reply}
use Rattle.cm_world.specs.Rows.{at_or_above, is_below, is_live, row_of, subtree}
use Rattle.cm_world.specs.World.{World, start}
use Rattle.cm_world.proofs.lemmas.trees.Finding.{none_some, row_of-inc}
use Rattle.cm_world.proofs.lemmas.trees.Histories.{Legal-split, replay-push}
use Rattle.cm_laws.specs.Shutdowns.{IsLeaving, IsMarked}
use Rattle.cm_laws.specs.ShutdownsInside.{DoneIsOver, IsShutBelow, MarksMark, MarksStay}
use Rattle.cm_laws.specs.Story.{entry_of, IsLegal, world_of}
use Rattle.cm_command.specs.declared.command.Command.{Command}
use Rattle.cm_command.specs.declared.command.Command.TheVariants as command
use Rattle.cm_manager.specs.Asking.{frame_of}
use Rattle.cm_manager.specs.Calls.{GoesOnWithRow, Calls, Finding, RunsOrLoses, OnRow, ComesToAnswer, CallWay}
use Rattle.cm_manager.specs.Contract.{GatesView, IsWholeCall, RealmPass}
use Rattle.cm_manager.specs.Laws.{DestructionsRemove, IsRemoved, LeavesRow, LeavesSo, ShutdownsLeaveShut}
use Rattle.cm_manager.specs.Shutdowns.{Destroys, Shuts}
use Rattle.cm_manager.specs.Sweeps.{Stops}
use Rattle.cm_manager.specs.Turns.{world_after}
use Rattle.cm_manager.specs.Work.{Manifests}
use Rattle.cm_manager.proofs.lemmas.left.Closing.{makes-own}
use Rattle.cm_manager.proofs.lemmas.left.Due.{leaving_stays, marked_stays}
use Rattle.cm_manager.proofs.lemmas.left.Closing.{stops_close}
use Rattle.cm_manager.proofs.lemmas.shutdowns.ShuttingDown.{destroys_close, shuts_close, unmarked_not}
use Rattle.cm_manager.proofs.lemmas.left.Standing.{last_step, told}
use Rattle.cm_turn.proofs.lemmas.Histories.{starts-trans}

-- ---- a row that is removed

-- a row is at or below itself
below_itself : (rows : List Row) (i : ℕ) (r : Row) → row_of rows i ≡ Some r → is_below rows i i ≡ true
below_itself [] i r lives = absurd (none_some r lives)
below_itself (x ∷ xs) i r lives =
    ap (λ (o : Option Row). elim o as (λ _. Bool) [ None ↦ false | Some s ↦ (s.inc == i) || at_or_above (length xs) (λ s. s.inc == i) (x ∷ xs) s.parent ]) lives
    ∙ ap (λ (b : Bool). b || at_or_above (length xs) (λ s. s.inc == i) (x ∷ xs) r.parent) ((unsigned_Decides r.inc i).1 (row_of-inc (x ∷ xs) i r lives))

-- A row that a test drops isn't found among the rows that are kept.
none_kept : (a b : Bool) (f : ℕ → Bool) (i : ℕ) (x : Row) (ys : List Row) → (x.inc == i) ≡ a → f x.inc ≡ b → f i ≡ false → row_of ys i ≡ None → row_of (cond b (x ∷ ys) ys) i ≡ None
none_kept true true f i x ys here pass fails later = absurd (true≢false (sym pass ∙ ap f ((unsigned_Decides x.inc i).0 here) ∙ fails))
none_kept false true f i x ys other pass fails later = ap (λ (t : Bool). cond t (Some x) (row_of ys i)) other ∙ later
none_kept a false f i x ys here pass fails later = later

-- among the rows that pass a test there is none whose incarnation fails it
none_left : (f : ℕ → Bool) (rows : List Row) (i : ℕ) → f i ≡ false → row_of (filter (λ r. f r.inc) rows) i ≡ None
none_left f [] i fails = refl
none_left f (x ∷ xs) i fails = none_kept (x.inc == i) (f x.inc) f i x (filter (λ r. f r.inc) xs) refl refl fails (none_left f xs i fails)

-- Where a row is there, it is some row.
the_row : (o : Option Row) → is_some o ≡ true → (r : Row) × (o ≡ Some r)
the_row (Some r) is = (r, refl)
the_row None is = absurd (cc is)

-- A row isn't live behind its purge, whether it was live before or not.
removed_by : (b : Bool) (w : World) (c i : ℕ) (r : Reply) → is_live w.rows i ≡ b → r ≡ purge_reply w.rows i → is_live (after w (entry_of c (event.Purge i) r)).rows i ≡ false
unfolding after
removed_by true w c i r lives is =
    let row = the_row (row_of w.rows i) lives in
    let purged : r ≡ reply.Purged (map (lost_of w.rows) (subtree w.rows i)) = is ∙ ap (λ (b : Bool). if b then reply.Purged (map (lost_of w.rows) (subtree w.rows i)) else reply.PurgedBefore) lives in
    subst (λ (r : Reply). is_live (after w (entry_of c (event.Purge i) r)).rows i ≡ false) (sym purged)
    (ap is_some (none_left (λ j. not (is_below w.rows i j)) w.rows i (ap not (below_itself w.rows i row.0 row.1))))
removed_by false w c i r dead is =
    let before : r ≡ reply.PurgedBefore = is ∙ ap (λ (b : Bool). if b then reply.Purged (map (lost_of w.rows) (subtree w.rows i)) else reply.PurgedBefore) dead in
    subst (λ (r : Reply). is_live (after w (entry_of c (event.Purge i) r)).rows i ≡ false) (sym before) dead

-- ---- what a run leaves

-- what a legal history begins with is legal
prefix_legal : (f : Frame) (a b : List Entry) → Legal (start f) b → StartsWith b a → Legal (start f) a
prefix_legal f a b legal grows = (Legal-split (start f) a grows.0 (subst (Legal (start f)) grows.1 legal)).0

-- A row that is leaving is shut with all below it, once its stops are over without a refusal.
stops_over : MarksStay → DoneIsOver → (f : Frame) (c t : ℕ) {a b : List Entry} → Legal (start f) b → IsLeaving (world_after f a) t → Stops f c t a b None → IsShutBelow (world_after f b) t
unfolding world_of
stops_over stays done f c t {a} {b} legal leaving (Stops.all_shut asks) =
    let found = asks.made.found in
    let prefix : Legal (start f) found = prefix_legal f found b legal (entry_of c (event.Pick t) reply.Done ∷ [], asks.made.entries) in
    done (record { frame = f; entries = found }) (record { frame = f; entries = b }) c t
    (leaving_stays stays f t a found prefix asks.made.later.grows leaving)
    (told f c a (event.Pick t) reply.Done b legal asks.made)
stops_over stays done f c t {a} {b} legal leaving (Stops.was_off {h₁ = h} asks rest) =
    let prefix : Legal (start f) h = prefix_legal f h b legal (stops_close f c t rest).grows in
    stops_over stays done f c t legal (leaving_stays stays f t a h prefix (makes-own c a h _ _ asks.made).0 leaving) rest
stops_over stays done f c t {a} {b} legal leaving (Stops.was_on {h₁ = g} {h₂ = h} asks makes rest) =
    let prefix : Legal (start f) h = prefix_legal f h b legal (stops_close f c t rest).grows in
    stops_over stays done f c t legal (leaving_stays stays f t a h prefix (starts-trans h g a (makes-own c g h _ _ makes).0 (makes-own c a g _ _ asks.made).0) leaving) rest

-- A shutdown that nothing ended before leaves its row marked, and shut with all below it.
pub shuts_over : MarksMark → MarksStay → DoneIsOver → (f : Frame) (c : ℕ) (doom : Bool) (i : ℕ) {a b : List Entry} → Legal (start f) b → Shuts f c doom i a b None → IsMarked doom (world_after f b) i × IsShutBelow (world_after f b) i
unfolding world_of IsLegal
shuts_over marks stays done f c doom i {a} {b} legal (Shuts.marked {h₁ = h} {r = r} asks is stops) =
    let grows = (stops_close f c i stops).grows in
    let prefix : Legal (start f) h = prefix_legal f h b legal grows in
    let found = asks.made.found in
    let marked : IsMarked doom (world_after f h) i =
    marks (record { frame = f; entries = found }) (record { frame = f; entries = h }) c i doom r
    (prefix_legal f found h prefix (entry_of c (event.Mark doom i) r ∷ [], asks.made.entries))
    (told f c a (event.Mark doom i) r h prefix asks.made) (unmarked_not r is) in
    (marked_stays stays f doom i h b legal grows marked, stops_over stays done f c i legal marked.0 stops)

-- A destruction that nothing ended before leaves its row removed.
pub destroys_gone : MarksMark → MarksStay → DoneIsOver → (f : Frame) (c i : ℕ) {a b : List Entry} → Legal (start f) b → Destroys f c i a b None → IsRemoved (world_after f b) i
destroys_gone marks stays done f c i {a} {b} legal (Destroys.purged {h₁ = h} {r = r} shuts asks) =
    let grows = (makes-own c h b _ _ asks.made).0 in
    let both = shuts_over marks stays done f c true i (prefix_legal f h b legal grows) shuts in
    let found = asks.made.found in
    let w = world_after f found in
    let last : world_after f b ≡ after w (entry_of c (event.Purge i) r) = ap (replay (start f)) asks.made.entries ∙ replay-push (start f) found (entry_of c (event.Purge i) r) in
    record {
      known = ((marked_stays stays f true i h b legal grows both.0).1 refl).known;
      gone =
          subst (λ (w : World). is_live w.rows i ≡ false) (sym last)
          (removed_by (is_live w.rows i) w c i r refl (last_step f c h (event.Purge i) r b legal asks.made).allowed);
    }

-- ---- calls

-- A command that is answered well, and so lost nothing, is a call as its rules say.
goes_well : (f : Frame) (c : ℕ) (cmd : Command) (h₀ h₁ : List Entry) (a : Answer) → RunsOrLoses f c cmd h₀ h₁ (Ok a) → Calls f c cmd h₀ h₁ (Ok a)
goes_well f c cmd h₀ h₁ a (inl way) = way
goes_well f c cmd h₀ h₁ a (inr lost) = absurd (cc lost.0)

-- nothing ended a call that was answered well
unended : (made : Answer) (way : CallWay (Option Refusal)) (h₀ h₁ : List Entry) (a : Answer) → ComesToAnswer made way h₀ h₁ (Ok a) → way h₀ h₁ None
unended made way h₀ h₁ a (None, it, is) = it
unended made way h₀ h₁ a (Some x, it, is) = absurd (cc is)

-- A call on a target that is answered well leaves what it leaves on each row, on the row found.
leaves_by : (f : Frame) (c : ℕ) (t : Target) (call : ℕ → CallWay (Result Answer Refusal)) (Holds : World → ℕ → Type 0) (h₀ h h₁ : List Entry) (a : Answer) (row : Result ℕ Refusal) → ((i : ℕ) → call i h h₁ (Ok a) → Holds (world_after f h₁) i) → ((i : ℕ) → call i h h₁ (Ok a) → StartsWith h₁ h) → Finding f c t h₀ h row → GoesOnWithRow row call h h₁ (Ok a) → LeavesRow f c t Holds h₀ h₁
leaves_by f c t call Holds h₀ h h₁ a (Ok i) holds grows finding behind = record { row = i; found_at = h; finding = finding; within = grows i behind; holds = holds i behind }
leaves_by f c t call Holds h₀ h h₁ a (Err x) holds grows finding behind = absurd (cc behind.1)

-- After a shutdown that was answered well all rows at and below its row are shut.
pub shutdowns_leave_shut : MarksMark → MarksStay → DoneIsOver → ShutdownsLeaveShut
shutdowns_leave_shut marks stays done f c t h₀ h₁ a legal goes =
    let on : OnRow f c t (λ i. ComesToAnswer answer.Shut (Shuts f c false i)) h₀ h₁ (Ok a) = goes_well f c (command.Shutdown t) h₀ h₁ a goes in
    leaves_by f c t (λ i. ComesToAnswer answer.Shut (Shuts f c false i)) IsShutBelow h₀ on.h₁ h₁ a on.row
    (λ i call. (shuts_over marks stays done f c false i legal (unended answer.Shut (Shuts f c false i) on.h₁ h₁ a call)).1)
    (λ i call. (shuts_close f c false i (unended answer.Shut (Shuts f c false i) on.h₁ h₁ a call)).grows)
    on.finding on.behind

-- After a destruction that was answered well its row is removed.
pub destructions_remove : MarksMark → MarksStay → DoneIsOver → DestructionsRemove
destructions_remove marks stays done f c t h₀ h₁ a legal goes =
    let on : OnRow f c t (λ i. ComesToAnswer answer.Destroyed (Destroys f c i)) h₀ h₁ (Ok a) = goes_well f c (command.Destroy t) h₀ h₁ a goes in
    leaves_by f c t (λ i. ComesToAnswer answer.Destroyed (Destroys f c i)) IsRemoved h₀ on.h₁ h₁ a on.row
    (λ i call. destroys_gone marks stays done f c i legal (unended answer.Destroyed (Destroys f c i) on.h₁ h₁ a call))
    (λ i call. (destroys_close f c i (unended answer.Destroyed (Destroys f c i) on.h₁ h₁ a call)).grows)
    on.finding on.behind

-- what a call of the manager leaves so, where it is answered well
pub leaves_if : (command_on : Target → Command) (Holds : World → ℕ → Type 0) → LeavesSo command_on Holds → (manifests : Manifests) (t : Target) (p q : RealmPass) (g h : GatesView) (a : Result Answer Refusal) → IsWholeCall manifests (frame_of p) (command_on t) p q g h a → IfOk a (λ _. LeavesRow (frame_of p) p.caller t Holds p.seen q.seen)
leaves_if command_on Holds law manifests t p q g h (Ok a) is = law (frame_of p) p.caller t p.seen q.seen a is.same.legal (inl is.way)
leaves_if command_on Holds law manifests t p q g h (Err x) is = tt
