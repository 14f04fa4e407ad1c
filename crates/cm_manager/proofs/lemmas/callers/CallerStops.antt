-- What a caller's shutdowns come to, and what it removes behind a stop.
use Rattle.std.proofs.Common.{◌≡◌, ℕ, List, [], ◌∷◌, Bool, true, false, Option, Some, None, Result, Ok, Err, refl, sym, subst, ◌∙◌}
use Rattle.cm_world.specs.declared.action.ActKind.TheVariants as kind
use Rattle.cm_world.specs.declared.action.Finish.{Finish}
use Rattle.cm_world.specs.declared.action.Outcome.{Outcome}
use Rattle.cm_world.specs.declared.action.Work.{Work}
use Rattle.cm_world.specs.declared.answer.Refusal.{Refusal}
use Rattle.cm_world.specs.declared.event.Event.TheVariants as event
use Rattle.cm_world.specs.declared.reply.Reply.{Reply}
use Rattle.cm_world.specs.declared.reply.Reply.TheVariants as reply
use Rattle.cm_world.specs.Expiring.{runs_once}
use Rattle.cm_world.specs.Step.{MayEnd}
use Rattle.cm_laws.specs.ShutdownsInside.{PickersMayEnd}
use Rattle.cm_answers.specs.Answers.{ends_eager}
use Rattle.cm_answers.specs.AnswersInside.{unmarked_by}
use Rattle.cm_answers.specs.declared.acted.ActionResult.{ActionResult}
use Rattle.cm_manager.specs.Acting.{BeginRun, PickRun}
use Rattle.cm_manager.specs.Asking.{RecordsEvent, RecordsOutcome, Purged, frame_of}
use Rattle.cm_manager.specs.Caller.{CallerView, TakesTurns, WorksOutsideTurn, CallerWay, CallerRuns}
use Rattle.cm_manager.specs.Contract.{RealmPass, IsSamePass}
use Rattle.cm_manager.specs.Doing.{FitsAction}
use Rattle.cm_manager.specs.Runs.{RunsAction, StartsSingleRun}
use Rattle.cm_manager.specs.Shutdowns.{Shuts, Destroys}
use Rattle.cm_manager.specs.Sweeps.{Stops, Removes, Clears, Sweeps}
use Rattle.cm_manager.specs.Turns.{IsLaterHistory, world_after}
use Rattle.cm_manager.specs.declared.began.Began.TheVariants as began
use Rattle.cm_manager.specs.declared.began.PickTurn.{PickTurn}
use Rattle.cm_manager.specs.declared.began.PickTurn.TheVariants as picked
use Rattle.cm_manager.proofs.lemmas.calling.Followings.{Looks, not_once}
use Rattle.cm_manager.proofs.lemmas.calling.Helping.{helps_nothing, helps_plain}
use Rattle.cm_manager.proofs.lemmas.callers.CallerRuns.{CallerLoop, caller_trans, did_between, loop_on, runs_as, runs_then, stays, turns_run}
use Rattle.cm_manager.proofs.lemmas.shutdowns.ShuttingDown.{Marks, Purges, cut_pick_help, done_help, marks_help, off_help, on_help, picked_may, purge_help, purged_by, unmarked_shuts}
use Rattle.cm_manager.proofs.lemmas.shutdowns.Sweepings.{Reaps, behind_sweep, removed_by, sweep_stops, swept_not}

-- ---- picks

-- the stop that was picked may be ended
pub pick_may : PickersMayEnd → (t : ℕ) (w : Work) (end : Finish) (s u v : CallerView) → TakesTurns s u → RecordsEvent (event.Pick t) s.pass u.pass (Ok (reply.Stopping w)) → WorksOutsideTurn kind.Stop w end u v → FitsAction kind.Stop end → MayEnd (world_after (frame_of v.pass) v.pass.seen).acts v.pass.caller w.action end
pick_may may t w end s u v turns asked work fits =
    subst (λ (p : RealmPass). MayEnd (world_after (frame_of p) p.seen).acts p.caller w.action end) (sym work.pass)
    (picked_may may t w end s.pass u.pass turns.pass asked fits)

-- A pick that is refused its entry is cut with that refusal.
pub pick_cut : (t : ℕ) (x : Refusal) (s u : CallerView) → TakesTurns s u → RecordsEvent (event.Pick t) s.pass u.pass (Err x) → CallerRuns (λ f c a b. PickRun f c t (picked.Cut x) a b) s u
pick_cut t x s u turns asked = turns_run (λ f c a b. PickRun f c t (picked.Cut x) a b) s u turns (cut_pick_help s.manager.manifests t x s.pass u.pass s.gates turns.pass asked)

-- A pick that is answered that all is done came to that.
pub pick_done : (t : ℕ) (s u : CallerView) → TakesTurns s u → RecordsEvent (event.Pick t) s.pass u.pass (Ok reply.Done) → CallerRuns (λ f c a b. PickRun f c t picked.Done a b) s u
pick_done t s u turns asked = turns_run (λ f c a b. PickRun f c t picked.Done a b) s u turns (done_help s.manager.manifests t s.pass u.pass s.gates turns.pass asked)

-- A pick that shut a row that was off goes further.
pub pick_off : (t i : ℕ) (s u : CallerView) → TakesTurns s u → RecordsEvent (event.Pick t) s.pass u.pass (Ok (reply.ShutDown i)) → CallerRuns (λ f c a b. PickRun f c t picked.Further a b) s u
pick_off t i s u turns asked = turns_run (λ f c a b. PickRun f c t picked.Further a b) s u turns (off_help s.manager.manifests t i s.pass u.pass s.gates turns.pass asked)

-- A pick that asks for a stop goes further, once the stop is worked for and ended.
pub pick_on : (t : ℕ) (w : Work) (end : Finish) (o : Outcome) (s u v x : CallerView) → TakesTurns s u → RecordsEvent (event.Pick t) s.pass u.pass (Ok (reply.Stopping w)) → WorksOutsideTurn kind.Stop w end u v → TakesTurns v x → RecordsOutcome v.pass x.pass (event.End w.action end) o → CallerRuns (λ f c a b. PickRun f c t picked.Further a b) s x
pick_on t w end o s u v x first asked work second told = record {
  caller = caller_trans s v x (caller_trans s u v first.caller work.caller) second.caller;
  helps =
      on_help s.manager.manifests t w end o s.pass u.pass x.pass s.gates x.gates first.pass asked (did_between kind.Stop w end s u v x first work second)
      (subst (λ (p : RealmPass). IsSamePass (frame_of p) p x.pass) work.pass second.pass)
      (subst (λ (p : RealmPass). RecordsOutcome p x.pass (event.End w.action end) o) work.pass told);
}

-- ---- all picks of a target

-- A pick below a target that goes so, as a caller's way.
abbrev PickWay : ℕ → PickTurn → CallerWay
PickWay t by f c a b = PickRun f c t by a b

-- All stops below a target that end so, as a caller's way.
abbrev StopsWay : ℕ → Option Refusal → CallerWay
StopsWay t end f c a b = Stops f c t a b end

-- The stops of a target end well, where its pick came to it that all is done.
pub stops_done : (t : ℕ) (by : PickTurn) (s u : CallerView) → by ≡ picked.Done → CallerRuns (λ f c a b. PickRun f c t by a b) s u → CallerRuns (λ f c a b. Stops f c t a b None) s u
stops_done t by s u is it =
    runs_as (PickWay t by) (StopsWay t None) s u (λ f c a b way. Stops.all_shut (subst (λ (by : PickTurn). PickRun f c t by a b) is way)) it

-- The stops of a target end with a refusal, where its pick is cut with it.
pub stops_cut : (t : ℕ) (by : PickTurn) (x : Refusal) (s u : CallerView) → by ≡ picked.Cut x → CallerRuns (λ f c a b. PickRun f c t by a b) s u → CallerRuns (λ f c a b. Stops f c t a b (Some x)) s u
stops_cut t by x s u is it =
    runs_as (PickWay t by) (StopsWay t (Some x)) s u (λ f c a b way. Stops.cut_pick (subst (λ (by : PickTurn). PickRun f c t by a b) is way)) it

-- After a pick that goes further, whatever the stops that are left come to makes the whole.
pub stops_on : (t : ℕ) (by : PickTurn) (first s u : CallerView) → CallerLoop (λ end f c a b. Stops f c t a b end) (λ end f c a b. Stops f c t a b end) first s → by ≡ picked.Further → CallerRuns (λ f c a b. PickRun f c t by a b) s u → CallerLoop (λ end f c a b. Stops f c t a b end) (λ end f c a b. Stops f c t a b end) first u
stops_on t by first s u o is it =
    loop_on (PickWay t by) (StopsWay t) (StopsWay t) (StopsWay t) first s u
    (λ f c end a b z way more. (subst (λ (by : PickTurn). PickRun f c t by a b) is way) z end more) o it

-- ---- marks

-- A row that is marked, and then stopped with all below it, is shut down, and ends as the stops do.
pub marked_runs : (doom : Bool) (i : ℕ) (asked : Result Reply Refusal) (end : Option Refusal) (s u v : CallerView) → unmarked_by asked ≡ None → TakesTurns s u → RecordsEvent (event.Mark doom i) s.pass u.pass asked → CallerRuns (λ f c a b. Stops f c i a b end) u v → CallerRuns (λ f c a b. Shuts f c doom i a b end) s v
marked_runs doom i asked end s u v is turns it all =
    runs_then (Marks doom i) (StopsWay i end) (λ f c a b. Shuts f c doom i a b end) s u v
    (λ f c a b d m st. Shuts.marked m.1 m.2 st)
    (turns_run (Marks doom i) s u turns (marks_help s.manager.manifests doom i asked s.pass u.pass s.gates is turns.pass it)) all

-- A shutdown whose mark is refused ends with that refusal.
pub unmarked_runs : (doom : Bool) (i : ℕ) (asked : Result Reply Refusal) (x : Refusal) (s u : CallerView) → unmarked_by asked ≡ Some x → TakesTurns s u → RecordsEvent (event.Mark doom i) s.pass u.pass asked → CallerRuns (λ f c a b. Shuts f c doom i a b (Some x)) s u
unmarked_runs doom i asked x s u is turns it =
    turns_run (λ f c a b. Shuts f c doom i a b (Some x)) s u turns (unmarked_shuts s.manager.manifests doom i asked x s.pass u.pass s.gates is turns.pass it)

-- ---- a row that is destroyed

-- The purge of a row that ends so, as a caller's way.
abbrev PurgeWay : ℕ → Option Refusal → CallerWay
PurgeWay i end f c a b = Purges i f c end a b

-- A caller whose turns purge a row came the way of that purge.
purge_runs : (i : ℕ) (end : Option Refusal) (s u : CallerView) → TakesTurns s u → Purged i s.pass u.pass end → CallerRuns (PurgeWay i end) s u
purge_runs i end s u turns it = turns_run (PurgeWay i end) s u turns (purge_help s.manager.manifests i end s.pass u.pass s.gates turns.pass it)

-- A row that is shut down and then purged is destroyed, and ends as the purge does.
pub destroyed_runs : (i : ℕ) (shut end : Option Refusal) (s u v : CallerView) → shut ≡ None → CallerRuns (λ f c a b. Shuts f c true i a b shut) s u → TakesTurns u v → Purged i u.pass v.pass end → CallerRuns (λ f c a b. Destroys f c i a b end) s v
destroyed_runs i shut end s u v is first turns it =
    runs_then (λ f c a b. Shuts f c true i a b shut) (PurgeWay i end) (λ f c a b. Destroys f c i a b end) s u v
    (λ f c a b d sh p. purged_by f c i end a b d (subst (λ (o : Option Refusal). Shuts f c true i a b o) is sh) p) first (purge_runs i end u v turns it)

-- A destruction ends with the refusal that ended its shutdown.
pub unshut_runs : (i : ℕ) (end : Option Refusal) (x : Refusal) (s u : CallerView) → end ≡ Some x → CallerRuns (λ f c a b. Shuts f c true i a b end) s u → CallerRuns (λ f c a b. Destroys f c i a b (Some x)) s u
unshut_runs i end x s u is it =
    runs_as (λ f c a b. Shuts f c true i a b end) (λ f c a b. Destroys f c i a b (Some x)) s u
    (λ f c a b sh. Destroys.unshut (subst (λ (o : Option Refusal). Shuts f c true i a b o) is sh)) it

-- ---- a row that is removed

-- A row that is stopped with all below it and then purged is removed, and ends as the purge does.
pub removed_runs : (i : ℕ) (stopped end : Option Refusal) (s u v : CallerView) → stopped ≡ None → CallerRuns (λ f c a b. Stops f c i a b stopped) s u → TakesTurns u v → Purged i u.pass v.pass end → CallerRuns (λ f c a b. Removes f c i a b end) s v
removed_runs i stopped end s u v is first turns it =
    runs_then (StopsWay i stopped) (PurgeWay i end) (λ f c a b. Removes f c i a b end) s u v
    (λ f c a b d st p. removed_by f c i end a b d (subst (λ (o : Option Refusal). Stops f c i a b o) is st) p) first (purge_runs i end u v turns it)

-- A removal ends with the refusal that ended its stops.
pub unstopped_runs : (i : ℕ) (end : Option Refusal) (x : Refusal) (s u : CallerView) → end ≡ Some x → CallerRuns (λ f c a b. Stops f c i a b end) s u → CallerRuns (λ f c a b. Removes f c i a b (Some x)) s u
unstopped_runs i end x s u is it =
    runs_as (StopsWay i end) (λ f c a b. Removes f c i a b (Some x)) s u (λ f c a b st. Removes.not_stopped (subst (λ (o : Option Refusal). Stops f c i a b o) is st)) it

-- ---- rows that are removed in order

-- The removal of a row that ends so, as a caller's way.
abbrev RemoveWay : ℕ → Option Refusal → CallerWay
RemoveWay i end f c a b = Removes f c i a b end

-- The removals of these rows in order, that end so, as a caller's way.
abbrev ClearWay : List ℕ → Option Refusal → CallerWay
ClearWay is end f c a b = Clears f c is a b end

-- After one row is removed, whatever the rows that are left come to makes the whole clearing.
pub cleared_on : (i : ℕ) (end : Option Refusal) (all is rest : List ℕ) (first s u : CallerView) → CallerLoop (λ end f c a b. Clears f c is a b end) (λ end f c a b. Clears f c all a b end) first s → is ≡ i ∷ rest → end ≡ None → CallerRuns (λ f c a b. Removes f c i a b end) s u → CallerLoop (λ end f c a b. Clears f c rest a b end) (λ end f c a b. Clears f c all a b end) first u
cleared_on i end all is rest first s u o same fine it =
    loop_on (RemoveWay i end) (ClearWay is) (ClearWay rest) (ClearWay all) first s u
    (λ f c end₁ a b z way more.
    subst (λ (l : List ℕ). Clears f c l a z end₁) (sym same)
    (Clears.next_row (subst (λ (o : Option Refusal). Removes f c i a b o) fine way) more))
    o it

-- The clearing of rows ends with the refusal that ended the removal of the first of them.
pub clear_cut : (i : ℕ) (end : Option Refusal) (x : Refusal) (is rest : List ℕ) (s u : CallerView) → is ≡ i ∷ rest → end ≡ Some x → CallerRuns (λ f c a b. Removes f c i a b end) s u → CallerRuns (λ f c a b. Clears f c is a b (Some x)) s u
clear_cut i end x is rest s u same cut it =
    runs_as (RemoveWay i end) (ClearWay is (Some x)) s u
    (λ f c a b way.
    subst (λ (l : List ℕ). Clears f c l a b (Some x)) (sym same)
    (Clears.cut_row (subst (λ (o : Option Refusal). Removes f c i a b o) cut way))) it

-- Where no row is left to remove, the clearing ends well, and nothing is done.
pub clear_done : (is : List ℕ) (s : CallerView) → is ≡ [] → IsSamePass (frame_of s.pass) s.pass s.pass → CallerRuns (λ f c a b. Clears f c is a b None) s s
clear_done is s none known =
    stays (ClearWay is None) s known (subst (λ (l : List ℕ). Clears (frame_of s.pass) s.pass.caller l s.pass.seen s.pass.seen None) (sym none) Clears.none_left)

-- ---- a reap

-- A reap, and then the clearing of the rows that it names, is a sweep, and ends as the clearing does.
pub swept_runs : (i : ℕ) (incs : List ℕ) (end : Option Refusal) (s u v : CallerView) → TakesTurns s u → RecordsEvent (event.Reap i) s.pass u.pass (Ok (reply.Reaping incs)) → CallerRuns (λ f c a b. Clears f c incs a b end) u v → CallerRuns (λ f c a b. Sweeps f c i a b end) s v
swept_runs i incs end s u v turns asked all =
    runs_then (Reaps i incs) (ClearWay incs end) (λ f c a b. Sweeps f c i a b end) s u v (λ f c a b d r cl. Sweeps.swept r cl)
    (turns_run (Reaps i incs) s u turns
    (helps_plain s.manager.manifests (frame_of s.pass) (λ a b. Reaps i incs (frame_of s.pass) s.pass.caller a b) s.pass u.pass s.gates (event.Reap i) (reply.Reaping incs) refl refl refl turns.pass asked.0 asked.1))
    all

-- A sweep whose reap is refused its entry ends with that refusal.
pub unswept_runs : (i : ℕ) (x : Refusal) (s u : CallerView) → TakesTurns s u → RecordsEvent (event.Reap i) s.pass u.pass (Err x) → CallerRuns (λ f c a b. Sweeps f c i a b (Some x)) s u
unswept_runs i x s u turns asked = turns_run (λ f c a b. Sweeps f c i a b (Some x)) s u turns (swept_not s.manager.manifests i x s.pass u.pass s.gates turns.pass asked)

-- ---- a stop

-- A stop that ended, and then the sweep of its row, are the whole run of a stop.
pub stop_runs : (i n : ℕ) (o : Outcome) (eager : List ℕ) (end : Option Refusal) (s u v : CallerView) → CallerRuns (λ f c a b. BeginRun f c kind.Stop i (Ok (began.Ended n o eager)) a b) s u → CallerRuns (λ f c a b. Sweeps f c i a b end) u v → CallerRuns (λ f c a b. RunsAction f c kind.Stop i a b (behind_sweep n o end)) s v
stop_runs i n o eager end s u v first all =
    runs_then (λ f c a b. BeginRun f c kind.Stop i (Ok (began.Ended n o eager)) a b) (λ f c a b. Sweeps f c i a b end) (λ f c a b. RunsAction f c kind.Stop i a b (behind_sweep n o end)) s u v
    (λ f c a b d ends sweeps. sweep_stops f c i n o eager end a b d ends sweeps) first all

-- ---- a child that runs once

-- Where a new child isn't in a collection that runs each child once, nothing is started.
pub once_not : (i : ℕ) (once : Bool) (s u : CallerView) → TakesTurns s u → IsLaterHistory s.pass.caller s.pass.seen u.pass.seen → u.pass.mine ≡ s.pass.mine → once ≡ runs_once (world_after (frame_of s.pass) u.pass.seen).rows i → once ≡ false → CallerRuns (λ f c a b. StartsSingleRun f c i a b None) s u
once_not i once s u turns later mine by is =
    turns_run (λ f c a b. StartsSingleRun f c i a b None) s u turns (not_once s.manager.manifests i once s.pass u.pass s.gates turns.pass later mine by is)

-- Where a new child is in a collection that runs each child once, its start is all that is run.
pub once_runs : (i : ℕ) (once : Bool) (went : Result ActionResult Refusal) (end : Option Refusal) (s u v : CallerView) → TakesTurns s u → IsLaterHistory s.pass.caller s.pass.seen u.pass.seen → u.pass.mine ≡ s.pass.mine → once ≡ runs_once (world_after (frame_of s.pass) u.pass.seen).rows i → once ≡ true → end ≡ ends_eager went → CallerRuns (λ f c a b. RunsAction f c kind.Start i a b went) u v → CallerRuns (λ f c a b. StartsSingleRun f c i a b end) s v
once_runs i once went end s u v turns later mine by is ended acts =
    runs_then (Looks i) (λ f c a b. RunsAction f c kind.Start i a b went) (λ f c a b. StartsSingleRun f c i a b end) s u v
    (λ f c a b d look act. subst (λ (o : Option Refusal). StartsSingleRun f c i a d o) (sym ended) (StartsSingleRun.once look.0 look.1 act))
    (turns_run (Looks i) s u turns (helps_nothing s.manager.manifests (frame_of s.pass) (λ a b. Looks i (frame_of s.pass) s.pass.caller a b) s.pass u.pass s.gates turns.pass (later, sym by ∙ is) mine))
    acts
