-- What a caller's turns, works and calls come to, one behind the other.
use Rattle.std.proofs.Common.{◌≡◌, ◌≢◌, ℕ, List, [], Result, Ok, Err, IsTrue, refl, sym, subst, ◌∙◌}
use Rattle.cm_facts.proofs.Options.{Ok_same, Ok_not_Err}
use Rattle.cm_world.specs.declared.action.ActKind.{ActKind}
use Rattle.cm_world.specs.declared.action.ActKind.TheVariants as kind
use Rattle.cm_world.specs.declared.action.Finish.{Finish}
use Rattle.cm_world.specs.declared.action.Outcome.{Outcome}
use Rattle.cm_world.specs.declared.action.Work.{Work}
use Rattle.cm_world.specs.declared.answer.Answer.{Answer}
use Rattle.cm_world.specs.declared.answer.Refusal.{Refusal}
use Rattle.cm_world.specs.declared.event.Event.{Event}
use Rattle.cm_world.specs.declared.event.Event.TheVariants as event
use Rattle.cm_world.specs.declared.event.Target.{Target}
use Rattle.cm_world.specs.declared.event.Target.TheVariants as target
use Rattle.cm_world.specs.declared.frame.Frame.{Frame}
use Rattle.cm_world.specs.declared.reply.Entry.{Entry}
use Rattle.cm_world.specs.declared.reply.Reply.{Reply}
use Rattle.cm_world.specs.declared.reply.Reply.TheVariants as reply
use Rattle.cm_world.specs.Step.{MayEnd}
use Rattle.cm_laws.specs.Laws.{IsJoined}
use Rattle.cm_command.specs.declared.command.Command.{Command}
use Rattle.cm_manager.specs.declared.began.Began.{Began}
use Rattle.cm_manager.specs.declared.began.Began.TheVariants as began
use Rattle.cm_manager.specs.declared.began.Launch.{Launch}
use Rattle.cm_manager.specs.Acting.{BeginRun, StartsBy}
use Rattle.cm_manager.specs.Asking.{RecordsEvent, RecordsOutcome, frame_of, is_asked, is_plain}
use Rattle.cm_manager.specs.Caller.{CallerView, IsSameCaller, TakesTurns, WorksOutsideTurn, CallerWay, CallerRuns, CallerPerforms, CallerFinds}
use Rattle.cm_manager.specs.Calls.{CallWay, Calls, Finding, GoesOnWithRow, OnRow}
use Rattle.cm_manager.specs.Contract.{RealmPass, GatesView, IsSamePass, IsSubcall}
use Rattle.cm_manager.specs.Doing.{Did, FitsAction}
use Rattle.cm_manager.specs.Managers.{ManagerView}
use Rattle.cm_manager.specs.Runs.{RetriesEvent}
use Rattle.cm_manager.specs.Turns.{AddsWithinRoom, world_after}
use Rattle.cm_manager.proofs.lemmas.calling.Helping.{helps_as, helps_nothing, helps_then}
use Rattle.cm_manager.proofs.lemmas.onward.Begins.{begun_may, joined_may, begun_help, joined_help, needs_help, quiet_help, cut_help}
use Rattle.cm_manager.proofs.lemmas.onward.Onward.{by_first, known_next}
use Rattle.cm_manager.proofs.lemmas.onward.Tryings.{asked_help, cut_trying}

-- ---- one caller

-- One who is the same caller as a second, who is the same as a third, is the same as the third.
pub caller_trans : (s t u : CallerView) → IsSameCaller s t → IsSameCaller t u → IsSameCaller s u
caller_trans s t u first second = record { manager = second.manager ∙ first.manager; name = second.name ∙ first.name }

-- A caller that came one way came any way that it implies.
pub runs_as : (Way Other : CallerWay) (s t : CallerView) → ((f : Frame) (c : ℕ) (a b : List Entry) → Way f c a b → Other f c a b) → CallerRuns Way s t → CallerRuns Other s t
runs_as Way Other s t other it = record {
  caller = it.caller;
  helps = helps_as s.manager.manifests (frame_of s.pass) (Way (frame_of s.pass) s.pass.caller) (Other (frame_of s.pass) s.pass.caller) s.pass t.pass s.gates t.gates (other (frame_of s.pass) s.pass.caller s.pass.seen t.pass.seen) it.helps;
}

-- A caller that came one way and then another came the whole way that both make.
pub runs_then : (First Second Whole : CallerWay) (s t u : CallerView) → ((f : Frame) (c : ℕ) (a b d : List Entry) → First f c a b → Second f c b d → Whole f c a d) → CallerRuns First s t → CallerRuns Second t u → CallerRuns Whole s u
runs_then First Second Whole s t u both first second =
    let f = frame_of s.pass in
    let c = s.pass.caller in
    record {
      caller = caller_trans s t u first.caller second.caller;
      helps =
          helps_then s.manager.manifests f (First f c) (Second f c) (Whole f c) s.pass t.pass u.pass s.gates t.gates u.gates (both f c s.pass.seen t.pass.seen u.pass.seen) first.helps
          (by_first (λ f c. IsSubcall s.manager.manifests f (Second f c) t.pass u.pass t.gates u.gates) s.pass t.pass first.helps.same.frame first.helps.same.caller
          (subst (λ (m : ManagerView). IsSubcall m.manifests (frame_of t.pass) (Second (frame_of t.pass) t.pass.caller) t.pass u.pass t.gates u.gates) first.caller.manager second.helps));
    }

-- Turns of a caller with gates as they were, whose entries make a way, are that way.
pub turns_run : (Way : CallerWay) (s t : CallerView) → TakesTurns s t → IsSubcall s.manager.manifests (frame_of s.pass) (Way (frame_of s.pass) s.pass.caller) s.pass t.pass s.gates s.gates → CallerRuns Way s t
turns_run Way s t turns helps = record {
  caller = turns.caller;
  helps = subst (λ (g : GatesView). IsSubcall s.manager.manifests (frame_of s.pass) (Way (frame_of s.pass) s.pass.caller) s.pass t.pass s.gates g) (sym turns.gates) helps;
}

-- ---- loops

-- whatever the rest of a loop comes to makes the whole
pub record CallerLoop {A : Type 0} (Rest Whole : A → CallerWay) (first now : CallerView) : Type 0 where
  pub rest : (t : CallerView) (end : A) → CallerRuns (Rest end) now t → CallerRuns (Whole end) first t

-- One step further in a loop, whatever is left makes the whole, as what was left before did.
pub loop_on : {A : Type 0} (Step : CallerWay) (Rest Next Whole : A → CallerWay) (first now next : CallerView) → ((f : Frame) (c : ℕ) (end : A) (a b d : List Entry) → Step f c a b → Next end f c b d → Rest end f c a d) → CallerLoop Rest Whole first now → CallerRuns Step now next → CallerLoop Next Whole first next
loop_on Step Rest Next Whole first now next both leads step = record {
  rest = λ t end it. leads.rest t end (runs_then Step (Next end) (Rest end) now next t (λ f c. both f c end) step it);
}

-- a pass that took a turn is known to be as it says
pub known_run : (Way : CallerWay) (s t : CallerView) → CallerRuns Way s t → IsSamePass (frame_of t.pass) t.pass t.pass
known_run Way s t it = known_next s.pass t.pass it.helps.same

-- A caller that does nothing came a way that nothing may come.
pub stays : (Way : CallerWay) (s : CallerView) → IsSamePass (frame_of s.pass) s.pass s.pass → Way (frame_of s.pass) s.pass.caller s.pass.seen s.pass.seen → CallerRuns Way s s
stays Way s known way = record {
  caller = record { manager = refl; name = refl };
  helps = helps_nothing s.manager.manifests (frame_of s.pass) (Way (frame_of s.pass) s.pass.caller) s.pass s.pass s.gates known way refl;
}

-- ---- a begin

-- a begin as a start, or as one that needs another row
pub begun_start : (i : ℕ) (by : Result Began Refusal) (end : Launch) (s t : CallerView) → ((f : Frame) (c i : ℕ) (a b : List Entry) → BeginRun f c kind.Start i by a b → StartsBy f c i end a b) → CallerRuns (λ f c a b. BeginRun f c kind.Start i by a b) s t → CallerRuns (λ f c a b. StartsBy f c i end a b) s t
begun_start i by end s t name it = runs_as (λ f c a b. BeginRun f c kind.Start i by a b) (λ f c a b. StartsBy f c i end a b) s t (λ f c a b. name f c i a b) it

-- A start's begin that comes to one turn, which needs a row resolved, is run as that turn.
pub begun_need : (i j : ℕ) (by : Result Began Refusal) (s t : CallerView) → ((f : Frame) (c i : ℕ) (a b : List Entry) → BeginRun f c kind.Start i by a b → AddsWithinRoom f c a (event.Begin kind.Start i) (reply.Need j) b) → CallerRuns (λ f c a b. BeginRun f c kind.Start i by a b) s t → CallerRuns (λ f c a b. AddsWithinRoom f c a (event.Begin kind.Start i) (reply.Need j) b) s t
begun_need i j by s t name it = runs_as (λ f c a b. BeginRun f c kind.Start i by a b) (λ f c a b. AddsWithinRoom f c a (event.Begin kind.Start i) (reply.Need j) b) s t (λ f c a b. name f c i a b) it

-- A caller that began an action may end it after its work, with an end that fits the kind.
pub work_may : (k : ActKind) (i : ℕ) (w : Work) (end : Finish) (s t u : CallerView) → TakesTurns s t → RecordsEvent (event.Begin k i) s.pass t.pass (Ok (reply.Begun w)) → WorksOutsideTurn k w end t u → FitsAction k end → MayEnd (world_after (frame_of u.pass) u.pass.seen).acts u.pass.caller w.action end
work_may k i w end s t u turns asked work fits =
    subst (λ (p : RealmPass). MayEnd (world_after (frame_of p) p.seen).acts p.caller w.action end) (sym work.pass)
    (begun_may k i w end s.pass t.pass turns.pass asked fits)

-- the work of an action between two turns, by the gates before and after them
pub did_between : (k : ActKind) (w : Work) (end : Finish) (s t u v : CallerView) → TakesTurns s t → WorksOutsideTurn k w end t u → TakesTurns u v → Did s.manager.manifests w k end s.gates v.gates
did_between k w end s t u v first work second =
    let begun = subst (λ (m : ManagerView). Did m.manifests w k end t.gates u.gates) first.caller.manager work.did in
    let from = subst (λ (g : GatesView). Did s.manager.manifests w k end g u.gates) first.gates begun in
    subst (λ (g : GatesView). Did s.manager.manifests w k end s.gates g) (sym second.gates) from

-- An action that is begun, worked for and ended is a begin that came to its outcome.
pub begun_runs : (k : ActKind) (i : ℕ) (w : Work) (end : Finish) (o : Outcome) (eager : List ℕ) (s t u v : CallerView) → TakesTurns s t → RecordsEvent (event.Begin k i) s.pass t.pass (Ok (reply.Begun w)) → WorksOutsideTurn k w end t u → FitsAction k end → (k ≡ kind.Start → eager ≡ w.eager) → TakesTurns u v → RecordsOutcome u.pass v.pass (event.End w.action end) o → CallerRuns (λ f c a b. BeginRun f c k i (Ok (began.Ended w.action o eager)) a b) s v
begun_runs k i w end o eager s t u v first asked work fits children second told =
    record {
      caller = caller_trans s u v (caller_trans s t u first.caller work.caller) second.caller;
      helps =
          begun_help s.manager.manifests k i w end o eager s.pass t.pass v.pass s.gates v.gates first.pass asked (did_between k w end s t u v first work second) fits children
          (subst (λ (p : RealmPass). IsSamePass (frame_of p) p v.pass) work.pass second.pass)
          (subst (λ (p : RealmPass). RecordsOutcome p v.pass (event.End w.action end) o) work.pass told);
    }

-- A caller whose begin was answered that it joined an action has joined it.
pub join_may : (k : ActKind) (i n : ℕ) (s t : CallerView) → TakesTurns s t → RecordsEvent (event.Begin k i) s.pass t.pass (Ok (reply.Joined n)) → IsJoined (world_after (frame_of t.pass) t.pass.seen) t.pass.caller n
join_may k i n s t turns asked = joined_may k i n s.pass t.pass turns.pass asked

-- Turns alone and then turns alone are turns alone, where the pass is the same one over both.
pub turns_trans : (s t u : CallerView) → TakesTurns s t → TakesTurns t u → IsSamePass (frame_of s.pass) s.pass u.pass → TakesTurns s u
turns_trans s t u first second same = record { caller = caller_trans s t u first.caller second.caller; gates = second.gates ∙ first.gates; pass = same }

-- A begin that joined an action, and then awaited its end, came to the outcome of that action.
pub joined_runs : (k : ActKind) (i n : ℕ) (o : Outcome) (s t u : CallerView) → TakesTurns s t → RecordsEvent (event.Begin k i) s.pass t.pass (Ok (reply.Joined n)) → TakesTurns t u → RecordsOutcome t.pass u.pass (event.Await n) o → CallerRuns (λ f c a b. BeginRun f c k i (Ok (began.Joined n o)) a b) s u
joined_runs k i n o s t u first asked second told =
    let it = joined_help s.manager.manifests k i n o s.pass t.pass u.pass s.gates first.pass asked second.pass told in
    turns_run _ s u (turns_trans s t u first second it.same) it

-- A begin that is answered with the need of a row came to that need.
pub needs_runs : (k : ActKind) (i j : ℕ) (s t : CallerView) → TakesTurns s t → RecordsEvent (event.Begin k i) s.pass t.pass (Ok (reply.Need j)) → CallerRuns (λ f c a b. BeginRun f c k i (Ok (began.Needs j)) a b) s t
needs_runs k i j s t turns asked = turns_run _ s t turns (needs_help s.manager.manifests k i j s.pass t.pass s.gates turns.pass asked)

-- A begin whose reply is no work, no join and no need had nothing to begin.
pub quiet_runs : (k : ActKind) (i : ℕ) (r : Reply) (s t : CallerView) → TakesTurns s t → RecordsEvent (event.Begin k i) s.pass t.pass (Ok r) → ((w : Work) → r ≢ reply.Begun w) → ((n : ℕ) → r ≢ reply.Joined n) → ((j : ℕ) → r ≢ reply.Need j) → CallerRuns (λ f c a b. BeginRun f c k i (Ok (began.Quiet r)) a b) s t
quiet_runs k i r s t turns asked begun joined need = turns_run _ s t turns (quiet_help s.manager.manifests k i r s.pass t.pass s.gates turns.pass asked begun joined need)

-- A begin that is refused its entry ends the call with that refusal.
pub cut_runs : (k : ActKind) (i : ℕ) (x : Refusal) (s t : CallerView) → TakesTurns s t → RecordsEvent (event.Begin k i) s.pass t.pass (Err x) → CallerRuns (λ f c a b. BeginRun f c k i (Err x) a b) s t
cut_runs k i x s t turns asked = turns_run _ s t turns (cut_help s.manager.manifests k i x s.pass t.pass s.gates turns.pass asked)

-- ---- an event

-- A plain event that a call asks for and that has its entry is one turn that had room for it.
pub asked_runs : (e : Event) (r : Reply) (s t : CallerView) → IsTrue (is_asked e) → IsTrue (is_plain e) → TakesTurns s t → RecordsEvent e s.pass t.pass (Ok r) → CallerRuns (λ f c a b. AddsWithinRoom f c a e r b) s t
asked_runs e r s t is_asked is_plain turns asked =
    turns_run _ s t turns (asked_help s.manager.manifests e r s.pass t.pass s.gates is_asked is_plain turns.pass asked)

-- An event that is refused its entry ends its tries with that refusal.
pub cut_event : (e : Event) (x : Refusal) (s t : CallerView) → TakesTurns s t → RecordsEvent e s.pass t.pass (Err x) → CallerRuns (λ f c a b. RetriesEvent f c e a b (Err x)) s t
cut_event e x s t turns asked = turns_run _ s t turns (cut_trying s.manager.manifests e x s.pass t.pass s.gates turns.pass asked)

-- ---- a call

-- a part of a call of a target that goes on with its row, and the command of which that is the call
abbrev pub IsCallOf : Target → (Frame → ℕ → ℕ → CallWay (Result Answer Refusal)) → Command → Type 0
IsCallOf t To command = (f : Frame) (c : ℕ) (x y : List Entry) (a : Result Answer Refusal) → OnRow f c t (To f c) x y a → Calls f c command x y a

-- what is done at the row of a target is the call of its command
pub performs_found : (t : Target) (To : Frame → ℕ → ℕ → CallWay (Result Answer Refusal)) (command : Command) → IsCallOf t To command → (s u v : CallerView) (row : Result ℕ Refusal) (i : ℕ) (a : Result Answer Refusal) → row ≡ Ok i → CallerFinds t s u row → CallerRuns (λ f c x y. To f c i x y a) u v → CallerPerforms command s v a
performs_found (target.Inc n) To command called s u v row i a is finds answers =
    runs_as _ _ s v
    (λ f c x y way. called f c x y a (record { row = Ok n; h₁ = x; finding = (refl, refl); behind = subst (λ (j : ℕ). To f c j x y a) (sym (Ok_same finds.1 is)) way }))
    (subst (λ (z : CallerView). CallerRuns (λ f c x y. To f c i x y a) z v) finds.0 answers)
performs_found (target.Named m) To command called s u v row i a is finds answers =
    runs_then (λ f c x y. Finding f c (target.Named m) x y row) (λ f c x y. To f c i x y a) _ s u v
    (λ f c x y z first second. called f c x z a (record { row = row; h₁ = y; finding = first; behind = subst (λ (o : Result ℕ Refusal). GoesOnWithRow o (To f c) y z a) (sym is) second }))
    finds answers

-- A question about a target whose row isn't found is answered with that refusal.
pub performs_missed : (t : Target) (To : Frame → ℕ → ℕ → CallWay (Result Answer Refusal)) (command : Command) → IsCallOf t To command → (s u : CallerView) (row : Result ℕ Refusal) (x : Refusal) → row ≡ Err x → CallerFinds t s u row → CallerPerforms command s u (Err x)
performs_missed (target.Inc n) To command called s u row x is finds = absurd (Ok_not_Err finds.1 is)
performs_missed (target.Named m) To command called s u row x is finds =
    runs_as _ _ s u
    (λ f c a b way. called f c a b (Err x) (record { row = row; h₁ = b; finding = way; behind = subst (λ (o : Result ℕ Refusal). GoesOnWithRow o (To f c) b b (Err x)) (sym is) (refl, refl) }))
    finds
