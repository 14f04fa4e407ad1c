-- What a caller's starts come to, and those of eager children.
use Rattle.std.proofs.Common.{◌≡◌, ◌≢◌, ℕ, List, [], ◌∷◌, ◌++◌, Option, Some, None, Result, Err, sym, ap, subst, ◌∙◌, append-nil}
use Rattle.cm_world.specs.declared.action.ActKind.TheVariants as kind
use Rattle.cm_world.specs.declared.answer.Refusal.{Refusal}
use Rattle.cm_world.specs.declared.answer.Refusal.TheVariants as refusal
use Rattle.cm_world.specs.declared.reply.Entry.{Entry}
use Rattle.cm_answers.specs.Answers.{ends_call, ends_eager}
use Rattle.cm_answers.specs.AnswersInside.{FailsBy}
use Rattle.cm_answers.specs.declared.acted.ActionResult.{ActionResult}
use Rattle.cm_manager.specs.Acting.{StartsBy, behind_eager}
use Rattle.cm_manager.specs.Asking.{frame_of}
use Rattle.cm_manager.specs.Caller.{CallerView, CallerWay, CallerRuns}
use Rattle.cm_manager.specs.Contract.{IsSamePass}
use Rattle.cm_manager.specs.Runs.{RunsAction, StartsEager}
use Rattle.cm_manager.specs.declared.began.Launch.{Launch}
use Rattle.cm_manager.specs.declared.began.Launch.TheVariants as launch
use Rattle.cm_manager.proofs.lemmas.callers.CallerRuns.{CallerLoop, loop_on, runs_as, runs_then, stays}
use Rattle.cm_manager.proofs.lemmas.starts.Launches.{resolved_start, wanting_start, wanting_row, children_row}
use Rattle.cm_manager.proofs.lemmas.starts.Starts.{Needing}

-- ---- a row that is resolved first

-- a start at row i, by what it came to
abbrev StartWay : ℕ → Launch → CallerWay
StartWay i end f c a b = StartsBy f c i end a b

-- an action at row j that resolves it
abbrev ResolveWay : ℕ → Result ActionResult Refusal → CallerWay
ResolveWay j went f c a b = RunsAction f c kind.Resolve j a b went

-- Where the resolve that a start needs fails or is cut, the start is settled so.
pub failed_first : (i j : ℕ) (went failed : Result ActionResult Refusal) (s t u : CallerView) → CallerRuns (Needing i j) s t → CallerRuns (λ f c a b. RunsAction f c kind.Resolve j a b went) t u → FailsBy went (Some failed) → CallerRuns (λ f c a b. StartsBy f c i (launch.Settled failed) a b) s u
failed_first i j went failed s t u needs acts fails =
    runs_then (Needing i j) (ResolveWay j went) (StartWay i (launch.Settled failed)) s t u
    (λ f c x y z asks acts. subst (λ (w : Result ActionResult Refusal). RunsAction f c kind.Start i x z w) (sym fails.1) (RunsAction.not_resolved asks acts fails.2))
    needs acts

-- the resolve goes well, and the start is tried again
pub resolved_first : (i j : ℕ) (went : Result ActionResult Refusal) (first s t u : CallerView) → CallerLoop (λ end f c a b. StartsBy f c i end a b) (λ end f c a b. StartsBy f c i end a b) first s → CallerRuns (Needing i j) s t → CallerRuns (λ f c a b. RunsAction f c kind.Resolve j a b went) t u → ends_call went ≡ None → CallerLoop (λ end f c a b. StartsBy f c i end a b) (λ end f c a b. StartsBy f c i end a b) first u
resolved_first i j went first s t u o needs acts fine =
    loop_on (λ f c a z. (b : List Entry) × Needing i j f c a b × RunsAction f c kind.Resolve j b z went) (StartWay i) (StartWay i) (StartWay i) first s u
    (λ f c end a b z s more. resolved_start f c i j went end a s.0 b z s.1 s.2 fine more)
    o
    (runs_then (Needing i j) (ResolveWay j went) (λ f c a z. (b : List Entry) × Needing i j f c a b × RunsAction f c kind.Resolve j b z went) s t u
    (λ f c x y z asks acts. (y, asks, acts)) needs acts)

-- ---- rows that are left

-- The starts of these rows, each with its eager children, that end so, as a caller's way.
abbrev RowsWay : List ℕ → Option Refusal → CallerWay
RowsWay rows end f c a b = StartsEager f c rows a b end

-- Where no eager child is left to start, their starts end well, and nothing is done.
pub all_started : (rows : List ℕ) (s : CallerView) → rows ≡ [] → IsSamePass (frame_of s.pass) s.pass s.pass → CallerRuns (λ f c a b. StartsEager f c rows a b None) s s
all_started rows s none known =
    stays (RowsWay rows None) s known (subst (λ (l : List ℕ). StartsEager (frame_of s.pass) s.pass.caller l s.pass.seen s.pass.seen None) (sym none) StartsEager.all_done)

-- a row's start ends the call
pub cut_among : (e : ℕ) (rows rest : List ℕ) (start : Launch) (went : Result ActionResult Refusal) (x : Refusal) (s t : CallerView) → rows ≡ e ∷ rest → start ≡ launch.Settled went → ends_eager went ≡ Some x → CallerRuns (λ f c a b. StartsBy f c e start a b) s t → CallerRuns (λ f c a b. StartsEager f c rows a b (Some x)) s t
cut_among e rows rest start went x s t whole is ends help =
    runs_as (StartWay e start) (RowsWay rows (Some x)) s t
    (λ f c a b s.
    subst (λ (l : List ℕ). StartsEager f c l a b (Some x)) (sym whole)
    (StartsEager.cut_at (subst (λ (s : Launch). StartsBy f c e s a b) is s) ends))
    help

-- memory is wanting for the list of rows that are left
pub wanting_among : (e n : ℕ) (rows rest eager : List ℕ) (start : Launch) (s t : CallerView) → rows ≡ e ∷ rest → start ≡ launch.Children n eager → eager ≢ [] → CallerRuns (λ f c a b. StartsBy f c e start a b) s t → CallerRuns (λ f c a b. StartsEager f c rows a b (Some refusal.Memory)) s t
wanting_among e n rows rest eager start s t whole is some help =
    runs_as (StartWay e start) (RowsWay rows (Some refusal.Memory)) s t
    (λ f c a b s.
    subst (λ (l : List ℕ). StartsEager f c l a b (Some refusal.Memory)) (sym whole)
    (wanting_row f c e n eager rest a b some (subst (λ (s : Launch). StartsBy f c e s a b) is s)))
    help

-- a row's start is over, and the rest goes on
pub settled_on : (e : ℕ) (all rows rest : List ℕ) (start : Launch) (went : Result ActionResult Refusal) (first s t : CallerView) → CallerLoop (λ end f c a b. StartsEager f c rows a b end) (λ end f c a b. StartsEager f c all a b end) first s → rows ≡ e ∷ rest → start ≡ launch.Settled went → ends_eager went ≡ None → CallerRuns (λ f c a b. StartsBy f c e start a b) s t → CallerLoop (λ end f c a b. StartsEager f c rest a b end) (λ end f c a b. StartsEager f c all a b end) first t
settled_on e all rows rest start went first s t o whole is fine help =
    loop_on (StartWay e start) (RowsWay rows) (RowsWay rest) (RowsWay all) first s t
    (λ f c end a b z s more.
    subst (λ (l : List ℕ). StartsEager f c l a z end) (sym whole)
    (StartsEager.next_one (subst (λ (s : Launch). StartsBy f c e s a b) is s) fine more))
    o help

-- a row's eager children come before the rest
pub children_on : (e n : ℕ) (all rows rest eager next : List ℕ) (start : Launch) (first s t : CallerView) → CallerLoop (λ end f c a b. StartsEager f c rows a b end) (λ end f c a b. StartsEager f c all a b end) first s → rows ≡ e ∷ rest → start ≡ launch.Children n eager → next ≡ eager ++ rest → CallerRuns (λ f c a b. StartsBy f c e start a b) s t → CallerLoop (λ end f c a b. StartsEager f c next a b end) (λ end f c a b. StartsEager f c all a b end) first t
children_on e n all rows rest eager next start first s t o whole is joined help =
    loop_on (StartWay e start) (RowsWay rows) (RowsWay next) (RowsWay all) first s t
    (λ f c end a b z s more.
    subst (λ (l : List ℕ). StartsEager f c l a z end) (sym whole)
    (children_row f c e n eager rest a b z end (subst (λ (s : Launch). StartsBy f c e s a b) is s)
    (subst (λ (l : List ℕ). StartsEager f c l b z end) joined more)))
    o help

-- ---- a start with its eager children

-- A start that is settled, with its result, is the whole run of a start.
pub settled_start : (i : ℕ) (start : Launch) (went : Result ActionResult Refusal) (s t : CallerView) → start ≡ launch.Settled went → CallerRuns (λ f c a b. StartsBy f c i start a b) s t → CallerRuns (λ f c a b. RunsAction f c kind.Start i a b went) s t
settled_start i start went s t is help =
    runs_as (StartWay i start) (λ f c a b. RunsAction f c kind.Start i a b went) s t (λ f c a b s. subst (λ (s : Launch). StartsBy f c i s a b) is s) help

-- memory is wanting for the list of the eager children
pub wanting_children : (i n : ℕ) (eager : List ℕ) (start : Launch) (s t : CallerView) → start ≡ launch.Children n eager → eager ≢ [] → CallerRuns (λ f c a b. StartsBy f c i start a b) s t → CallerRuns (λ f c a b. RunsAction f c kind.Start i a b (Err refusal.Memory)) s t
wanting_children i n eager start s t is some help =
    runs_as (StartWay i start) (λ f c a b. RunsAction f c kind.Start i a b (Err refusal.Memory)) s t
    (λ f c a b s. wanting_start f c i n eager a b some (subst (λ (s : Launch). StartsBy f c i s a b) is s)) help

-- A start that has eager children is whole once these are started, and ends as they do.
pub whole_started : (i n : ℕ) (eager rows none : List ℕ) (start : Launch) (end : Option Refusal) (s t u : CallerView) → start ≡ launch.Children n eager → rows ≡ eager ++ none → none ≡ [] → CallerRuns (λ f c a b. StartsBy f c i start a b) s t → CallerRuns (λ f c a b. StartsEager f c rows a b end) t u → CallerRuns (λ f c a b. RunsAction f c kind.Start i a b (behind_eager n end)) s u
whole_started i n eager rows none start end s t u is joined empty first all =
    let same = joined ∙ ap (λ (l : List ℕ). eager ++ l) empty ∙ append-nil eager in
    runs_then (StartWay i start) (RowsWay rows end) (λ f c a b. RunsAction f c kind.Start i a b (behind_eager n end)) s t u
    (λ f c x y z s t. (subst (λ (s : Launch). StartsBy f c i s x y) is s) z end (subst (λ (l : List ℕ). StartsEager f c l y z end) same t))
    first all
