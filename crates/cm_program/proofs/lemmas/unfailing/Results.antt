-- What callers are answered where no outcome that they were told had failed.
use Rattle.std.proofs.Common.{◌≡◌, ℕ, List, [], ◌∷◌, ◌++◌, Bool, true, false, Option, Some, None, Result, Ok, Err, All, IsTrue, IsFalse, refl, sym, subst}
use Rattle.std.specs.Prelude.{IfSome}
use Rattle.std.proofs.lemmas.List.Elements.{All-cons, All-append, All-nil, All-head, All-tail}
use Rattle.cm_turn.specs.History.{StartsWith}
use Rattle.cm_world.specs.declared.action.ActKind.{ActKind}
use Rattle.cm_world.specs.declared.action.ActKind.TheVariants as kind
use Rattle.cm_world.specs.declared.action.Outcome.{Outcome}
use Rattle.cm_world.specs.declared.action.Outcome.TheVariants as outcome
use Rattle.cm_world.specs.declared.answer.Answer.{Answer}
use Rattle.cm_world.specs.declared.answer.Answer.TheVariants as answer
use Rattle.cm_world.specs.declared.answer.Checked.{Checked}
use Rattle.cm_world.specs.declared.answer.Refusal.{Refusal}
use Rattle.cm_world.specs.declared.answer.Refusal.TheVariants as refusal
use Rattle.cm_world.specs.declared.event.Event.{Event}
use Rattle.cm_world.specs.declared.event.Event.TheVariants as event
use Rattle.cm_world.specs.declared.event.Target.{Target}
use Rattle.cm_world.specs.declared.event.Target.TheVariants as target
use Rattle.cm_world.specs.declared.frame.Frame.{Frame}
use Rattle.cm_world.specs.declared.reply.Entry.{Entry}
use Rattle.cm_world.specs.declared.reply.Reply.{Reply}
use Rattle.cm_world.specs.declared.reply.Reply.TheVariants as reply
use Rattle.cm_world.specs.declared.report.SurveyRow.{SurveyRow}
use Rattle.cm_world.specs.declared.route.Route.{Route}
use Rattle.cm_command.specs.declared.command.Command.{Command}
use Rattle.cm_command.specs.declared.command.Command.TheVariants as command
use Rattle.cm_answers.specs.declared.acted.ActionResult.{ActionResult}
use Rattle.cm_answers.specs.declared.acted.ActionResult.TheVariants as acted
use Rattle.cm_answers.specs.Answers.{failure, ends_call, ends_eager, refusal_of, decision, decided_by, answer_unless, unless_ended, found_by, acted_answer, is_killed, unmarked}
use Rattle.cm_answers.specs.Lines.{route_by, line_of, unresolved_line, in_prefix, surveyed_by, doctored_by}
use Rattle.cm_manager.specs.Turns.{AddsOneEntry, EndsWithoutEntry}
use Rattle.cm_manager.specs.Runs.{RunsAction, ended, started, started_cut, stopped, stopped_cut, joined, quiet, resolved_first, not_resolved, cut, StartsEager, all_done, next_one, cut_at, RetriesEvent, decided, needs, failed, cut_try, StartsSingleRun, is_quiet}
use Rattle.cm_manager.specs.Sweeps.{Stops, Removes, Clears, Sweeps}
use Rattle.cm_manager.specs.Shutdowns.{Shuts, Destroys}
use Rattle.cm_manager.specs.Doctor.{Checks, GathersEach, OfPath, OfRow, Doctors}
use Rattle.cm_manager.specs.Streams.{Streams, streamed_by}
use Rattle.cm_manager.specs.Calls.{CallWay, Finding, GoesOnWithRow, OnRow, CallsEvent, Nothing, Then, CallsEventThen, OnceCreated, SweptLeft, CallsAction, Calls}
use Rattle.cm_manager.proofs.lemmas.left.Closing.{sweeps_close}
use Rattle.cm_manager.proofs.lemmas.shutdowns.ShuttingDown.{shuts_close, destroys_close}
use Rattle.cm_program.specs.Unfailing.{is_failed, IsUnfailingRefusal, IsUnfailingFound, IsUnfailingAnswer, IsUnfailing}
use Rattle.cm_program.proofs.lemmas.unfailing.Ends.{OfEnds}
use Rattle.cm_lanes.proofs.lemmas.lines.Parting.{Growing, Following, tries_grow, behind_grows, tried_grows, created_grows, left_grows, then_grows, tried_then_grows, acted_grows, each_grows, row_grows, doctors_grow, streams_grow}

-- No end or await of these entries is told a failed outcome.
abbrev AllEnds : List Entry → Type 0
AllEnds es = All OfEnds es

-- The first entries of a history that tells no failed outcome tell none.
prefix_of : (a more : List Entry) → AllEnds (a ++ more) → AllEnds a
prefix_of [] more h = All-nil OfEnds
prefix_of (e ∷ es) more h = All-cons OfEnds e es (All-head OfEnds e (es ++ more) h) (prefix_of es more (All-tail OfEnds e (es ++ more) h))

-- Where a history's ends and awaits tell no failed outcome, those of its beginning don't.
pub within : (a b : List Entry) → StartsWith b a → AllEnds b → AllEnds a
within a b s h = prefix_of a s.0 (subst AllEnds s.1 h)

-- The last entry of a history that tells no failed outcome tells none.
last_of : (found : List Entry) (x : Entry) → AllEnds (found ++ x ∷ []) → OfEnds x
last_of [] x h = All-head OfEnds x [] h
last_of (e ∷ es) x h = last_of es x (All-tail OfEnds e (es ++ x ∷ []) h)

-- ---- what ends a call

-- The refusal, if there is one, doesn't blame a failed gate.
abbrev OfSome : Option Refusal → Type 0
OfSome o = IfSome o IsUnfailingRefusal

-- A refusal that is there doesn't blame a failed gate, where what there is of it doesn't.
some : (o : Option Refusal) (x : Refusal) → o ≡ Some x → OfSome o → IsUnfailingRefusal x
some o x e h = subst OfSome e h

-- The failure that an end is, if it is one, blames no gate where the outcome hasn't failed.
failure_is : (k : ActKind) (a : ℕ) (o : Outcome) → IsFalse (is_failed o) → OfSome (failure k a o)
failure_is k a outcome.Resolved h = tt
failure_is k a outcome.Started h = tt
failure_is k a outcome.Stopped h = tt
failure_is k a outcome.Killed h = tt
failure_is k a outcome.NoMemory h = tt
failure_is kind.Resolve a outcome.Absent h = refl
failure_is kind.Resolve a outcome.BadUrl h = refl
failure_is kind.Resolve a (outcome.Invalid n) h = refl
failure_is kind.Resolve a outcome.Declined h = refl
failure_is kind.Resolve a outcome.GateFailed h = absurd (cc h)
failure_is kind.Resolve a outcome.Full h = refl
failure_is kind.Start a outcome.Absent h = refl
failure_is kind.Start a outcome.BadUrl h = refl
failure_is kind.Start a (outcome.Invalid n) h = refl
failure_is kind.Start a outcome.Declined h = refl
failure_is kind.Start a outcome.GateFailed h = absurd (cc h)
failure_is kind.Start a outcome.Full h = refl
failure_is kind.Stop a outcome.Absent h = refl
failure_is kind.Stop a outcome.BadUrl h = refl
failure_is kind.Stop a (outcome.Invalid n) h = refl
failure_is kind.Stop a outcome.Declined h = refl
failure_is kind.Stop a outcome.GateFailed h = absurd (cc h)
failure_is kind.Stop a outcome.Full h = refl

-- What an action came to blames no failed gate.
abbrev OfActed : Result ActionResult Refusal → Type 0
OfActed (Ok (acted.Ended k a o)) = IsFalse (is_failed o)
OfActed (Ok (acted.Quiet r)) = IsTrue (is_quiet r)
OfActed (Err x) = IsUnfailingRefusal x

-- The refusal by which an action ends a call, if it does, doesn't blame a failed gate.
ends_is : (went : Result ActionResult Refusal) → OfActed went → OfSome (ends_call went)
ends_is (Ok (acted.Ended k a o)) h = failure_is k a o h
ends_is (Ok (acted.Quiet r)) h = tt
ends_is (Err x) h = h

-- The refusal by which an eager child's start ends a call, if it does, blames no failed gate.
eager_is : (went : Result ActionResult Refusal) → OfActed went → OfSome (ends_eager went)
eager_is (Ok (acted.Ended k a outcome.NoMemory)) h = tt
eager_is (Ok (acted.Ended k a outcome.Resolved)) h = tt
eager_is (Ok (acted.Ended k a outcome.Started)) h = tt
eager_is (Ok (acted.Ended k a outcome.Stopped)) h = tt
eager_is (Ok (acted.Ended k a outcome.Killed)) h = tt
eager_is (Ok (acted.Ended k a outcome.Absent)) h = tt
eager_is (Ok (acted.Ended k a outcome.BadUrl)) h = tt
eager_is (Ok (acted.Ended k a (outcome.Invalid n))) h = tt
eager_is (Ok (acted.Ended k a outcome.Declined)) h = tt
eager_is (Ok (acted.Ended k a outcome.GateFailed)) h = tt
eager_is (Ok (acted.Ended k a outcome.Full)) h = tt
eager_is (Ok (acted.Quiet r)) h = tt
eager_is (Err x) h = h

module _ (f : Frame) (c : ℕ) where
  -- The outcome that an action's end was told hasn't failed, where the history tells none.
  end_is : (a b : List Entry) (n : ℕ) (v : Rattle.cm_world.specs.declared.action.Finish.Finish) (o : Outcome) → AddsOneEntry c a (event.End n v) (reply.Ended o) b → AllEnds b → IsFalse (is_failed o)
  end_is a b n v o m h = last_of m.found (record { caller = c; event = event.End n v; reply = reply.Ended o }) (subst AllEnds m.entries h)

  -- The outcome that an await was told hasn't failed, where the history tells none.
  await_is : (a b : List Entry) (n : ℕ) (o : Outcome) → AddsOneEntry c a (event.Await n) (reply.Ended o) b → AllEnds b → IsFalse (is_failed o)
  await_is a b n o m h = last_of m.found (record { caller = c; event = event.Await n; reply = reply.Ended o }) (subst AllEnds m.entries h)

  -- The refusal by which a turn without an entry ends a call doesn't blame a failed gate.
  cut_is : (a b : List Entry) (e : Event) (x : Refusal) → EndsWithoutEntry f c a e b x → IsUnfailingRefusal x
  cut_is a b e refusal.Memory is = tt
  cut_is a b e refusal.HistoryFull is = tt
  cut_is a b e _ is = absurd is

  -- The refusal by which the stops of a target end, if they do, doesn't blame a failed gate.
  stops : (t : ℕ) {a b : List Entry} {end : Option Refusal} → Stops f c t a b end → OfSome end
  stops t (Stops.all_shut asks) = tt
  stops t (Stops.was_off asks rest) = stops t rest
  stops t (Stops.was_on asks end rest) = stops t rest
  stops t (Stops.cut_pick {x = x} is) = cut_is _ _ (event.Pick t) x is

  -- The refusal by which a removal ends, if it does, doesn't blame a failed gate.
  removes : (i : ℕ) {a b : List Entry} {end : Option Refusal} → Removes f c i a b end → OfSome end
  removes i (Removes.removed s asks) = tt
  removes i (Removes.cut_remove {x = x} s is) = cut_is _ _ (event.Purge i) x is
  removes i (Removes.not_stopped s) = stops i s

  -- The refusal by which removals in order end, if they do, doesn't blame a failed gate.
  clears : {is : List ℕ} {a b : List Entry} {end : Option Refusal} → Clears f c is a b end → OfSome end
  clears Clears.none_left = tt
  clears (Clears.next_row one rest) = clears rest
  clears (Clears.cut_row one) = removes _ one

  -- The refusal by which a sweep ends, if it does, doesn't blame a failed gate.
  sweeps : (i : ℕ) {a b : List Entry} {end : Option Refusal} → Sweeps f c i a b end → OfSome end
  sweeps i (Sweeps.swept asks rest) = clears rest
  sweeps i (Sweeps.cut_reap {x = x} is) = cut_is _ _ (event.Reap i) x is

  mutual
    -- What an action came to doesn't blame a failed gate, where the history tells no failed outcome.
    acts : {k : ActKind} {i : ℕ} {a b : List Entry} {went : Result ActionResult Refusal} → RunsAction f c k i a b went → AllEnds b → OfActed went
    acts (ended asks end other) h = end_is _ _ _ _ _ end h
    acts (started asks end rest) h = refl
    acts (started_cut asks end rest) h = eagers rest h
    acts (stopped {i = i} {h₂ = m} {h₃ = b} asks end is rest) h = end_is _ m _ _ _ end (within m b (sweeps_close f c i rest).grows h)
    acts (stopped_cut asks end is rest) h = sweeps _ rest
    acts (joined asks end) h = await_is _ _ _ _ end h
    acts (quiet asks is) h = is
    acts (resolved_first asks one fine rest) h = acts rest h
    acts (not_resolved asks one fails) h = acts one h
    acts (cut {k = k} {i = i} {x = x} is) h = cut_is _ _ (event.Begin k i) x is

    -- The refusal by which the starts of eager children end, if they do, blames no failed gate.
    eagers : {es : List ℕ} {a b : List Entry} {end : Option Refusal} → StartsEager f c es a b end → AllEnds b → OfSome end
    eagers all_done h = tt
    eagers (next_one act fine rest) h = eagers rest h
    eagers (cut_at {went = went} act is) h = some (ends_eager went) _ is (eager_is went (acts act h))

  -- what decided an event
  abbrev OfTried : Result Reply Refusal → Type 0
  OfTried (Ok r) = Unit {0}
  OfTried (Err x) = IsUnfailingRefusal x

  -- The reply or the refusal that decided an event doesn't blame a failed gate.
  tries : (e : Event) {a b : List Entry} {end : Result Reply Refusal} → RetriesEvent f c e a b end → AllEnds b → OfTried end
  tries e (decided asks is) h = tt
  tries e (needs asks is act fine again) h = tries e again h
  tries e (failed {went = went} asks is act fails) h = some (ends_call went) _ fails (ends_is went (acts act h))
  tries e (cut_try {x = x} is) h = cut_is _ _ e x is

  -- The refusal by which a mark isn't made, if it isn't, doesn't blame a failed gate.
  marked_is : (r : Reply) → OfSome (unmarked r)
  marked_is reply.Marked = tt
  marked_is reply.Already = tt
  marked_is _ = tt

  -- The refusal by which a shutdown ends, if it does, doesn't blame a failed gate.
  shuts : (doom : Bool) (i : ℕ) {a b : List Entry} {end : Option Refusal} → Shuts f c doom i a b end → OfSome end
  shuts doom i (Shuts.marked asks is rest) = stops i rest
  shuts doom i (Shuts.refused {r = r} asks is) = some (unmarked r) _ is (marked_is r)
  shuts doom i (Shuts.cut_mark {x = x} is) = cut_is _ _ (event.Mark doom i) x is

  -- The refusal by which a destruction ends, if it does, doesn't blame a failed gate.
  destroys : (i : ℕ) {a b : List Entry} {end : Option Refusal} → Destroys f c i a b end → OfSome end
  destroys i (Destroys.purged s asks) = tt
  destroys i (Destroys.cut_purge {x = x} s is) = cut_is _ _ (event.Purge i) x is
  destroys i (Destroys.unshut s) = shuts true i s

  -- The refusal by which the start of a child that runs once ends, if it does, blames no gate.
  onces : (i : ℕ) {a b : List Entry} {end : Option Refusal} → StartsSingleRun f c i a b end → AllEnds b → OfSome end
  onces i (StartsSingleRun.not_once l is) h = tt
  onces i (StartsSingleRun.once {went = went} l is act) h = eager_is went (acts act h)

-- ---- answers

-- The refusal that a reply is told as doesn't blame a failed gate.
refusal_is : (r : Reply) → IsUnfailingRefusal (refusal_of r)
refusal_is (reply.Gone i) = tt
refusal_is _ = tt

-- What a reply decides as an answer doesn't blame a failed gate.
decision_is : (r : Reply) → IsUnfailing (decision r)
decision_is (reply.Listed kids) = tt
decision_is _ = tt

-- What an action came to is an unfailing answer, where what it was answered blames no gate.
acted_is : (made : Option ℕ → Outcome → Answer) → ((a : Option ℕ) (o : Outcome) → IsFalse (is_failed o) → IsUnfailingAnswer (made a o)) → (went : Result ActionResult Refusal) → OfActed went → IsUnfailing (acted_answer made went)
acted_is made each (Ok (acted.Ended k a o)) h = by (failure k a o) (failure_is k a o h)
  where
    by : (x : Option Refusal) → OfSome x → IsUnfailing (elim x as (λ _. Result Answer Refusal) [ None ↦ Ok (made (Some a) o) | Some x ↦ Err x ])
    by None none = each (Some a) o h
    by (Some x) it = it
acted_is made each (Ok (acted.Quiet reply.Already)) h = each None outcome.Resolved refl
acted_is made each (Ok (acted.Quiet (reply.Gone i))) h = tt
acted_is made each (Ok (acted.Quiet (reply.Shut i))) h = tt
acted_is made each (Ok (acted.Quiet r)) h = absurd (cc h)
acted_is made each (Err x) h = h

-- An outcome that hasn't failed is no stop by force.
unforced : (o : Outcome) → IsFalse (is_failed o) → IsFalse (is_killed o)
unforced outcome.Killed h = absurd (cc h)
unforced _ h = refl

-- An answer that names no failed gate names none, unless a refusal ended the call, which names none.
unless_is : (a : Answer) (end : Option Refusal) → IsUnfailingAnswer a → OfSome end → IsUnfailing (answer_unless a end)
unless_is a None h k = h
unless_is a (Some x) h k = k

-- A result that names no failed gate names none, unless a refusal ended the call, which names none.
ended_is : (end : Option Refusal) (r : Result Answer Refusal) → OfSome end → IsUnfailing r → IsUnfailing (unless_ended end r)
ended_is None r h k = k
ended_is (Some x) r h k = h

-- ---- the lines of a check

-- The result of the line of a check doesn't blame a failed gate.
abbrev OfLine : Checked → Type 0
OfLine c = IsUnfailingFound c.result

-- The lines that a check gathered, or its refusal, don't blame a failed gate.
abbrev OfChecks : Result (List Checked) Refusal → Type 0
OfChecks (Ok lines) = All OfLine lines
OfChecks (Err x) = IsUnfailingRefusal x

-- Lines put before the end of a check don't blame a failed gate, where neither does.
in_prefix_is : (lines : List Checked) (end : Result (List Checked) Refusal) → All OfLine lines → OfChecks end → OfChecks (in_prefix lines end)
in_prefix_is lines (Ok others) h k = All-append OfLine lines others h k
in_prefix_is lines (Err x) h k = k

-- The answer to a check whose end blames no failed gate names none.
doctored_is : (end : Result (List Checked) Refusal) → OfChecks end → IsUnfailing (doctored_by end)
doctored_is (Ok lines) h = h
doctored_is (Err x) h = h

-- The one line of a check, with a result that blames no failed gate, blames none.
one_line : (m : _) (p : List ℕ) (found : Result Route Refusal) → IsUnfailingFound found → All OfLine (record { moniker = m; path = Some p; result = found } ∷ [])
one_line m p found h = All-cons OfLine (record { moniker = m; path = Some p; result = found }) [] h (All-nil OfLine)

-- The line of a check, or what refuses it, doesn't blame a failed gate.
line_is : (m : _) (p : List ℕ) (found : Result Route Refusal) → IsUnfailingFound found → OfChecks (line_of m p found)
line_is m p (Err refusal.Memory) h = tt
line_is m p (Err refusal.HistoryFull) h = tt
line_is m p (Ok route) h = one_line m p (Ok route) h
line_is m p (Err x) h = one_line m p (Err x) h

-- Items that are checked in order don't blame a failed gate, where none of them does.
each_is : {A : Type 0} (Item : A → Checks)
    → ((x : A) (a b : List Entry) (end : Result (List Checked) Refusal) → Item x a b end → StartsWith b a)
    → ((x : A) (a b : List Entry) (end : Result (List Checked) Refusal) → Item x a b end → AllEnds b → OfChecks end)
    → {xs : List A} {a b : List Entry} {end : Result (List Checked) Refusal} → GathersEach Item xs a b end → AllEnds b → OfChecks end
each_is Item grows is GathersEach.no_item h = All-nil OfLine
each_is Item grows is (GathersEach.next_item {x = x} {xs = xs} {h₁ = m} {h₂ = b} {lines = lines} {end = end} item rest) h =
    in_prefix_is lines end (is x _ m (Ok lines) item (within m b (each_grows Item grows rest) h)) (each_is Item grows is rest h)
each_is Item grows is (GathersEach.cut_item {x = x} {xs = xs} item) h = is x _ _ _ item h
each_is Item grows is (GathersEach.lost_item item) h = tt

-- ---- calls

module _ (f : Frame) (c : ℕ) where
  -- The reply or the refusal that decided a try doesn't blame a failed gate.
  abbrev OfTry : Result Reply Refusal → Type 0
  OfTry went = OfTried f c went

  -- The answer that a try decides doesn't blame a failed gate.
  decided_is : (went : Result Reply Refusal) → OfTry went → IsUnfailing (decided_by went)
  decided_is (Ok r) h = decision_is r
  decided_is (Err x) h = h

  -- What a find came to is a row, or a refusal that blames no failed gate.
  abbrev OfFound : Result ℕ Refusal → Type 0
  OfFound (Ok i) = Unit {0}
  OfFound (Err x) = IsUnfailingRefusal x

  -- What a try of a find comes to doesn't blame a failed gate.
  found_is : (went : Result Reply Refusal) → OfTry went → OfFound (found_by went)
  found_is (Ok (reply.Found i)) h = tt
  found_is (Ok r) h = tt
  found_is (Err x) h = h

  -- The route that a try comes to doesn't blame a failed gate.
  route_is : (went : Result Reply Refusal) → OfTry went → IsUnfailingFound (route_by went)
  route_is (Ok (reply.Given route)) h = tt
  route_is (Ok r) h = tt
  route_is (Err x) h = h

  -- What a survey came to is rows, or a refusal that blames no failed gate.
  abbrev OfSurvey : Result (List SurveyRow) Refusal → Type 0
  OfSurvey (Ok rows) = Unit {0}
  OfSurvey (Err x) = IsUnfailingRefusal x

  -- What a try of a survey comes to doesn't blame a failed gate.
  survey_is : (went : Result Reply Refusal) → OfTry went → OfSurvey (surveyed_by went)
  survey_is (Ok (reply.Surveyed rows)) h = tt
  survey_is (Ok r) h = tt
  survey_is (Err x) h = h

  -- The result of a call on each row names no failed gate, where the history tells no failed outcome.
  abbrev Saying : (ℕ → CallWay (Result Answer Refusal)) → Type 0
  Saying call = (i : ℕ) (a b : List Entry) (r : Result Answer Refusal) → call i a b r → AllEnds b → IsUnfailing r

  -- What the find of a target comes to doesn't blame a failed gate.
  finding : (t : Target) (a b : List Entry) (row : Result ℕ Refusal) → Finding f c t a b row → AllEnds b → OfFound row
  finding (target.Inc n) a b row is h = subst OfFound (sym is.1) tt
  finding (target.Named m) a b row is h = subst OfFound (sym is.2) (found_is is.0 (tries f c _ is.1 h))

  -- The result of a call that goes on with a row, or not, names no failed gate.
  behind : (row : Result ℕ Refusal) (call : ℕ → CallWay (Result Answer Refusal)) (a b : List Entry) (r : Result Answer Refusal) → Saying call → GoesOnWithRow row call a b r → OfFound row → AllEnds b → IsUnfailing r
  behind (Ok i) call a b r says is k h = says i a b r is h
  behind (Err x) call a b r says is k h = subst IsUnfailing (sym is.1) k

  -- The result of a call on a target names no failed gate, where that on each row names none.
  on_row : (t : Target) (call : ℕ → CallWay (Result Answer Refusal)) (a b : List Entry) (r : Result Answer Refusal) → Growing call → Saying call → OnRow f c t call a b r → AllEnds b → IsUnfailing r
  on_row t call a b r grows says is h =
      behind is.row call is.h₁ b r says is.behind
      (finding t a is.h₁ is.row is.finding (within is.h₁ b (behind_grows is.row call is.h₁ b r grows is.behind) h)) h

  -- The result of a call of one event names no failed gate.
  tried : (e : ℕ → Event) → Saying (CallsEvent f c e)
  tried e i a b r is h = subst IsUnfailing (sym is.2) (decided_is is.0 (tries f c (e i) is.1 h))

  -- The refusal by which what follows a reply ends the call, if it does, blames no failed gate.
  abbrev Ending : (ℕ → Reply → CallWay (Option Refusal)) → Type 0
  Ending follow = (i : ℕ) (r : Reply) (a b : List Entry) (end : Option Refusal) → follow i r a b end → AllEnds b → OfSome end

  -- Where nothing follows, no refusal ends the call.
  nothing : (a b : List Entry) (end : Option Refusal) → Nothing a b end → OfSome end
  nothing a b end is = subst OfSome (sym is.1) tt

  -- The refusal by which what follows a creation ends the call, if it does, blames no failed gate.
  created : Ending (OnceCreated f c)
  created i (reply.Created j) a b end is h = onces f c j is h
  created i _ a b end is h = nothing a b end is

  -- The refusal by which what follows an exit ends the call, if it does, blames no failed gate.
  left : Ending (SweptLeft f c)
  left i (reply.Left m) a b end is h = sweeps f c i is
  left i _ a b end is h = nothing a b end is

  -- The refusal by which what may follow a try ends the call, if it does, blames no failed gate.
  after : (follow : ℕ → Reply → CallWay (Option Refusal)) (i : ℕ) (went : Result Reply Refusal) (a b : List Entry) (end : Option Refusal) → Ending follow → Then (follow i) went a b end → AllEnds b → OfSome end
  after follow i (Ok r) a b end ends is h = ends i r a b end is h
  after follow i (Err x) a b end ends is h = nothing a b end is

  -- The result of a call of one event and what follows its reply names no failed gate.
  tried_then : (e : ℕ → Event) (follow : ℕ → Reply → CallWay (Option Refusal)) → Following follow → Ending follow → Saying (CallsEventThen f c e follow)
  tried_then e follow grows ends i a b r is h =
      subst IsUnfailing (sym is.answer)
      (ended_is is.end (decided_by is.went) (after follow i is.went is.h₁ b is.end ends is.follows h)
      (decided_is is.went (tries f c (e i) is.tries (within is.h₁ b (then_grows follow i is.went is.h₁ b is.end grows is.follows) h))))

  -- The result of a call of an action names no failed gate, where its value names none.
  acting : (k : ActKind) (value : Result ActionResult Refusal → Result Answer Refusal) → ((went : Result ActionResult Refusal) → OfActed went → IsUnfailing (value went)) → Saying (CallsAction f c k value)
  acting k value says i a b r is h = subst IsUnfailing (sym is.2) (says is.0 (acts f c is.1 h))

  -- What the check of a row's routes comes to doesn't blame a failed gate.
  of_row : (row : SurveyRow) (a b : List Entry) (end : Result (List Checked) Refusal) → OfRow f c row a b end → AllEnds b → OfChecks end
  of_row row a b end (OfRow.unresolved is) h = All-cons OfLine (unresolved_line row.moniker) [] tt (All-nil OfLine)
  of_row row a b end (OfRow.resolved is paths) h =
      each_is (OfPath f c row) (λ p a b end way. tries_grow f c _ way.1)
      (λ p a b end way h. subst OfChecks (sym way.2) (line_is row.moniker p (route_by way.0) (route_is way.0 (tries f c _ way.1 h))))
      paths h

  -- The result of a check of all routes names no failed gate.
  doctors : Saying (Doctors f c)
  doctors i a b r (Doctors.surveyed {went = went} {end = end} survey is rows) h =
      doctored_is end (each_is (OfRow f c) (row_grows f c) of_row rows h)
  doctors i a b r (Doctors.not_surveyed {went = went} survey is) h = subst OfSurvey is (survey_is went (tries f c _ survey h))

  -- What is told of a history to a tail names no failed gate.
  streamed : (found : List Entry) (from i : ℕ) (r : Reply) → IsUnfailing (streamed_by f found from i r)
  streamed found from i (reply.Tailed n) = tt
  streamed found from i r = refusal_is r

  -- The result of a tail of the history names no failed gate.
  streams : (from : ℕ) → Saying (Streams f c from)
  streams from i a b r (Streams.told {r = said} asks) h = streamed asks.made.found from i said
  streams from i a b r (Streams.cut {x = x} is) h = cut_is f c a b (event.Tail i from) x is

  -- a call whose history tells none is answered with none
  pub calls : (cmd : Command) (a b : List Entry) (r : Result Answer Refusal) → Calls f c cmd a b r → AllEnds b → IsUnfailing r
  calls (command.Resolve t) a b r is h = on_row t _ a b r (acted_grows f c _ _) (acting _ _ (acted_is (λ a o. answer.Resolved a) (λ a o fine. tt))) is h
  calls (command.Start t) a b r is h = on_row t _ a b r (acted_grows f c _ _) (acting _ _ (acted_is (λ a o. answer.Started a) (λ a o fine. tt))) is h
  calls (command.Stop t) a b r is h = on_row t _ a b r (acted_grows f c _ _) (acting _ _ (acted_is (λ a o. answer.Stopped a (is_killed o)) (λ a o fine. unforced o fine))) is h
  calls (command.Shutdown t) a b r is h =
      on_row t _ a b r (λ i a b r is. (shuts_close f c false i is.1).grows) (λ i a b r is h. subst IsUnfailing (sym is.2) (unless_is answer.Shut is.0 tt (shuts f c false i is.1))) is h
  calls (command.Create t coll name url gives) a b r is h = on_row t _ a b r (tried_then_grows f c _ _ (created_grows f c)) (tried_then _ _ (created_grows f c) created) is h
  calls (command.Destroy t) a b r is h =
      on_row t _ a b r (λ i a b r is. (destroys_close f c i is.1).grows) (λ i a b r is h. subst IsUnfailing (sym is.2) (unless_is answer.Destroyed is.0 tt (destroys f c i is.1))) is h
  calls (command.ListChildren t coll) a b r is h = on_row t _ a b r (tried_grows f c _) (tried _) is h
  calls (command.OpenUse t path) a b r is h = on_row t _ a b r (tried_grows f c _) (tried _) is h
  calls (command.OpenExposed t name) a b r is h = on_row t _ a b r (tried_grows f c _) (tried _) is h
  calls (command.RouteOf t path) a b r is h = on_row t _ a b r (tried_grows f c _) (tried _) is h
  calls (command.Doctor t) a b r is h = on_row t _ a b r (doctors_grow f c) doctors is h
  calls (command.Show t) a b r is h = on_row t _ a b r (tried_grows f c _) (tried _) is h
  calls (command.Survey t) a b r is h = on_row t _ a b r (tried_grows f c _) (tried _) is h
  calls (command.Exited t) a b r is h = on_row t _ a b r (tried_then_grows f c _ _ (left_grows f c)) (tried_then _ _ (left_grows f c) left) is h
  calls (command.Events t from) a b r is h = on_row t _ a b r (streams_grow f c from) (streams from) is h
