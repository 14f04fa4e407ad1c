-- What lanes answer is made of replies.
use Rattle.std.proofs.Common.{◌≡◌, ℕ, ◌<◌, List, [], ◌∷◌, ◌++◌, Bool, true, false, ◌==◌, Option, Some, None, Result, Ok, Err, All, IsTrue, refl, sym, subst, arith}
use Rattle.std.specs.Prelude.{IfSome}
use Rattle.std.proofs.lemmas.List.Elements.{All-cons, All-append, All-nil, All-head, All-tail}
use Rattle.cm_names.specs.Path.{is_path}
use Rattle.cm_turn.specs.History.{StartsWith}
use Rattle.cm_world.specs.declared.action.ActKind.{ActKind}
use Rattle.cm_world.specs.declared.action.ActKind.TheVariants as kind
use Rattle.cm_world.specs.declared.action.Outcome.{Outcome}
use Rattle.cm_world.specs.declared.action.Outcome.TheVariants as outcome
use Rattle.cm_world.specs.declared.answer.Answer.{Answer}
use Rattle.cm_world.specs.declared.answer.Answer.TheVariants as answer
use Rattle.cm_world.specs.declared.answer.Checked.{Checked}
use Rattle.cm_world.specs.declared.answer.Refusal.{Refusal}
use Rattle.cm_world.specs.declared.answer.Refusal.TheVariants as refusal
use Rattle.cm_world.specs.declared.event.Event.{Event}
use Rattle.cm_world.specs.declared.event.Event.TheVariants as event
use Rattle.cm_world.specs.declared.event.Target.{Target}
use Rattle.cm_world.specs.declared.event.Target.TheVariants as target
use Rattle.cm_world.specs.declared.frame.Frame.{Frame}
use Rattle.cm_world.specs.declared.reply.Entry.{Entry}
use Rattle.cm_world.specs.declared.reply.Reply.{Reply}
use Rattle.cm_world.specs.declared.reply.Reply.TheVariants as reply
use Rattle.cm_world.specs.declared.report.SurveyRow.{SurveyRow}
use Rattle.cm_world.specs.declared.route.Route.{Route}
use Rattle.cm_world.specs.Rows.{moniker_of}
use Rattle.cm_command.specs.declared.command.Command.{Command}
use Rattle.cm_command.specs.declared.command.Command.TheVariants as command
use Rattle.cm_answers.specs.declared.acted.ActionResult.{ActionResult}
use Rattle.cm_answers.specs.declared.acted.ActionResult.TheVariants as acted
use Rattle.cm_answers.specs.Answers.{failure, ends_call, ends_eager, refusal_of, decision, decided_by, answer_unless, unless_ended, found_by, acted_answer, resolved_answer, started_answer, stopped_answer, unmarked}
use Rattle.cm_answers.specs.Lines.{route_by, line_of, unresolved_line, in_prefix, surveyed_by, doctored_by}
use Rattle.cm_reply.specs.LegibleInside.{IsOfNames, IsLegibleReply, IsLegibleSurvey}
use Rattle.cm_manager.specs.Turns.{AddsOneEntry, EndsWithoutEntry, world_after}
use Rattle.cm_manager.specs.Runs.{RunsAction, ended, started, started_cut, stopped, stopped_cut, joined, quiet, resolved_first, not_resolved, cut, StartsEager, all_done, next_one, cut_at, RetriesEvent, decided, needs, failed, cut_try, StartsSingleRun, is_quiet}
use Rattle.cm_manager.specs.Sweeps.{Stops, Removes, Clears, Sweeps}
use Rattle.cm_manager.specs.Shutdowns.{Shuts, Destroys}
use Rattle.cm_manager.specs.Doctor.{Checks, GathersEach, OfPath, OfRow, Doctors}
use Rattle.cm_manager.specs.Streams.{Streams, streamed_by}
use Rattle.cm_manager.specs.Calls.{CallWay, Finding, GoesOnWithRow, OnRow, CallsEvent, Nothing, Then, CallsEventThen, OnceCreated, SweptLeft, CallsAction, Calls}
use Rattle.cm_lanes.specs.Script.{AnsweredLine, answers_of, PerformsLines, rests, performs, ArePhases, none_left, one_first}
use Rattle.cm_journal.specs.Said.{IsLegibleRefusal, IsLegibleFound, IsLegibleChecked, IsLegibleAnswer, IsLegibleResult, OfReplies, AreOfLanes, AreLegibleAnswers, ResultsAreLegible}
use Rattle.cm_manager.proofs.lemmas.shutdowns.ShuttingDown.{shuts_close, destroys_close}
use Rattle.cm_legible.specs.Tellable.{IsNamedReply}
use Rattle.cm_legible.proofs.lemmas.Replies.{legible_reply}
use Rattle.cm_journal.proofs.lemmas.Streamed.{stream_is}
use Rattle.cm_lanes.proofs.lemmas.lines.Parting.{Growing, Following, tries_grow, behind_grows, tried_grows, created_grows, left_grows, then_grows, tried_then_grows, acted_grows, each_grows, row_grows, doctors_grow, streams_grow, answers_own, answers_behind, phases_grow, follows_grows}

-- The reply of the entry names proper monikers.
abbrev OfReply : Entry → Type 0
OfReply e = IsNamedReply e.reply

-- The first entries of a history have replies of names, where all have.
prefix_of : (a more : List Entry) → OfReplies (a ++ more) → OfReplies a
prefix_of [] more h = All-nil OfReply
prefix_of (e ∷ es) more h = All-cons OfReply e es (All-head OfReply e (es ++ more) h) (prefix_of es more (All-tail OfReply e (es ++ more) h))

-- what is within a history of legible replies
pub within : (a b : List Entry) → StartsWith b a → OfReplies b → OfReplies a
within a b s h = prefix_of a s.0 (subst OfReplies s.1 h)

-- The last entry of a history has a reply of names, where all have.
last_of : (found : List Entry) (x : Entry) → OfReplies (found ++ x ∷ []) → OfReply x
last_of [] x h = All-head OfReply x [] h
last_of (e ∷ es) x h = last_of es x (All-tail OfReply e (es ++ x ∷ []) h)

-- ---- what ends a call

-- A refusal that may be there is a legible one, where it is.
abbrev OfSome : Option Refusal → Type 0
OfSome o = IfSome o IsLegibleRefusal

-- A refusal that is there is legible, where what there is of it is.
some : (o : Option Refusal) (x : Refusal) → o ≡ Some x → OfSome o → IsLegibleRefusal x
some o x e h = subst OfSome e h

-- The failure that the end of an action is, if it is one, is legible.
failure_is : (k : ActKind) (a : ℕ) (o : Outcome) → OfSome (failure k a o)
failure_is k a outcome.Resolved = tt
failure_is k a outcome.Started = tt
failure_is k a outcome.Stopped = tt
failure_is k a outcome.Killed = tt
failure_is k a outcome.NoMemory = tt
failure_is kind.Resolve a outcome.Absent = tt
failure_is kind.Resolve a outcome.BadUrl = tt
failure_is kind.Resolve a (outcome.Invalid n) = tt
failure_is kind.Resolve a outcome.Declined = tt
failure_is kind.Resolve a outcome.GateFailed = tt
failure_is kind.Resolve a outcome.Full = tt
failure_is kind.Start a outcome.Absent = tt
failure_is kind.Start a outcome.BadUrl = tt
failure_is kind.Start a (outcome.Invalid n) = tt
failure_is kind.Start a outcome.Declined = tt
failure_is kind.Start a outcome.GateFailed = tt
failure_is kind.Start a outcome.Full = tt
failure_is kind.Stop a outcome.Absent = tt
failure_is kind.Stop a outcome.BadUrl = tt
failure_is kind.Stop a (outcome.Invalid n) = tt
failure_is kind.Stop a outcome.Declined = tt
failure_is kind.Stop a outcome.GateFailed = tt
failure_is kind.Stop a outcome.Full = tt

-- what an action came to says nothing but numbers
abbrev OfActed : Result ActionResult Refusal → Type 0
OfActed (Ok (acted.Ended k a o)) = Unit {0}
OfActed (Ok (acted.Quiet r)) = IsTrue (is_quiet r)
OfActed (Err x) = IsLegibleRefusal x

-- The refusal by which an action ends a call, if it does, is legible.
ends_is : (went : Result ActionResult Refusal) → OfActed went → OfSome (ends_call went)
ends_is (Ok (acted.Ended k a o)) h = failure_is k a o
ends_is (Ok (acted.Quiet r)) h = tt
ends_is (Err x) h = h

-- The refusal by which an eager child's start ends a call, if it does, is legible.
eager_is : (went : Result ActionResult Refusal) → OfActed went → OfSome (ends_eager went)
eager_is (Ok (acted.Ended k a outcome.NoMemory)) h = tt
eager_is (Ok (acted.Ended k a outcome.Resolved)) h = tt
eager_is (Ok (acted.Ended k a outcome.Started)) h = tt
eager_is (Ok (acted.Ended k a outcome.Stopped)) h = tt
eager_is (Ok (acted.Ended k a outcome.Killed)) h = tt
eager_is (Ok (acted.Ended k a outcome.Absent)) h = tt
eager_is (Ok (acted.Ended k a outcome.BadUrl)) h = tt
eager_is (Ok (acted.Ended k a (outcome.Invalid n))) h = tt
eager_is (Ok (acted.Ended k a outcome.Declined)) h = tt
eager_is (Ok (acted.Ended k a outcome.GateFailed)) h = tt
eager_is (Ok (acted.Ended k a outcome.Full)) h = tt
eager_is (Ok (acted.Quiet r)) h = tt
eager_is (Err x) h = h

-- The refusal that a legible reply is told as is legible.
refusal_is : (r : Reply) → IsLegibleReply r → IsLegibleRefusal (refusal_of r)
refusal_is (reply.Cycle nodes) h = h
refusal_is (reply.NotFound m) h = h
refusal_is (reply.Failed hop why) h = h
refusal_is (reply.Void hop) h = h
refusal_is _ h = tt

-- The refusal that a quiet reply is told as is legible.
quiet_refusal : (r : Reply) → IsTrue (is_quiet r) → IsLegibleRefusal (refusal_of r)
quiet_refusal reply.Already h = tt
quiet_refusal (reply.Gone i) h = tt
quiet_refusal (reply.Shut i) h = tt
quiet_refusal _ h = absurd (cc h)

module _ (f : Frame) (c : ℕ) where
  -- The reply that an event got in a history of legible replies is legible.
  made_is : (a b : List Entry) (e : Event) (r : Reply) → AddsOneEntry c a e r b → OfReplies b → IsLegibleReply r
  made_is a b e r m h = legible_reply r (last_of m.found (record { caller = c; event = e; reply = r }) (subst OfReplies m.entries h))

  -- The refusal by which a turn without an entry ends a call is legible.
  cut_is : (a b : List Entry) (e : Event) (x : Refusal) → EndsWithoutEntry f c a e b x → IsLegibleRefusal x
  cut_is a b e refusal.Memory is = tt
  cut_is a b e refusal.HistoryFull is = tt
  cut_is a b e _ is = absurd is

  -- The refusal by which the stops of a target end, if they do, is legible.
  stops : (t : ℕ) {a b : List Entry} {end : Option Refusal} → Stops f c t a b end → OfSome end
  stops t (Stops.all_shut asks) = tt
  stops t (Stops.was_off asks rest) = stops t rest
  stops t (Stops.was_on asks end rest) = stops t rest
  stops t (Stops.cut_pick {x = x} is) = cut_is _ _ (event.Pick t) x is

  -- The refusal by which a removal ends, if it does, is legible.
  removes : (i : ℕ) {a b : List Entry} {end : Option Refusal} → Removes f c i a b end → OfSome end
  removes i (Removes.removed s asks) = tt
  removes i (Removes.cut_remove {x = x} s is) = cut_is _ _ (event.Purge i) x is
  removes i (Removes.not_stopped s) = stops i s

  -- The refusal by which removals in order end, if they do, is legible.
  clears : {is : List ℕ} {a b : List Entry} {end : Option Refusal} → Clears f c is a b end → OfSome end
  clears Clears.none_left = tt
  clears (Clears.next_row one rest) = clears rest
  clears (Clears.cut_row one) = removes _ one

  -- The refusal by which a sweep ends, if it does, is legible.
  sweeps : (i : ℕ) {a b : List Entry} {end : Option Refusal} → Sweeps f c i a b end → OfSome end
  sweeps i (Sweeps.swept asks rest) = clears rest
  sweeps i (Sweeps.cut_reap {x = x} is) = cut_is _ _ (event.Reap i) x is

  mutual
    -- What an action came to says nothing but numbers.
    acts : {k : ActKind} {i : ℕ} {a b : List Entry} {went : Result ActionResult Refusal} → RunsAction f c k i a b went → OfActed went
    acts (ended asks end other) = tt
    acts (started asks end rest) = tt
    acts (started_cut asks end rest) = eagers rest
    acts (stopped asks end is rest) = tt
    acts (stopped_cut asks end is rest) = sweeps _ rest
    acts (joined asks end) = tt
    acts (quiet asks is) = is
    acts (resolved_first asks one fine rest) = acts rest
    acts (not_resolved asks one fails) = acts one
    acts (cut {k = k} {i = i} {x = x} is) = cut_is _ _ (event.Begin k i) x is

    -- The refusal by which the starts of eager children end, if they do, is legible.
    eagers : {es : List ℕ} {a b : List Entry} {end : Option Refusal} → StartsEager f c es a b end → OfSome end
    eagers all_done = tt
    eagers (next_one act fine rest) = eagers rest
    eagers (cut_at {went = went} act is) = some (ends_eager went) _ is (eager_is went (acts act))

  -- what decided an event
  abbrev OfTried : Result Reply Refusal → Type 0
  OfTried (Ok r) = IsLegibleReply r
  OfTried (Err x) = IsLegibleRefusal x

  -- The reply or the refusal that decided an event is legible.
  tries : (e : Event) {a b : List Entry} {end : Result Reply Refusal} → RetriesEvent f c e a b end → OfReplies b → OfTried end
  tries e (decided asks is) h = made_is _ _ _ _ asks.made h
  tries e (needs asks is act fine again) h = tries e again h
  tries e (failed {went = went} asks is act fails) h = some (ends_call went) _ fails (ends_is went (acts act))
  tries e (cut_try {x = x} is) h = cut_is _ _ e x is

  -- The refusal by which a mark isn't made, if it isn't, is legible.
  marked_is : (r : Reply) → IsLegibleReply r → OfSome (unmarked r)
  marked_is reply.Marked h = tt
  marked_is reply.Already h = tt
  marked_is (reply.Cycle nodes) h = h
  marked_is (reply.NotFound m) h = h
  marked_is (reply.Failed hop why) h = h
  marked_is (reply.Void hop) h = h
  marked_is _ h = tt

  -- The refusal by which a shutdown ends, if it does, is legible.
  shuts : (doom : Bool) (i : ℕ) {a b : List Entry} {end : Option Refusal} → Shuts f c doom i a b end → OfReplies b → OfSome end
  shuts doom i (Shuts.marked asks is rest) h = stops i rest
  shuts doom i (Shuts.refused {r = r} asks is) h = some (unmarked r) _ is (marked_is r (made_is _ _ _ _ asks.made h))
  shuts doom i (Shuts.cut_mark {x = x} is) h = cut_is _ _ (event.Mark doom i) x is

  -- The refusal by which a destruction ends, if it does, is legible.
  destroys : (i : ℕ) {a b : List Entry} {end : Option Refusal} → Destroys f c i a b end → OfReplies b → OfSome end
  destroys i (Destroys.purged s asks) h = tt
  destroys i (Destroys.cut_purge {x = x} s is) h = cut_is _ _ (event.Purge i) x is
  destroys i (Destroys.unshut s) h = shuts true i s h

  -- The refusal by which the start of a child that runs once ends, if it does, is legible.
  onces : (i : ℕ) {a b : List Entry} {end : Option Refusal} → StartsSingleRun f c i a b end → OfSome end
  onces i (StartsSingleRun.not_once l is) = tt
  onces i (StartsSingleRun.once {went = went} l is act) = eager_is went (acts act)

-- ---- answers

-- What a legible reply decides as an answer is legible.
decision_is : (r : Reply) → IsLegibleReply r → IsLegibleResult (decision r)
decision_is (reply.Listed kids) h = h
decision_is (reply.Opened route) h = h
decision_is (reply.Given route) h = h
decision_is (reply.Shown look) h = h
decision_is (reply.Surveyed rows) h = h
decision_is (reply.Cycle nodes) h = h
decision_is (reply.NotFound m) h = h
decision_is (reply.Failed hop why) h = h
decision_is (reply.Void hop) h = h
decision_is _ h = tt

-- What an action came to is a legible result, where what it was answered is.
acted_is : (made : Option ℕ → Outcome → Answer) → ((a : Option ℕ) (o : Outcome) → IsLegibleAnswer (made a o)) → (went : Result ActionResult Refusal) → OfActed went → IsLegibleResult (acted_answer made went)
acted_is made each (Ok (acted.Ended k a o)) h = by (failure k a o) (failure_is k a o)
  where
    by : (x : Option Refusal) → OfSome x → IsLegibleResult (elim x as (λ _. Result Answer Refusal) [ None ↦ Ok (made (Some a) o) | Some x ↦ Err x ])
    by None h = each (Some a) o
    by (Some x) h = h
acted_is made each (Ok (acted.Quiet reply.Already)) h = each None outcome.Resolved
acted_is made each (Ok (acted.Quiet (reply.Gone i))) h = tt
acted_is made each (Ok (acted.Quiet (reply.Shut i))) h = tt
acted_is made each (Ok (acted.Quiet r)) h = absurd (cc h)
acted_is made each (Err x) h = h

-- A legible answer, unless a legible refusal ended the call, is legible.
unless_is : (a : Answer) (end : Option Refusal) → IsLegibleAnswer a → OfSome end → IsLegibleResult (answer_unless a end)
unless_is a None h k = h
unless_is a (Some x) h k = k

-- A legible result, unless a legible refusal ended the call, is legible.
ended_is : (end : Option Refusal) (r : Result Answer Refusal) → OfSome end → IsLegibleResult r → IsLegibleResult (unless_ended end r)
ended_is None r h k = k
ended_is (Some x) r h k = h

-- ---- the lines of a check

-- The lines that a check gathered, or its refusal, are legible.
abbrev OfChecks : Result (List Checked) Refusal → Type 0
OfChecks (Ok lines) = All IsLegibleChecked lines
OfChecks (Err x) = IsLegibleRefusal x

-- Legible lines put before the legible end of a check are legible.
in_prefix_is : (lines : List Checked) (end : Result (List Checked) Refusal) → All IsLegibleChecked lines → OfChecks end → OfChecks (in_prefix lines end)
in_prefix_is lines (Ok others) h k = All-append IsLegibleChecked lines others h k
in_prefix_is lines (Err x) h k = k

-- The answer to a check whose end is legible is legible.
doctored_is : (end : Result (List Checked) Refusal) → OfChecks end → IsLegibleResult (doctored_by end)
doctored_is (Ok lines) h = h
doctored_is (Err x) h = h

-- The one line of a check, with its moniker, path and result, is legible.
one_line : (m : _) (p : List ℕ) (found : Result Route Refusal) → IsOfNames m → IsTrue (is_path p) → IsLegibleFound found → All IsLegibleChecked (record { moniker = m; path = Some p; result = found } ∷ [])
one_line m p found h k j =
    All-cons IsLegibleChecked (record { moniker = m; path = Some p; result = found }) [] (record { moniker = h; path = k; result = j }) (All-nil IsLegibleChecked)

-- The line of a check, or what refuses it, is legible.
line_is : (m : _) (p : List ℕ) (found : Result Route Refusal) → IsOfNames m → IsTrue (is_path p) → IsLegibleFound found → OfChecks (line_of m p found)
line_is m p (Err refusal.Memory) h k j = tt
line_is m p (Err refusal.HistoryFull) h k j = tt
line_is m p (Ok route) h k j = one_line m p (Ok route) h k j
line_is m p (Err x) h k j = one_line m p (Err x) h k j

-- Items that are checked in order come to legible lines, where each one does.
each_is : {A : Type 0} (P : A → Type 0) (Item : A → Checks)
    → ((x : A) (a b : List Entry) (end : Result (List Checked) Refusal) → Item x a b end → StartsWith b a)
    → ((x : A) (a b : List Entry) (end : Result (List Checked) Refusal) → P x → Item x a b end → OfReplies b → OfChecks end)
    → {xs : List A} {a b : List Entry} {end : Result (List Checked) Refusal} → GathersEach Item xs a b end → All P xs → OfReplies b → OfChecks end
each_is P Item grows is GathersEach.no_item ps h = All-nil IsLegibleChecked
each_is P Item grows is (GathersEach.next_item {x = x} {xs = xs} {h₁ = m} {h₂ = b} {lines = lines} {end = end} item rest) ps h =
    in_prefix_is lines end
    (is x _ m (Ok lines) (All-head P x xs ps) item (within m b (each_grows Item grows rest) h))
    (each_is P Item grows is rest (All-tail P x xs ps) h)
each_is P Item grows is (GathersEach.cut_item {x = x} {xs = xs} item) ps h = is x _ _ _ (All-head P x xs ps) item h
each_is P Item grows is (GathersEach.lost_item item) ps h = tt

-- ---- calls

module _ (f : Frame) (c : ℕ) where
  -- The reply or the refusal that decided a try is legible.
  abbrev OfTry : Result Reply Refusal → Type 0
  OfTry went = OfTried f c went

  -- The answer that a legible try decides is legible.
  decided_is : (went : Result Reply Refusal) → OfTry went → IsLegibleResult (decided_by went)
  decided_is (Ok r) h = decision_is r h
  decided_is (Err x) h = h

  -- What a find came to is a row, or a refusal that is legible.
  abbrev OfFound : Result ℕ Refusal → Type 0
  OfFound (Ok i) = Unit {0}
  OfFound (Err x) = IsLegibleRefusal x

  -- What a legible try of a find comes to is legible.
  found_is : (went : Result Reply Refusal) → OfTry went → OfFound (found_by went)
  found_is (Ok (reply.Found i)) h = tt
  found_is (Ok (reply.Cycle nodes)) h = h
  found_is (Ok (reply.NotFound m)) h = h
  found_is (Ok (reply.Failed hop why)) h = h
  found_is (Ok (reply.Void hop)) h = h
  found_is (Ok r) h = tt
  found_is (Err x) h = h

  -- The route that a legible try comes to is legible.
  route_is : (went : Result Reply Refusal) → OfTry went → IsLegibleFound (route_by went)
  route_is (Ok (reply.Given route)) h = h
  route_is (Ok (reply.Cycle nodes)) h = h
  route_is (Ok (reply.NotFound m)) h = h
  route_is (Ok (reply.Failed hop why)) h = h
  route_is (Ok (reply.Void hop)) h = h
  route_is (Ok r) h = tt
  route_is (Err x) h = h

  -- The rows of a survey, or its refusal, are legible.
  abbrev OfSurvey : Result (List SurveyRow) Refusal → Type 0
  OfSurvey (Ok rows) = All IsLegibleSurvey rows
  OfSurvey (Err x) = IsLegibleRefusal x

  -- What a legible try of a survey comes to is legible.
  survey_is : (went : Result Reply Refusal) → OfTry went → OfSurvey (surveyed_by went)
  survey_is (Ok (reply.Surveyed rows)) h = h
  survey_is (Ok (reply.Cycle nodes)) h = h
  survey_is (Ok (reply.NotFound m)) h = h
  survey_is (Ok (reply.Failed hop why)) h = h
  survey_is (Ok (reply.Void hop)) h = h
  survey_is (Ok r) h = tt
  survey_is (Err x) h = h

  -- The result of a call on each row is legible, where the history's replies are.
  abbrev Saying : (ℕ → CallWay (Result Answer Refusal)) → Type 0
  Saying call = (i : ℕ) (a b : List Entry) (r : Result Answer Refusal) → call i a b r → OfReplies b → IsLegibleResult r

  -- What the find of a target comes to is legible, where the history's replies are.
  finding : (t : Target) (a b : List Entry) (row : Result ℕ Refusal) → Finding f c t a b row → OfReplies b → OfFound row
  finding (target.Inc n) a b row is h = subst OfFound (sym is.1) tt
  finding (target.Named m) a b row is h = subst OfFound (sym is.2) (found_is is.0 (tries f c _ is.1 h))

  -- The result of a call that goes on with a row, or not, is legible.
  behind : (row : Result ℕ Refusal) (call : ℕ → CallWay (Result Answer Refusal)) (a b : List Entry) (r : Result Answer Refusal) → Saying call → GoesOnWithRow row call a b r → OfFound row → OfReplies b → IsLegibleResult r
  behind (Ok i) call a b r says is k h = says i a b r is h
  behind (Err x) call a b r says is k h = subst IsLegibleResult (sym is.1) k

  -- The result of a call on a target is legible, where that on each row is.
  on_row : (t : Target) (call : ℕ → CallWay (Result Answer Refusal)) (a b : List Entry) (r : Result Answer Refusal) → Growing call → Saying call → OnRow f c t call a b r → OfReplies b → IsLegibleResult r
  on_row t call a b r grows says is h =
      behind is.row call is.h₁ b r says is.behind
      (finding t a is.h₁ is.row is.finding (within is.h₁ b (behind_grows is.row call is.h₁ b r grows is.behind) h)) h

  -- The result of a call of one event is legible.
  tried : (e : ℕ → Event) → Saying (CallsEvent f c e)
  tried e i a b r is h = subst IsLegibleResult (sym is.2) (decided_is is.0 (tries f c (e i) is.1 h))

  -- The refusal by which what follows a reply ends the call, if it does, is legible.
  abbrev Ending : (ℕ → Reply → CallWay (Option Refusal)) → Type 0
  Ending follow = (i : ℕ) (r : Reply) (a b : List Entry) (end : Option Refusal) → follow i r a b end → OfSome end

  -- Where nothing follows, no refusal ends the call.
  nothing : (a b : List Entry) (end : Option Refusal) → Nothing a b end → OfSome end
  nothing a b end is = subst OfSome (sym is.1) tt

  -- The refusal by which what follows a creation ends the call, if it does, is legible.
  created : Ending (OnceCreated f c)
  created i (reply.Created j) a b end is = onces f c j is
  created i _ a b end is = nothing a b end is

  -- The refusal by which what follows an exit ends the call, if it does, is legible.
  left : Ending (SweptLeft f c)
  left i (reply.Left m) a b end is = sweeps f c i is
  left i _ a b end is = nothing a b end is

  -- The refusal by which what may follow a try ends the call, if it does, is legible.
  after : (follow : ℕ → Reply → CallWay (Option Refusal)) (i : ℕ) (went : Result Reply Refusal) (a b : List Entry) (end : Option Refusal) → Ending follow → Then (follow i) went a b end → OfSome end
  after follow i (Ok r) a b end ends is = ends i r a b end is
  after follow i (Err x) a b end ends is = nothing a b end is

  -- The result of a call of one event and what follows its reply is legible.
  tried_then : (e : ℕ → Event) (follow : ℕ → Reply → CallWay (Option Refusal)) → Following follow → Ending follow → Saying (CallsEventThen f c e follow)
  tried_then e follow grows ends i a b r is h =
      subst IsLegibleResult (sym is.answer)
      (ended_is is.end (decided_by is.went) (after follow i is.went is.h₁ b is.end ends is.follows)
      (decided_is is.went (tries f c (e i) is.tries (within is.h₁ b (then_grows follow i is.went is.h₁ b is.end grows is.follows) h))))

  -- The result of a call of an action is legible, where its value is.
  acting : (k : ActKind) (value : Result ActionResult Refusal → Result Answer Refusal) → ((went : Result ActionResult Refusal) → OfActed went → IsLegibleResult (value went)) → Saying (CallsAction f c k value)
  acting k value says i a b r is h = subst IsLegibleResult (sym is.2) (says is.0 (acts f c is.1))

  -- What the check of a row's routes comes to is legible, where the row of the survey is.
  of_row : (row : SurveyRow) (a b : List Entry) (end : Result (List Checked) Refusal) → IsLegibleSurvey row → OfRow f c row a b end → OfReplies b → OfChecks end
  of_row row a b end k (OfRow.unresolved is) h =
      All-cons IsLegibleChecked (unresolved_line row.moniker) [] (record { moniker = k.moniker; path = tt; result = tt }) (All-nil IsLegibleChecked)
  of_row row a b end k (OfRow.resolved is paths) h =
      each_is (λ p. IsTrue (is_path p)) (OfPath f c row) (λ p a b end way. tries_grow f c _ way.1)
      (λ p a b end j way h. subst OfChecks (sym way.2) (line_is row.moniker p (route_by way.0) k.moniker j (route_is way.0 (tries f c _ way.1 h))))
      paths k.paths h

  -- The result of a check of all routes is legible.
  doctors : Saying (Doctors f c)
  doctors i a b r (Doctors.surveyed {h₁ = m} {went = went} {end = end} survey is rows) h =
      doctored_is end (each_is IsLegibleSurvey (OfRow f c) (row_grows f c) of_row rows
      (subst OfSurvey is (survey_is went (tries f c _ survey (within m b (each_grows (OfRow f c) (row_grows f c) rows) h)))) h)
  doctors i a b r (Doctors.not_surveyed {went = went} survey is) h = subst OfSurvey is (survey_is went (tries f c _ survey h))

  -- What is told of a history to a tail with a legible reply is legible.
  streamed : (found : List Entry) (from i : ℕ) (r : Reply) → IsLegibleReply r → OfReplies found → IsLegibleResult (streamed_by f found from i r)
  streamed found from i (reply.Tailed n) h k = stream_is found from n (moniker_of (world_after f found).rows i) k
  streamed found from i r h k = refusal_is r h

  -- The result of a tail of the history is legible.
  streams : (from : ℕ) → Saying (Streams f c from)
  streams from i a b r (Streams.told {r = said} asks) h =
      streamed asks.made.found from i said (made_is f c _ _ _ _ asks.made h)
      (prefix_of asks.made.found _ (subst OfReplies asks.made.entries h))
  streams from i a b r (Streams.cut {x = x} is) h = cut_is f c a b (event.Tail i from) x is

  -- The result of the call of each command is legible, where the history's replies are.
  calls : (cmd : Command) (a b : List Entry) (r : Result Answer Refusal) → Calls f c cmd a b r → OfReplies b → IsLegibleResult r
  calls (command.Resolve t) a b r is h = on_row t _ a b r (acted_grows f c _ _) (acting _ _ (acted_is (λ a o. answer.Resolved a) (λ a o. tt))) is h
  calls (command.Start t) a b r is h = on_row t _ a b r (acted_grows f c _ _) (acting _ _ (acted_is (λ a o. answer.Started a) (λ a o. tt))) is h
  calls (command.Stop t) a b r is h = on_row t _ a b r (acted_grows f c _ _) (acting _ _ (acted_is (λ a o. answer.Stopped a (Rattle.cm_answers.specs.Answers.is_killed o)) (λ a o. tt))) is h
  calls (command.Shutdown t) a b r is h =
      on_row t _ a b r (λ i a b r is. (shuts_close f c false i is.1).grows) (λ i a b r is h. subst IsLegibleResult (sym is.2) (unless_is answer.Shut is.0 tt (shuts f c false i is.1 h))) is h
  calls (command.Create t coll name url gives) a b r is h = on_row t _ a b r (tried_then_grows f c _ _ (created_grows f c)) (tried_then _ _ (created_grows f c) created) is h
  calls (command.Destroy t) a b r is h =
      on_row t _ a b r (λ i a b r is. (destroys_close f c i is.1).grows) (λ i a b r is h. subst IsLegibleResult (sym is.2) (unless_is answer.Destroyed is.0 tt (destroys f c i is.1 h))) is h
  calls (command.ListChildren t coll) a b r is h = on_row t _ a b r (tried_grows f c _) (tried _) is h
  calls (command.OpenUse t path) a b r is h = on_row t _ a b r (tried_grows f c _) (tried _) is h
  calls (command.OpenExposed t name) a b r is h = on_row t _ a b r (tried_grows f c _) (tried _) is h
  calls (command.RouteOf t path) a b r is h = on_row t _ a b r (tried_grows f c _) (tried _) is h
  calls (command.Doctor t) a b r is h = on_row t _ a b r (doctors_grow f c) doctors is h
  calls (command.Show t) a b r is h = on_row t _ a b r (tried_grows f c _) (tried _) is h
  calls (command.Survey t) a b r is h = on_row t _ a b r (tried_grows f c _) (tried _) is h
  calls (command.Exited t) a b r is h = on_row t _ a b r (tried_then_grows f c _ _ (left_grows f c)) (tried_then _ _ (left_grows f c) left) is h
  calls (command.Events t from) a b r is h = on_row t _ a b r (streams_grow f c from) (streams from) is h

  -- The result of the answered line is legible.
  abbrev OfAnswer : AnsweredLine → Type 0
  OfAnswer a = IsLegibleResult a.result

  -- The results of a caller's own lines are legible, where the history's replies are.
  follows : {xs : List AnsweredLine} {a b : List Entry} → PerformsLines f c xs a b → OfReplies b → All OfAnswer xs
  follows (rests l) h = All-nil OfAnswer
  follows (performs {a = x} {others = xs} {h₁ = m} {h₂ = b} call rest) h =
      All-cons OfAnswer x xs (calls x.line.command _ m x.result call (within m b (follows_grows f c _ _ _ rest) h)) (follows rest h)

-- ---- all lanes

module _ (P : AnsweredLine → Type 0) where
  -- What holds of each lane's answers holds of all, where their lanes are of the sixteen.
  by_lanes : (xs : List AnsweredLine) → All (λ (a : AnsweredLine). a.line.lane < 16) xs → ((c : ℕ) → c < 16 → All P (answers_of c xs)) → All P xs
  by_lanes [] few each = All-nil P
  by_lanes (a ∷ xs) few each =
      All-cons P a xs (All-head P a (answers_of a.line.lane xs) (subst (All P) (answers_own a xs) (each a.line.lane (All-head (λ (a : AnsweredLine). a.line.lane < 16) a xs few))))
      (by_lanes xs (All-tail (λ (a : AnsweredLine). a.line.lane < 16) a xs few) (λ c lt. answers_behind P (a.line.lane == c) c a xs refl (each c lt)))

-- The results of all these answered lines are legible.
abbrev AllOf : List AnsweredLine → Type 0
AllOf xs = All (λ (a : AnsweredLine). IsLegibleResult a.result) xs

-- Where the replies of a history name proper monikers, the answers of phases that end in it do so.
pub results_of_phases : (f : Frame) {answered : List (List AnsweredLine)} {a b : List Entry} → AreOfLanes answered → ArePhases (λ c. f) answered a b → OfReplies b → AreLegibleAnswers answered
results_of_phases f few none_left h = All-nil AllOf
results_of_phases f few (one_first {answered = xs} {others = others} {h₁ = m} {h₂ = b} phase rest) h =
    All-cons AllOf xs others
    (by_lanes (λ (a : AnsweredLine). IsLegibleResult a.result) xs (All-head (All (λ (a : AnsweredLine). a.line.lane < 16)) xs others few)
    (λ c small. follows f c (phase.lanes c small) (within m b (phases_grow f rest) h)))
    (results_of_phases f (All-tail (All (λ (a : AnsweredLine). a.line.lane < 16)) xs others few) rest h)

-- What lanes answer names proper monikers, where the replies of the history do.
pub results_are_legible : ResultsAreLegible
results_are_legible f answered history replies few phases = results_of_phases f few phases replies
