-- The parts of a caller's lines, and lines that are lost.
use Rattle.std.proofs.Common.{◌≡◌, ℕ, ◌==◌, List, [], ◌∷◌, ◌++◌, All, map, flat_map, cond, Bool, true, false, Option, Some, None, Result, Ok, Err, IsTrue, refl, sym, ap, ◌∙◌, subst, append-nil, append_assoc, suc, arith, eq-eqb}
use Rattle.std.proofs.lemmas.List.Elements.{filter-append, All-tail}
use Rattle.cm_turn.specs.History.{StartsWith}
use Rattle.cm_world.specs.declared.action.ActKind.{ActKind}
use Rattle.cm_world.specs.declared.answer.Answer.{Answer}
use Rattle.cm_world.specs.declared.answer.Checked.{Checked}
use Rattle.cm_world.specs.declared.answer.Answer.TheVariants as answer
use Rattle.cm_world.specs.declared.answer.Refusal.{Refusal}
use Rattle.cm_world.specs.declared.answer.Refusal.TheVariants as refusal
use Rattle.cm_world.specs.declared.event.Event.{Event}
use Rattle.cm_world.specs.declared.event.Event.TheVariants as event
use Rattle.cm_world.specs.declared.event.Target.{Target}
use Rattle.cm_world.specs.declared.event.Target.TheVariants as target
use Rattle.cm_world.specs.declared.frame.Frame.{Frame}
use Rattle.cm_world.specs.declared.reply.Entry.{Entry}
use Rattle.cm_world.specs.declared.reply.Reply.{Reply}
use Rattle.cm_world.specs.declared.reply.Reply.TheVariants as reply
use Rattle.cm_world.specs.declared.report.SurveyRow.{SurveyRow}
use Rattle.cm_world.specs.World.{start}
use Rattle.cm_world.specs.Legal.{Legal}
use Rattle.cm_command.specs.declared.command.Command.{Command}
use Rattle.cm_command.specs.declared.command.Command.TheVariants as command
use Rattle.cm_command.specs.declared.script.Line.{Line}
use Rattle.cm_answers.specs.declared.acted.ActionResult.{ActionResult}
use Rattle.cm_manager.specs.Turns.{own_entries}
use Rattle.cm_manager.specs.Runs.{RunsAction, RetriesEvent, StartsSingleRun, decided, needs, failed, cut_try}
use Rattle.cm_manager.specs.Calls.{CallWay, Finding, GoesOnWithRow, OnRow, CallsEvent, Nothing, Then, CallsEventThen, OnceCreated, SweptLeft}
use Rattle.cm_manager.specs.Calls.{CallsAction, ComesToAnswer, Calls}
use Rattle.cm_manager.specs.Shutdowns.{Shuts, Destroys}
use Rattle.cm_manager.specs.Streams.{Streams}
use Rattle.cm_manager.specs.Doctor.{Checks, GathersEach, OfPath, OfRow, Doctors}
use Rattle.cm_manager.proofs.lemmas.left.Closing.{makes-own, cut-later, acts-close, sweeps_close, later-self}
use Rattle.cm_manager.proofs.lemmas.shutdowns.ShuttingDown.{shuts_close, destroys_close}
use Rattle.cm_lanes.specs.Script.{AnsweredLine, answers_of, PerformsLines, rests, performs, IsPhase, ArePhases, none_left, one_first}
use Rattle.cm_lanes.specs.Laws.{FallsIntoRuns, no_answer}
use Rattle.cm_turn.proofs.lemmas.Histories.{starts-refl, starts-trans}

-- ---- a call's history goes on

-- An event that is made again until a reply decides it only adds to the history.
pub tries_grow : (f : Frame) (c : ℕ) (e : Event) {a b : List Entry} {end : Result Reply Refusal} → RetriesEvent f c e a b end → StartsWith b a
tries_grow f c e (decided asks is) = (makes-own c _ _ _ _ asks.made).0
tries_grow f c e (needs asks is act fine again) = starts-trans _ _ _ (starts-trans _ _ _ (tries_grow f c e again) (acts-close f c act).grows) (makes-own c _ _ _ _ asks.made).0
tries_grow f c e (failed asks is act fails) = starts-trans _ _ _ (acts-close f c act).grows (makes-own c _ _ _ _ asks.made).0
tries_grow f c e (cut_try {h₀ = a} {h₁ = b} {x = x} is) = (cut-later f c a b e x is).grows

-- A call on a row, of this kind, only adds to the history.
abbrev pub Growing : (ℕ → CallWay (Result Answer Refusal)) → Type 0
Growing call = (i : ℕ) (a b : List Entry) (r : Result Answer Refusal) → call i a b r → StartsWith b a

-- To find the row of a target only adds to the history.
pub finding_grows : (f : Frame) (c : ℕ) (t : Target) (a b : List Entry) (row : Result ℕ Refusal) → Finding f c t a b row → StartsWith b a
finding_grows f c (target.Inc n) a b row is = subst (λ (l : List Entry). StartsWith l a) (sym is.0) (starts-refl a)
finding_grows f c (target.Named m) a b row is = tries_grow f c _ is.1

-- A call that goes on with its row, or ends where none was found, only adds to the history.
pub behind_grows : (row : Result ℕ Refusal) (call : ℕ → CallWay (Result Answer Refusal)) (a b : List Entry) (r : Result Answer Refusal) → Growing call → GoesOnWithRow row call a b r → StartsWith b a
behind_grows (Ok i) call a b r grows is = grows i a b r is
behind_grows (Err x) call a b r grows is = subst (λ (l : List Entry). StartsWith l a) (sym is.0) (starts-refl a)

-- A call on a target, whose row is found first, only adds to the history.
pub on_row_grows : (f : Frame) (c : ℕ) (t : Target) (call : ℕ → CallWay (Result Answer Refusal)) (a b : List Entry) (r : Result Answer Refusal) → Growing call → OnRow f c t call a b r → StartsWith b a
on_row_grows f c t call a b r grows is = starts-trans b is.h₁ a (behind_grows is.row call is.h₁ b r grows is.behind) (finding_grows f c t a is.h₁ is.row is.finding)

-- A call that makes one event only adds to the history.
pub tried_grows : (f : Frame) (c : ℕ) (e : ℕ → Event) → Growing (CallsEvent f c e)
tried_grows f c e i a b r is = tries_grow f c (e i) is.1

-- and what follows from a reply

-- Where nothing more is done, the history stays as it was.
pub nothing_grows : (a b : List Entry) (end : Option Refusal) → Nothing a b end → StartsWith b a
nothing_grows a b end is = subst (λ (l : List Entry). StartsWith l a) (sym is.0) (starts-refl a)

-- What follows a reply, of this kind, only adds to the history.
abbrev pub Following : (ℕ → Reply → CallWay (Option Refusal)) → Type 0
Following follow = (i : ℕ) (r : Reply) (a b : List Entry) (end : Option Refusal) → follow i r a b end → StartsWith b a

-- To start a child where it runs once only adds to the history.
pub onces_grow : (f : Frame) (c i : ℕ) {a b : List Entry} {end : Option Refusal} → StartsSingleRun f c i a b end → StartsWith b a
onces_grow f c i (StartsSingleRun.not_once later is) = later.grows
onces_grow f c i (StartsSingleRun.once later is act) = starts-trans _ _ _ (acts-close f c act).grows later.grows

-- What follows a create only adds to the history.
pub created_grows : (f : Frame) (c : ℕ) → Following (OnceCreated f c)
created_grows f c i (reply.Created j) a b end is = onces_grow f c j is
created_grows f c i _ a b end is = nothing_grows a b end is

-- What follows an exit only adds to the history.
pub left_grows : (f : Frame) (c : ℕ) → Following (SweptLeft f c)
left_grows f c i (reply.Left m) a b end is = (sweeps_close f c i is).grows
left_grows f c i _ a b end is = nothing_grows a b end is

-- What follows the reply that decided an event, or the end of a call, only adds to the history.
pub then_grows : (follow : ℕ → Reply → CallWay (Option Refusal)) (i : ℕ) (went : Result Reply Refusal) (a b : List Entry) (end : Option Refusal) → Following follow → Then (follow i) went a b end → StartsWith b a
then_grows follow i (Ok r) a b end grows is = grows i r a b end is
then_grows follow i (Err x) a b end grows is = nothing_grows a b end is

-- A call that makes one event, with what follows its reply, only adds to the history.
pub tried_then_grows : (f : Frame) (c : ℕ) (e : ℕ → Event) (follow : ℕ → Reply → CallWay (Option Refusal)) → Following follow → Growing (CallsEventThen f c e follow)
tried_then_grows f c e follow grows i a b r is = starts-trans b is.h₁ a (then_grows follow i is.went is.h₁ b is.end grows is.follows) (tries_grow f c (e i) is.tries)

-- A call that does one action only adds to the history.
pub acted_grows : (f : Frame) (c : ℕ) (k : ActKind) (value : Result ActionResult Refusal → Result Answer Refusal) → Growing (CallsAction f c k value)
acted_grows f c k value i a b r is = (acts-close f c is.1).grows

-- Items gone through in order only add to the history, where each of them does.
pub each_grows : {A : Type 0} (Item : A → Checks) → ((x : A) (a b : List Entry) (end : Result (List Checked) Refusal) → Item x a b end → StartsWith b a) → {xs : List A} {a b : List Entry} {end : Result (List Checked) Refusal} → GathersEach Item xs a b end → StartsWith b a
each_grows Item grows GathersEach.no_item = starts-refl _
each_grows Item grows (GathersEach.next_item item rest) = starts-trans _ _ _ (each_grows Item grows rest) (grows _ _ _ _ item)
each_grows Item grows (GathersEach.cut_item item) = grows _ _ _ _ item
each_grows Item grows (GathersEach.lost_item item) = grows _ _ _ _ item

-- To check one row of a survey only adds to the history.
pub row_grows : (f : Frame) (c : ℕ) (row : SurveyRow) (a b : List Entry) (end : Result (List Checked) Refusal) → OfRow f c row a b end → StartsWith b a
row_grows f c row a b end (OfRow.unresolved is) = starts-refl _
row_grows f c row a b end (OfRow.resolved is paths) = each_grows (OfPath f c row) (λ p a b end way. tries_grow f c _ way.1) paths

-- The run of `doctor` at a row only adds to the history.
pub doctors_grow : (f : Frame) (c : ℕ) → Growing (Doctors f c)
doctors_grow f c i a b r (Doctors.surveyed survey is rows) = starts-trans _ _ _ (each_grows (OfRow f c) (row_grows f c) rows) (tries_grow f c _ survey)
doctors_grow f c i a b r (Doctors.not_surveyed survey is) = tries_grow f c _ survey

-- The run of `events` at a row only adds to the history.
pub streams_grow : (f : Frame) (c from : ℕ) → Growing (Streams f c from)
streams_grow f c from i a b r (Streams.told asks) = (makes-own c _ _ _ _ asks.made).0
streams_grow f c from i a b r (Streams.cut {x = x} is) = (cut-later f c a b (event.Tail i from) x is).grows

-- The call of any command only adds to the history.
pub calls_grow : (f : Frame) (c : ℕ) (cmd : Command) (a b : List Entry) (r : Result Answer Refusal) → Calls f c cmd a b r → StartsWith b a
calls_grow f c (command.Resolve t) a b r is = on_row_grows f c t _ a b r (acted_grows f c _ _) is
calls_grow f c (command.Start t) a b r is = on_row_grows f c t _ a b r (acted_grows f c _ _) is
calls_grow f c (command.Stop t) a b r is = on_row_grows f c t _ a b r (acted_grows f c _ _) is
calls_grow f c (command.Shutdown t) a b r is = on_row_grows f c t _ a b r (λ i a b r is. (shuts_close f c false i is.1).grows) is
calls_grow f c (command.Create t coll name url gives) a b r is = on_row_grows f c t _ a b r (tried_then_grows f c _ _ (created_grows f c)) is
calls_grow f c (command.Destroy t) a b r is = on_row_grows f c t _ a b r (λ i a b r is. (destroys_close f c i is.1).grows) is
calls_grow f c (command.ListChildren t coll) a b r is = on_row_grows f c t _ a b r (tried_grows f c _) is
calls_grow f c (command.OpenUse t path) a b r is = on_row_grows f c t _ a b r (tried_grows f c _) is
calls_grow f c (command.OpenExposed t name) a b r is = on_row_grows f c t _ a b r (tried_grows f c _) is
calls_grow f c (command.RouteOf t path) a b r is = on_row_grows f c t _ a b r (tried_grows f c _) is
calls_grow f c (command.Doctor t) a b r is = on_row_grows f c t _ a b r (doctors_grow f c) is
calls_grow f c (command.Show t) a b r is = on_row_grows f c t _ a b r (tried_grows f c _) is
calls_grow f c (command.Survey t) a b r is = on_row_grows f c t _ a b r (tried_grows f c _) is
calls_grow f c (command.Exited t) a b r is = on_row_grows f c t _ a b r (tried_then_grows f c _ _ (left_grows f c)) is
calls_grow f c (command.Events t from) a b r is = on_row_grows f c t _ a b r (streams_grow f c from) is

-- The lines that a caller performs only add to the history.
pub follows_grows : (f : Frame) (c : ℕ) (xs : List AnsweredLine) (a b : List Entry) → PerformsLines f c xs a b → StartsWith b a
follows_grows f c xs a b (rests later) = later.grows
follows_grows f c xs a b (performs {a = x} {h₁ = h} calls rest) = starts-trans b h a (follows_grows f c _ h b rest) (calls_grow f c x.line.command a h x.result calls)

-- of the answers of a line's own lane its answer is the first
pub answers_own : (a : AnsweredLine) (xs : List AnsweredLine) → answers_of a.line.lane (a ∷ xs) ≡ a ∷ answers_of a.line.lane xs
answers_own a xs = ap (λ (b : Bool). cond b (a ∷ answers_of a.line.lane xs) (answers_of a.line.lane xs)) (eq-eqb a.line.lane a.line.lane refl)

-- what holds of all answers of a lane holds of those behind the first line, whosever that is
pub answers_behind : (P : AnsweredLine → Type 0) (b : Bool) (c : ℕ) (a : AnsweredLine) (xs : List AnsweredLine) → (a.line.lane == c) ≡ b → All P (answers_of c (a ∷ xs)) → All P (answers_of c xs)
answers_behind P true c a xs is h = All-tail P a (answers_of c xs) (subst (All P) (ap (λ (b : Bool). cond b (a ∷ answers_of c xs) (answers_of c xs)) is) h)
answers_behind P false c a xs is h = subst (All P) (ap (λ (b : Bool). cond b (a ∷ answers_of c xs) (answers_of c xs)) is) h

-- Phases, one after another, extend the history that they began at.
pub phases_grow : (f : Frame) {answered : List (List AnsweredLine)} {a b : List Entry} → ArePhases (λ c. f) answered a b → StartsWith b a
phases_grow f none_left = starts-refl _
phases_grow f (one_first phase rest) = starts-trans _ _ _ (phases_grow f rest) phase.grows

-- ---- its parts

-- A caller's own entries of a grown history are those of the old one and those of the growth.
own_part : (c : ℕ) (a b : List Entry) (grows : StartsWith b a) → own_entries c b ≡ own_entries c a ++ own_entries c grows.0
own_part c a b grows = ap (own_entries c) grows.1 ∙ filter-append (λ (y : Entry). y.caller == c) a grows.0

-- The lines that a caller performed are runs in every legal history that goes on from there.
pub falls_into_runs : (f : Frame) (c : ℕ) (xs : List AnsweredLine) (a b history : List Entry) → PerformsLines f c xs a b → Legal (start f) history → StartsWith history b → FallsIntoRuns f history c xs a b
falls_into_runs f c [] a b history (rests later) legal within = record { parts = []; whole = later.own ∙ sym (append-nil (own_entries c a)); runs = tt }
falls_into_runs f c (x ∷ others) a b history (performs {h₁ = h} calls rest) legal within =
    let grows = calls_grow f c x.line.command a h x.result calls in
    let part = own_entries c grows.0 in
    let others_are = falls_into_runs f c others h b history rest legal within in
    record {
      parts = part ∷ others_are.parts;
      whole = others_are.whole ∙ ap (λ (l : List Entry). l ++ flat_map (λ (p : List Entry). p) others_are.parts) (own_part c a h grows) ∙ append_assoc (own_entries c a) part (flat_map (λ (p : List Entry). p) others_are.parts);
      runs = (
        record {
          legal = legal;
          before = a;
          after = h;
          within = starts-trans history b h within (follows_grows f c _ h b rest);
          goes = calls;
          part_is = own_part c a h grows;
        },
        others_are.runs,
      );
    }

-- ---- lines that are lost

-- An event may be tried and lost for lack of memory, with no entry.
tries_lost : (f : Frame) (c : ℕ) (e : Event) (h : List Entry) → RetriesEvent f c e h h (Err refusal.Memory)
tries_lost f c e h = RetriesEvent.cut_try (later-self c h)

-- The call on each row may be lost for lack of memory, with no entry.
abbrev Losing : List Entry → (ℕ → CallWay (Result Answer Refusal)) → Type 0
Losing h call = (i : ℕ) → call i h h (Err refusal.Memory)

-- A call on a target may be lost for lack of memory, where it may on each row.
on_row_lost : (f : Frame) (c : ℕ) (t : Target) (call : ℕ → CallWay (Result Answer Refusal)) (h : List Entry) → Losing h call → OnRow f c t call h h (Err refusal.Memory)
on_row_lost f c (target.Inc n) call h lost = record { row = Ok n; h₁ = h; finding = (refl, refl); behind = lost n }
on_row_lost f c (target.Named m) call h lost = record { row = Err refusal.Memory; h₁ = h; finding = (Err refusal.Memory, tries_lost f c _ h, refl); behind = (refl, refl) }

-- A call of one event may be lost for lack of memory.
tried_lost : (f : Frame) (c : ℕ) (e : ℕ → Event) (h : List Entry) → Losing h (CallsEvent f c e)
tried_lost f c e h i = (Err refusal.Memory, tries_lost f c (e i) h, refl)

-- A call of one event, behind whose reply something follows, may be lost for lack of memory.
tried_then_lost : (f : Frame) (c : ℕ) (e : ℕ → Event) (follow : ℕ → Reply → CallWay (Option Refusal)) (h : List Entry) → Losing h (CallsEventThen f c e follow)
tried_then_lost f c e follow h i = record { went = Err refusal.Memory; h₁ = h; end = None; tries = tries_lost f c (e i) h; follows = (refl, refl); answer = refl }

-- A call of an action may be lost for lack of memory, where its value says so.
acted_lost : (f : Frame) (c : ℕ) (k : ActKind) (value : Result ActionResult Refusal → Result Answer Refusal) (h : List Entry) → Err refusal.Memory ≡ value (Err refusal.Memory) → Losing h (CallsAction f c k value)
acted_lost f c k value h same i = (Err refusal.Memory, RunsAction.cut (later-self c h), same)

-- A shutdown may be lost for lack of memory.
shut_lost : (f : Frame) (c : ℕ) (h : List Entry) → Losing h (λ i. ComesToAnswer answer.Shut (Shuts f c false i))
shut_lost f c h i = (Some refusal.Memory, Shuts.cut_mark (later-self c h), refl)

-- A destruction may be lost for lack of memory.
destroyed_lost : (f : Frame) (c : ℕ) (h : List Entry) → Losing h (λ i. ComesToAnswer answer.Destroyed (Destroys f c i))
destroyed_lost f c h i = (Some refusal.Memory, Destroys.unshut (Shuts.cut_mark (later-self c h)), refl)

-- A check of all routes may be lost for lack of memory.
doctored_lost : (f : Frame) (c : ℕ) (h : List Entry) → Losing h (Doctors f c)
doctored_lost f c h i = Doctors.not_surveyed (tries_lost f c _ h) refl

-- A tail of the history may be lost for lack of memory.
streams_lost : (f : Frame) (c from : ℕ) (h : List Entry) → Losing h (Streams f c from)
streams_lost f c from h i = Streams.cut (later-self c h)

-- The call of each command may be lost for lack of memory, with no entry.
calls_lost : (f : Frame) (c : ℕ) (cmd : Command) (h : List Entry) → Calls f c cmd h h (Err refusal.Memory)
calls_lost f c (command.Resolve t) h = on_row_lost f c t _ h (acted_lost f c _ _ h refl)
calls_lost f c (command.Start t) h = on_row_lost f c t _ h (acted_lost f c _ _ h refl)
calls_lost f c (command.Stop t) h = on_row_lost f c t _ h (acted_lost f c _ _ h refl)
calls_lost f c (command.Shutdown t) h = on_row_lost f c t _ h (shut_lost f c h)
calls_lost f c (command.Create t coll name url gives) h = on_row_lost f c t _ h (tried_then_lost f c _ _ h)
calls_lost f c (command.Destroy t) h = on_row_lost f c t _ h (destroyed_lost f c h)
calls_lost f c (command.ListChildren t coll) h = on_row_lost f c t _ h (tried_lost f c _ h)
calls_lost f c (command.OpenUse t path) h = on_row_lost f c t _ h (tried_lost f c _ h)
calls_lost f c (command.OpenExposed t name) h = on_row_lost f c t _ h (tried_lost f c _ h)
calls_lost f c (command.RouteOf t path) h = on_row_lost f c t _ h (tried_lost f c _ h)
calls_lost f c (command.Doctor t) h = on_row_lost f c t _ h (doctored_lost f c h)
calls_lost f c (command.Show t) h = on_row_lost f c t _ h (tried_lost f c _ h)
calls_lost f c (command.Survey t) h = on_row_lost f c t _ h (tried_lost f c _ h)
calls_lost f c (command.Exited t) h = on_row_lost f c t _ h (tried_then_lost f c _ _ h)
calls_lost f c (command.Events t from) h = on_row_lost f c t _ h (streams_lost f c from h)

-- A caller may perform its own lines with no answer to any, where memory runs out.
follows_lost : (f : Frame) (c : ℕ) (lines : List Line) (h : List Entry) → PerformsLines f c (answers_of c (map no_answer lines)) h h
follows_lost f c [] h = PerformsLines.rests (later-self c h)
follows_lost f c (l ∷ ls) h = first (l.lane == c) (follows_lost f c ls h) where
  first : (b : Bool) → PerformsLines f c (answers_of c (map no_answer ls)) h h → PerformsLines f c (cond b (no_answer l ∷ answers_of c (map no_answer ls)) (answers_of c (map no_answer ls))) h h
  first true rest = PerformsLines.performs (calls_lost f c l.command h) rest
  first false rest = rest

-- A phase may be performed with no answer to any line, where memory runs out.
phase_lost : (frames : ℕ → Frame) (lines : List Line) (h : List Entry) → IsPhase frames (map no_answer lines) h h
phase_lost frames lines h = record { grows = starts-refl h; lanes = λ c lt. follows_lost (frames c) c lines h }

-- All lines may be answered as lost at any place of a history, without an entry.
pub phases_lost : (frames : ℕ → Frame) (phases : List (List Line)) (h : List Entry) → ArePhases frames (map (λ p. map no_answer p) phases) h h
phases_lost frames [] h = ArePhases.none_left
phases_lost frames (p ∷ ps) h = ArePhases.one_first (phase_lost frames p h) (phases_lost frames ps h)
