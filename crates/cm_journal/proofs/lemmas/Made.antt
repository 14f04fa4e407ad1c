-- Which events runs make: from history to history, all events of the caller are asked by its commands.
use Rattle.std.proofs.Common.{◌≡◌, ℕ, ◌<◌, List, [], ◌∷◌, Bool, true, false, cond, ◌==◌, Option, Result, Ok, Err, All, refl, sym, ap, subst, arith}
use Rattle.std.proofs.lemmas.List.Elements.{All-cons, All-append, All-nil, All-head, All-tail, All-filter}
use Rattle.cm_world.specs.declared.action.ActKind.{ActKind}
use Rattle.cm_world.specs.declared.answer.Answer.{Answer}
use Rattle.cm_world.specs.declared.answer.Checked.{Checked}
use Rattle.cm_world.specs.declared.answer.Refusal.{Refusal}
use Rattle.cm_world.specs.declared.answer.Refusal.TheVariants as refusal
use Rattle.cm_world.specs.declared.event.Event.{Event}
use Rattle.cm_world.specs.declared.event.Event.TheVariants as event
use Rattle.cm_world.specs.declared.event.Target.{Target}
use Rattle.cm_world.specs.declared.event.Target.TheVariants as target
use Rattle.cm_world.specs.declared.frame.Frame.{Frame}
use Rattle.cm_world.specs.declared.reply.Entry.{Entry}
use Rattle.cm_world.specs.declared.reply.Reply.{Reply}
use Rattle.cm_world.specs.declared.reply.Reply.TheVariants as reply
use Rattle.cm_world.specs.declared.report.SurveyRow.{SurveyRow}
use Rattle.cm_world.specs.Create.{child_with}
use Rattle.cm_command.specs.Written.{IsTarget}
use Rattle.cm_command.specs.WrittenInside.{IsWritable}
use Rattle.cm_command.specs.declared.command.Command.{Command}
use Rattle.cm_command.specs.declared.command.Command.TheVariants as command
use Rattle.cm_answers.specs.declared.acted.ActionResult.{ActionResult}
use Rattle.cm_manager.specs.Turns.{own_entries, IsLaterHistory, AddsOneEntry, EndsWithoutEntry}
use Rattle.cm_manager.specs.Runs.{RunsAction, ended, started, started_cut, stopped, stopped_cut, joined, quiet, resolved_first, not_resolved, cut, StartsEager, all_done, next_one, cut_at, RetriesEvent, decided, needs, failed, cut_try, StartsSingleRun}
use Rattle.cm_manager.specs.Sweeps.{Stops, Removes, Clears, Sweeps}
use Rattle.cm_manager.specs.Shutdowns.{Shuts, Destroys}
use Rattle.cm_manager.specs.Doctor.{Checks, GathersEach, OfPath, OfRow, Doctors}
use Rattle.cm_manager.specs.Streams.{Streams}
use Rattle.cm_manager.specs.Calls.{CallWay, Finding, GoesOnWithRow, OnRow, CallsEvent, Nothing, Then, CallsEventThen, OnceCreated, SweptLeft, CallsAction, Calls}
use Rattle.cm_manager.proofs.lemmas.left.Closing.{makes-own}
use Rattle.cm_lanes.specs.Script.{AnsweredLine, PerformsLines, rests, performs, ArePhases, none_left, one_first}
use Rattle.cm_journal.specs.Made.{IsSayable, AreWritable, PhasesMakeAsked}

-- What the event of the entry has from its command can be told.
abbrev OfAsked : Entry → Type 0
OfAsked e = IsSayable e.event

module _ (f : Frame) (c : ℕ) where
  -- all events of this caller are asked
  abbrev Own : List Entry → Type 0
  Own h = All OfAsked (own_entries c h)

  -- A caller's own events can be told in a later history, where they can in the earlier one.
  later : (a b : List Entry) → IsLaterHistory c a b → Own a → Own b
  later a b l h = subst (All OfAsked) (sym l.own) h

  -- Behind an entry whose event can be told, a caller's own events can be told.
  makes : (a b : List Entry) (e : Event) (r : Reply) → IsSayable e → AddsOneEntry c a e r b → Own a → Own b
  makes a b e r asked m h =
      let x : Entry = record { caller = c; event = e; reply = r } in
      subst (All OfAsked) (sym (makes-own c a b e r m).1) (All-append OfAsked (own_entries c a) (x ∷ []) h (All-cons OfAsked x [] asked (All-nil OfAsked)))

  -- Behind a turn that adds no entry and ends the call, a caller's own events can be told.
  cuts : (a b : List Entry) (e : Event) (x : Refusal) → EndsWithoutEntry f c a e b x → Own a → Own b
  cuts a b e refusal.Memory is h = later a b is h
  cuts a b e refusal.HistoryFull is h = later a b is.0 h
  cuts a b e _ is h = absurd is

  -- Behind the stops of a target and all below it, a caller's own events can be told.
  stops : (t : ℕ) {a b : List Entry} {end : Option Refusal} → Stops f c t a b end → Own a → Own b
  stops t (Stops.all_shut asks) h = makes _ _ _ _ tt asks.made h
  stops t (Stops.was_off asks rest) h = stops t rest (makes _ _ _ _ tt asks.made h)
  stops t (Stops.was_on asks end rest) h = stops t rest (makes _ _ _ _ tt end (makes _ _ _ _ tt asks.made h))
  stops t (Stops.cut_pick {x = x} is) h = cuts _ _ (event.Pick t) x is h

  -- Behind the removal of a row, a caller's own events can be told.
  removes : (i : ℕ) {a b : List Entry} {end : Option Refusal} → Removes f c i a b end → Own a → Own b
  removes i (Removes.removed s asks) h = makes _ _ _ _ tt asks.made (stops i s h)
  removes i (Removes.cut_remove {x = x} s is) h = cuts _ _ (event.Purge i) x is (stops i s h)
  removes i (Removes.not_stopped s) h = stops i s h

  -- Behind the removals of rows in order, a caller's own events can be told.
  clears : {is : List ℕ} {a b : List Entry} {end : Option Refusal} → Clears f c is a b end → Own a → Own b
  clears Clears.none_left h = h
  clears (Clears.next_row one rest) h = clears rest (removes _ one h)
  clears (Clears.cut_row one) h = removes _ one h

  -- Behind the sweep of a row, a caller's own events can be told.
  sweeps : (i : ℕ) {a b : List Entry} {end : Option Refusal} → Sweeps f c i a b end → Own a → Own b
  sweeps i (Sweeps.swept asks rest) h = clears rest (makes _ _ _ _ tt asks.made h)
  sweeps i (Sweeps.cut_reap {x = x} is) h = cuts _ _ (event.Reap i) x is h

  mutual
    -- Behind an action on a row, a caller's own events can be told.
    acts : {k : ActKind} {i : ℕ} {a b : List Entry} {went : Result ActionResult Refusal} → RunsAction f c k i a b went → Own a → Own b
    acts (ended asks end other) h = makes _ _ _ _ tt end (makes _ _ _ _ tt asks.made h)
    acts (started asks end rest) h = eagers rest (makes _ _ _ _ tt end (makes _ _ _ _ tt asks.made h))
    acts (started_cut asks end rest) h = eagers rest (makes _ _ _ _ tt end (makes _ _ _ _ tt asks.made h))
    acts (stopped asks end is rest) h = sweeps _ rest (makes _ _ _ _ tt end (makes _ _ _ _ tt asks.made h))
    acts (stopped_cut asks end is rest) h = sweeps _ rest (makes _ _ _ _ tt end (makes _ _ _ _ tt asks.made h))
    acts (joined asks end) h = makes _ _ _ _ tt end (makes _ _ _ _ tt asks.made h)
    acts (quiet asks is) h = makes _ _ _ _ tt asks.made h
    acts (resolved_first asks one fine rest) h = acts rest (acts one (makes _ _ _ _ tt asks.made h))
    acts (not_resolved asks one fails) h = acts one (makes _ _ _ _ tt asks.made h)
    acts (cut {k = k} {i = i} {x = x} is) h = cuts _ _ (event.Begin k i) x is h

    -- Behind the starts of eager children, a caller's own events can be told.
    eagers : {es : List ℕ} {a b : List Entry} {end : Option Refusal} → StartsEager f c es a b end → Own a → Own b
    eagers all_done h = h
    eagers (next_one act fine rest) h = eagers rest (acts act h)
    eagers (cut_at act is) h = acts act h

  -- Behind an event that can be told and is tried, a caller's own events can be told.
  tries : (e : Event) {a b : List Entry} {end : Result Reply Refusal} → IsSayable e → RetriesEvent f c e a b end → Own a → Own b
  tries e asked (decided asks is) h = makes _ _ _ _ asked asks.made h
  tries e asked (needs asks is act fine again) h = tries e asked again (acts act (makes _ _ _ _ asked asks.made h))
  tries e asked (failed asks is act fails) h = acts act (makes _ _ _ _ asked asks.made h)
  tries e asked (cut_try {x = x} is) h = cuts _ _ e x is h

  -- Behind a shutdown of a row, a caller's own events can be told.
  shuts : (doom : Bool) (i : ℕ) {a b : List Entry} {end : Option Refusal} → Shuts f c doom i a b end → Own a → Own b
  shuts doom i (Shuts.marked asks is rest) h = stops i rest (makes _ _ _ _ tt asks.made h)
  shuts doom i (Shuts.refused asks is) h = makes _ _ _ _ tt asks.made h
  shuts doom i (Shuts.cut_mark {x = x} is) h = cuts _ _ (event.Mark doom i) x is h

  -- Behind the destruction of a row, a caller's own events can be told.
  destroys : (i : ℕ) {a b : List Entry} {end : Option Refusal} → Destroys f c i a b end → Own a → Own b
  destroys i (Destroys.purged s asks) h = makes _ _ _ _ tt asks.made (shuts true i s h)
  destroys i (Destroys.cut_purge {x = x} s is) h = cuts _ _ (event.Purge i) x is (shuts true i s h)
  destroys i (Destroys.unshut s) h = shuts true i s h

  -- ---- calls

  -- The call on a row leaves a caller's own events such that they can be told.
  abbrev Keeping : {A : Type 0} → (ℕ → List Entry → List Entry → A → Type 0) → Type 0
  Keeping {A} call = (i : ℕ) (a b : List Entry) (r : A) → call i a b r → Own a → Own b

  -- Behind the find of a proper target, a caller's own events can be told.
  finding : (t : Target) (a b : List Entry) (row : Result ℕ Refusal) → IsTarget t → Finding f c t a b row → Own a → Own b
  finding (target.Inc n) a b row small is h = subst Own (sym is.0) h
  finding (target.Named m) a b row small is h = tries (event.Find m) small is.1 h

  -- Behind a call that goes on with a row, or not, a caller's own events can be told.
  behind : (row : Result ℕ Refusal) (call : ℕ → CallWay (Result Answer Refusal)) (a b : List Entry) (r : Result Answer Refusal) → Keeping call → GoesOnWithRow row call a b r → Own a → Own b
  behind (Ok i) call a b r keeps is h = keeps i a b r is h
  behind (Err x) call a b r keeps is h = subst Own (sym is.0) h

  -- Behind a call on a proper target, a caller's own events can be told.
  on_row : (t : Target) (call : ℕ → CallWay (Result Answer Refusal)) (a b : List Entry) (r : Result Answer Refusal) → IsTarget t → Keeping call → OnRow f c t call a b r → Own a → Own b
  on_row t call a b r small keeps is h = behind is.row call is.h₁ b r keeps is.behind (finding t a is.h₁ is.row small is.finding h)

  -- Behind a call of one event that can be told, a caller's own events can be told.
  tried : (e : ℕ → Event) → ((i : ℕ) → IsSayable (e i)) → Keeping (CallsEvent f c e)
  tried e asked i a b r is h = tries (e i) (asked i) is.1 h

  -- Where nothing follows, a caller's own events can be told as before.
  nothing : (a b : List Entry) (end : Option Refusal) → Nothing a b end → Own a → Own b
  nothing a b end is h = subst Own (sym is.0) h

  -- Behind the start of a child that runs once, a caller's own events can be told.
  onces : (i : ℕ) {a b : List Entry} {end : Option Refusal} → StartsSingleRun f c i a b end → Own a → Own b
  onces i (StartsSingleRun.not_once l is) h = later _ _ l h
  onces i (StartsSingleRun.once l is act) h = acts act (later _ _ l h)

  -- Behind what follows a creation, a caller's own events can be told.
  created : (i : ℕ) (r : Reply) (a b : List Entry) (end : Option Refusal) → OnceCreated f c i r a b end → Own a → Own b
  created i (reply.Created j) a b end is h = onces j is h
  created i _ a b end is h = nothing a b end is h

  -- Behind what follows an exit, a caller's own events can be told.
  left : (i : ℕ) (r : Reply) (a b : List Entry) (end : Option Refusal) → SweptLeft f c i r a b end → Own a → Own b
  left i (reply.Left m) a b end is h = sweeps i is h
  left i _ a b end is h = nothing a b end is h

  -- Behind what follows a reply, if anything, a caller's own events can be told.
  then : (follow : ℕ → Reply → CallWay (Option Refusal)) (i : ℕ) (went : Result Reply Refusal) (a b : List Entry) (end : Option Refusal) → ((i : ℕ) (r : Reply) (a b : List Entry) (end : Option Refusal) → follow i r a b end → Own a → Own b) → Then (follow i) went a b end → Own a → Own b
  then follow i (Ok r) a b end keeps is h = keeps i r a b end is h
  then follow i (Err x) a b end keeps is h = nothing a b end is h

  -- Behind a call of one event and what follows its reply, a caller's own events can be told.
  tried_then : (e : ℕ → Event) (follow : ℕ → Reply → CallWay (Option Refusal)) → ((i : ℕ) → IsSayable (e i)) → ((i : ℕ) (r : Reply) (a b : List Entry) (end : Option Refusal) → follow i r a b end → Own a → Own b) → Keeping (CallsEventThen f c e follow)
  tried_then e follow asked keeps i a b r is h = then follow i is.went is.h₁ b is.end keeps is.follows (tries (e i) (asked i) is.tries h)

  -- Behind a call of an action, a caller's own events can be told.
  acted : (k : ActKind) (value : Result ActionResult Refusal → Result Answer Refusal) → Keeping (CallsAction f c k value)
  acted k value i a b r is h = acts is.1 h

  -- Behind items that are checked in order, a caller's own events can be told.
  each : {A : Type 0} (Item : A → Checks) → ((x : A) (a b : List Entry) (end : Result (List Checked) Refusal) → Item x a b end → Own a → Own b) → {xs : List A} {a b : List Entry} {end : Result (List Checked) Refusal} → GathersEach Item xs a b end → Own a → Own b
  each Item keeps GathersEach.no_item h = h
  each Item keeps (GathersEach.next_item item rest) h = each Item keeps rest (keeps _ _ _ _ item h)
  each Item keeps (GathersEach.cut_item item) h = keeps _ _ _ _ item h
  each Item keeps (GathersEach.lost_item item) h = keeps _ _ _ _ item h

  -- Behind the check of a row's routes, a caller's own events can be told.
  of_row : (row : SurveyRow) (a b : List Entry) (end : Result (List Checked) Refusal) → OfRow f c row a b end → Own a → Own b
  of_row row a b end (OfRow.unresolved is) h = h
  of_row row a b end (OfRow.resolved is paths) h = each (OfPath f c row) (λ p a b end way h. tries (event.Route row.inc p) tt way.1 h) paths h

  -- Behind a check of all routes, a caller's own events can be told.
  doctors : Keeping (Doctors f c)
  doctors i a b r (Doctors.surveyed survey is rows) h = each (OfRow f c) of_row rows (tries (event.Survey i) tt survey h)
  doctors i a b r (Doctors.not_surveyed survey is) h = tries (event.Survey i) tt survey h

  -- Behind a tail of the history, a caller's own events can be told.
  streams : (from : ℕ) → Keeping (Streams f c from)
  streams from i a b r (Streams.told asks) h = makes _ _ _ _ tt asks.made h
  streams from i a b r (Streams.cut {x = x} is) h = cuts _ _ (event.Tail i from) x is h

  -- Behind the call of a command that can be written, a caller's own events can be told.
  calls : (cmd : Command) (a b : List Entry) (r : Result Answer Refusal) → IsWritable cmd → Calls f c cmd a b r → Own a → Own b
  calls (command.Resolve t) a b r w is h = on_row t _ a b r w (acted _ _) is h
  calls (command.Start t) a b r w is h = on_row t _ a b r w (acted _ _) is h
  calls (command.Stop t) a b r w is h = on_row t _ a b r w (acted _ _) is h
  calls (command.Shutdown t) a b r w is h = on_row t _ a b r w (λ i a b r is h. shuts false i is.1 h) is h
  calls (command.Create t coll name url gives) a b r w is h =
      on_row t _ a b r w.0 (tried_then (λ p. event.Create p (child_with coll name url gives)) _ (λ i. (w.1, w.2, w.3, w.4)) created) is h
  calls (command.Destroy t) a b r w is h = on_row t _ a b r w (λ i a b r is h. destroys i is.1 h) is h
  calls (command.ListChildren t coll) a b r w is h = on_row t _ a b r w.0 (tried (λ i. event.Listing i coll) (λ i. tt)) is h
  calls (command.OpenUse t path) a b r w is h = on_row t _ a b r w.0 (tried (λ i. event.OpenUse i path) (λ i. tt)) is h
  calls (command.OpenExposed t name) a b r w is h = on_row t _ a b r w.0 (tried (λ i. event.OpenExposed i name) (λ i. tt)) is h
  calls (command.RouteOf t path) a b r w is h = on_row t _ a b r w.0 (tried (λ i. event.Route i path) (λ i. tt)) is h
  calls (command.Doctor t) a b r w is h = on_row t _ a b r w doctors is h
  calls (command.Show t) a b r w is h = on_row t _ a b r w (tried event.Show (λ i. tt)) is h
  calls (command.Survey t) a b r w is h = on_row t _ a b r w (tried event.Survey (λ i. tt)) is h
  calls (command.Exited t) a b r w is h = on_row t _ a b r w (tried_then event.Exited _ (λ i. tt) left) is h
  calls (command.Events t from) a b r w is h = on_row t _ a b r w.0 (streams from) is h

  -- The commands of all these answered lines can be written.
  abbrev Writable : List AnsweredLine → Type 0
  Writable xs = All (λ (x : AnsweredLine). IsWritable x.line.command) xs

  -- Behind a caller's own lines whose commands can be written, its own events can be told.
  follows : {xs : List AnsweredLine} {a b : List Entry} → Writable xs → PerformsLines f c xs a b → Own a → Own b
  follows w (rests l) h = later _ _ l h
  follows w (performs {a = x} {others = xs} call rest) h =
      follows (All-tail (λ (x : AnsweredLine). IsWritable x.line.command) x xs w) rest (calls x.line.command _ _ _ (All-head (λ (x : AnsweredLine). IsWritable x.line.command) x xs w) call h)

-- ---- all lanes

-- Behind phases whose commands can be written, each of the sixteen's own events can be told.
phases : (f : Frame) {answered : List (List AnsweredLine)} {a b : List Entry} → AreWritable answered → ArePhases (λ c. f) answered a b → (c : ℕ) → c < 16 → Own f c a → Own f c b
phases f w none_left c small h = h
phases f w (one_first {answered = xs} {others = others} phase rest) c small h =
    phases f (All-tail (λ (xs : List AnsweredLine). Writable f c xs) xs others w) rest c small
    (follows f c (All-filter (λ (a : AnsweredLine). a.line.lane == c) (λ (x : AnsweredLine). IsWritable x.line.command) xs (All-head (λ (xs : List AnsweredLine). Writable f c xs) xs others w)) (phase.lanes c small) h)

-- A caller's own entries with one of its own in front are that one and the others.
own_of : (c : ℕ) (e : Entry) (es : List Entry) → e.caller ≡ c → own_entries c (e ∷ es) ≡ e ∷ own_entries c es
own_of c e es same = ap (λ (b : Bool). cond b (e ∷ own_entries c es) (own_entries c es)) (here e.caller same)
  where
    here : (n : ℕ) → n ≡ c → (n == c) ≡ true
    here n same = grind (arith, same)

module _ (P : Entry → Type 0) where
  -- What holds of a caller's own entries holds of them without the first entry of all.
  other_of : (b : Bool) (c : ℕ) (e : Entry) (es : List Entry) → (e.caller == c) ≡ b → All P (own_entries c (e ∷ es)) → All P (own_entries c es)
  other_of true c e es is h = All-tail P e (own_entries c es) (subst (All P) (ap (λ (b : Bool). cond b (e ∷ own_entries c es) (own_entries c es)) is) h)
  other_of false c e es is h = subst (All P) (ap (λ (b : Bool). cond b (e ∷ own_entries c es) (own_entries c es)) is) h

  -- what holds of the entries of each caller holds of all, where there are no others
  pub of_all_by : (es : List Entry) → All (λ (e : Entry). e.caller < 16) es → ((c : ℕ) → c < 16 → All P (own_entries c es)) → All P es
  of_all_by [] few each = All-nil P
  of_all_by (e ∷ es) few each =
      let small : e.caller < 16 = All-head (λ (x : Entry). x.caller < 16) e es few in
      All-cons P e es (All-head P e (own_entries e.caller es) (subst (All P) (own_of e.caller e es refl) (each e.caller small)))
      (of_all_by es (All-tail (λ (x : Entry). x.caller < 16) e es few) (λ c lt. other_of (e.caller == c) c e es refl (each c lt)))

-- In what lanes make of lines that can be written, all events can be told.
pub phases_make_asked : PhasesMakeAsked
phases_make_asked f answered history w is few = of_all_by OfAsked history few (λ c small. phases f w is c small (All-nil OfAsked))
