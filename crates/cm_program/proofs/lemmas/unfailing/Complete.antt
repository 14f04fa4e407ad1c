-- A run that kept its promise is complete.
use Rattle.std.proofs.Common.{◌≡◌, ◌⊎◌, inl, inr, ℕ, ◌+◌, ◌-◌, ◌^◌, ◌≤◌, min, lit≤, List, All, length, map, Option, Some, None, Ok, sym, subst, ◌∙◌, arith}
use Rattle.cm_io.specs.Doors.{DoorPlace}
use Rattle.cm_io.specs.Outside.{Rose}
use Rattle.cm_io.specs.declared.door.DoorCounts.{DoorCounts}
use Rattle.cm_io.specs.declared.sink.Sink as sink
use Rattle.cm_io.specs.declared.source.Source as source
use Rattle.cm_gate.specs.declared.asked.GateCall.{GateCall}
use Rattle.cm_call.specs.Calls.{words_of}
use Rattle.cm_call.specs.CallsInside.{IsServing}
use Rattle.cm_call.specs.declared.call.Call.TheVariants as call
use Rattle.cm_call.specs.declared.call.RunOptions.{RunOptions}
use Rattle.cm_call.specs.declared.call.ServeOptions.{ServeOptions}
use Rattle.cm_session.specs.Links.{LinkView}
use Rattle.cm_session.specs.Serving.{back_view}
use Rattle.cm_program.specs.Complete.{AreFaultless, IsDone, FailsNowhere, AnswersAll, AnswersLinks, Completes}
use Rattle.cm_program.specs.Headline.{manifests_of}
use Rattle.cm_program.specs.Promise.{Given, Came, Promise, RunsIt}
use Rattle.cm_program.specs.Run.{IsCheckStatus, IsScriptRun, IsScriptStatus, IsServeStatus, RunsAsServed}
use Rattle.cm_program.specs.Sessions.{IsSessionOf, served_frame, served_manifests}
use Rattle.cm_program.specs.Stock.{IsScriptRefusal, LoadsScript}
use Rattle.cm_program.specs.Written.{OfKnown, OfSome}
use Rattle.cm_program.specs.declared.stock.LoadedScript.{LoadedScript}
use Rattle.cm_call.specs.declared.call.Wanted.{Wanted}
use Rattle.cm_call.specs.declared.call.Wanted.TheVariants.{Summary}
use Rattle.cm_program.proofs.lemmas.lanes.OwnScript.{own_fit}
use Rattle.cm_program.proofs.lemmas.texts.Stock.{served_fit}
use Rattle.cm_program.proofs.lemmas.unfailing.Ends.{OfEnds, ends_well, history_tells_none}
use Rattle.cm_program.proofs.lemmas.unfailing.Lines.{AreFit, OfSat, by_workers, each_well, phases_well}

-- ---- what is left of the statuses

-- A script's status that isn't 3, 4 or 7 is one of a run that was done, or ran out of memory.
run_left : (status : ℕ) → IsScriptStatus status → (status ≡ 3 → ⊥) → (status ≡ 4 → ⊥) → (status ≡ 7 → ⊥) → IsDone status
run_left status (inl (inl none)) read write refused = inl none
run_left status (inl (inr (inl four))) read write refused = absurd (write four)
run_left status (inl (inr (inr six))) read write refused = inr six
run_left status (inr (inl three)) read write refused = absurd (read three)
run_left status (inr (inr seven)) read write refused = absurd (refused seven)

-- A status of a check, neither 3 nor 4, is 1 or that of a run done or out of memory.
check_left : (status : ℕ) → IsCheckStatus status → (status ≡ 3 → ⊥) → (status ≡ 4 → ⊥) → IsDone status ⊎ (status ≡ 1)
check_left status (inl none) read write = inl (inl none)
check_left status (inr (inl one)) read write = inr one
check_left status (inr (inr (inl three))) read write = absurd (read three)
check_left status (inr (inr (inr (inl four)))) read write = absurd (write four)
check_left status (inr (inr (inr (inr six)))) read write = inl (inr six)

-- The status of a script that was run, if not 4, is that of a run done or out of memory.
own_left : (status : ℕ) → IsScriptRun status → (status ≡ 4 → ⊥) → IsDone status
own_left status (inl none) write = inl none
own_left status (inr (inl four)) write = absurd (write four)
own_left status (inr (inr six)) write = inr six

-- A status of `serve` that isn't 5 is one of a run that was done, or ran out of memory.
serve_left : (status : ℕ) → IsServeStatus status → (status ≡ 5 → ⊥) → IsDone status
serve_left status (inl none) door = inl none
serve_left status (inr (inl five)) door = absurd (door five)
serve_left status (inr (inr six)) door = inr six

-- A count of zero that is zero behind didn't rise.
no_more : (n m end : ℕ) → 1 ≤ end → n ≡ 0 → m ≡ 0 → min (n + 1) end ≤ m → ⊥
no_more n m end some none gone h = grind (arith, some, none, gone, h)

-- a count of 0 that stays didn't rise
none_rose : (n m : ℕ) → n ≡ 0 → m ≡ n → Rose n m → ⊥
none_rose n m none same rose = no_more n m (2 ^ 64 - 1) (lit≤ tt) none (same ∙ none) rose

module _ {S K E D L G : Type 0}
    (as_source : source.Ghosts S) (as_out : sink.Ghosts K) (as_err : sink.Ghosts E)
    (counts_of : D → DoorCounts) (place_of : D → DoorPlace) (view : L → LinkView)
    (log_of : G → Option (List GateCall)) (faults_of : G → ℕ)
    (was : Given S K E D G) (now : Came S K E D L G) where
  -- The run kept its promise.
  abbrev Kept : Type 0
  Kept = Promise as_source as_out as_err counts_of place_of view log_of faults_of was now

  -- Neither the input nor the output nor the door failed in this run.
  abbrev MayRunOut : Type 0
  MayRunOut = FailsNowhere as_source as_out as_err counts_of place_of view log_of faults_of was now

  -- The script that is served was run, and did what is wanted of it.
  abbrev RunOf : Wanted → Option (List ℕ) → LoadedScript → Type 0
  RunOf wanted folder served = RunsIt as_source as_out as_err counts_of place_of view log_of faults_of was now wanted folder served

  -- Each line of the script that is served has its answer, and all of the text was written.
  abbrev AnswersOf : Wanted → Option (List ℕ) → LoadedScript → Type 0
  AnswersOf wanted folder served = AnswersAll as_source as_out as_err counts_of place_of view log_of faults_of was now wanted folder served

  -- A run of a script that ended with zero answered all, naming no failed gate if none failed.
  answers_all : length was.gates ≡ 16 → length now.ran.gates ≡ 16 → (wanted : Wanted) (folder : Option (List ℕ)) (served : LoadedScript) → All AreFit served.phases → now.ran.status ≡ 0 → RunOf wanted folder served → AnswersOf wanted folder served
  answers_all sixteen back wanted folder served fit none r =
      let history = now.ran.book.entries in
      record {
        runs = r;
        written = r.all none;
        had_memory = r.had_memory (inl none);
        unfailing = λ sound.
            phases_well served.frame (subst (All AreFit) (sym r.makes.lines) fit) r.makes.performed
            (ends_well served.frame history r.makes.legal r.laws.laws.outcomes
            (history_tells_none log_of faults_of (manifests_of folder served) history was.gates now.ran.gates sixteen back r.makes.callers r.work sound));
      }

  -- A run that kept its promise doesn't end as refused, where its input is a script without a fault.
  not_refused : (p : Kept) (o : RunOptions) → words_of was.words ≡ Ok (call.Run o) → AreFaultless (as_source.left was.input) → now.ran.status ≡ 7 → ⊥
  not_refused p o asks well seven =
      let refused = (p.of_run o asks).refused seven in
      well.none refused.fault (subst (OfSome (λ bytes. IsScriptRefusal bytes refused.fault)) well.known refused.faulty)

  -- A script that known bytes are, and that is run where it is served, was run.
  served_runs : (wanted : Wanted) (folder : Option (List ℕ)) (left : Option (List ℕ)) (bytes : List ℕ) (served : LoadedScript) → left ≡ Some bytes → OfKnown (RunsAsServed (RunOf wanted folder)) left → LoadsScript bytes served → RunOf wanted folder served
  served_runs wanted folder left bytes served known runs serves = subst (OfKnown (RunsAsServed (RunOf wanted folder))) known runs served serves

  -- A run of `serve` that kept its promise answered its links, naming no failed gate if none failed.
  answers_links : length was.gates ≡ 16 → (p : Kept) (o : ServeOptions) → words_of was.words ≡ Ok (call.Serve o) → IsServing o → AnswersLinks as_source as_out as_err counts_of place_of view log_of faults_of was now o
  answers_links sixteen p o asks possible =
      let serves = p.of_serve o asks in
      let s = serves.sessions in
      let history = now.ran.book.entries in
      let f = served_frame o in
      record {
        serves = serves;
        unfailing = λ sound.
            let ends : All OfEnds history = ends_well f history s.legal s.laws.laws.outcomes
            (history_tells_none log_of faults_of (served_manifests o) history was.gates now.ran.gates sixteen p.gates s.callers s.work sound) in
            by_workers OfSat (λ b t. IsSessionOf view now.ran.status b.link t) o.workers (map (back_view view) now.ran.links) s.sats s.each s.workers_are
            (λ k lt. each_well f k (s.entries k (let most : o.workers ≤ 16 = possible.workers in omega (arith, lt, most))) ends);
      }

  -- A run of sixteen gates that kept its promise is complete.
  pub complete : Completes as_source as_out as_err counts_of place_of view log_of faults_of was now
  complete sixteen p = record {
    run = λ o asks well sound. run_left now.ran.status (p.of_run o asks).status (λ is. sound.input (p.read is)) (λ is. sound.out (p.write is)) (not_refused p o asks well);
    check = λ asks sound. check_left now.ran.status (p.of_check asks).status (λ is. sound.input (p.read is)) (λ is. sound.out (p.write is));
    audit = λ asks sound. check_left now.ran.status (p.of_audit asks).status (λ is. sound.input (p.read is)) (λ is. sound.out (p.write is));
    generate = λ w asks sound. own_left now.ran.status (p.of_generate w asks).status (λ is. sound.out (p.write is));
    serve = λ o asks sound. serve_left now.ran.status (p.of_serve o asks).status (λ is. sound.door (p.door is));
    read_out = λ o asks none. (p.of_run o asks).read_out none;
    checked_out = λ asks none. (p.of_check asks).read_out none;
    audited_out = λ asks none. (p.of_audit asks).read_out none;
    lines = λ o asks none bytes served known serves.
        answers_all sixteen p.gates o.wanted o.repository served (served_fit bytes served serves) none
        (served_runs o.wanted o.repository (as_source.left was.input) bytes served known ((p.of_run o asks).headline (inl none)) serves);
    own_lines = λ w asks none.
        let own = (p.of_generate w asks).runs in
        let is = own.is_served (inl none) in
        (is.0, answers_all sixteen p.gates (Summary w.size) None is.0 (own_fit w.seed w.size is.0 is.1) none (own.runs is.0 is.1));
    links = λ o asks possible. answers_links sixteen p o asks possible;
    quiet = λ never new. none_rose (as_source.faults was.input) (as_source.faults now.input) new (p.quiet never);
    quiet_gates = λ never k g h at back. none_rose (faults_of g) (faults_of h) (never g) (never h ∙ sym (never g));
  }
