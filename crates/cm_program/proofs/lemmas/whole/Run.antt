-- What a run of a script promises, from what its parts did.
use Rattle.std.proofs.Common.{◌≡◌, ◌≢◌, ◌⊎◌, inl, inr, ℕ, ◌<◌, ◌≤◌, List, [], ◌++◌, All, map, flat_map, length, Option, Some, None, IfSome, Ok, Err, refl, sym, ap, subst, ◌∙◌}
use Rattle.cm_facts.proofs.Options.{Ok_same}
use Rattle.cm_turn.specs.Passes.{LockView, new_passes}
use Rattle.cm_world.specs.declared.answer.Refusal.TheVariants as refusal
use Rattle.cm_world.specs.declared.frame.Frame.{Frame}
use Rattle.cm_world.specs.declared.reply.Entry.{Entry}
use Rattle.cm_world.specs.World.{start}
use Rattle.cm_world.specs.Legal.{Legal}
use Rattle.cm_book.specs.History.{History}
use Rattle.cm_laws.specs.Story.{Story}
use Rattle.cm_cache.specs.Keeping.{IsKeptNumber}
use Rattle.cm_command.specs.declared.script.Line.{Line}
use Rattle.cm_command.specs.declared.script.Script.{Script}
use Rattle.cm_gate.specs.declared.asked.GateCall.{GateCall}
use Rattle.cm_reply.specs.Journal.{header_text, journal_text}
use Rattle.cm_audit.specs.Verdict.{IsLegalJournal, journal_limit}
use Rattle.cm_typed.specs.Typed.{IsTypedEntry}
use Rattle.cm_journal.specs.Prefix.{said_text}
use Rattle.cm_journal.specs.Legible.{IsWritableRun}
use Rattle.cm_journal.proofs.lemmas.Brought.{works_bring_all}
use Rattle.cm_journal.proofs.lemmas.Runs.{runs_write}
use Rattle.cm_manager.specs.Turns.{own_entries}
use Rattle.cm_manager.specs.Asking.{no_frame}
use Rattle.cm_manager.specs.Closed.{HasEnds}
use Rattle.cm_manager.specs.Contract.{RealmPass}
use Rattle.cm_manager.specs.Managers.{BearsPassesOut}
use Rattle.cm_manager.specs.Work.{Manifests}
use Rattle.cm_lanes.specs.declared.said.Said.{Said}
use Rattle.cm_lanes.specs.declared.said.Lanes.{Lanes}
use Rattle.cm_lanes.specs.Script.{AnsweredLine, answered_lines}
use Rattle.cm_lanes.specs.ScriptInside.{IsFit, said_of}
use Rattle.cm_manager.specs.Kept.{AreSixteen}
use Rattle.cm_lanes.specs.Lanes.{RanOrNot}
use Rattle.cm_program.specs.Headline.{EndsWell, IsHistory, RunsScript, manifests_of}
use Rattle.cm_program.specs.Performing.{RunsPhases}
use Rattle.cm_program.specs.Audited.{IsLegibleServed, MayTell}
use Rattle.cm_program.specs.Printed.{journal_of, line_text, phases_text, summary_text, wanted_text}
use Rattle.cm_program.specs.PrintedInside.{IsPrinted, printed_text, texts_of}
use Rattle.cm_program.specs.Reported.{IsReport}
use Rattle.cm_program.proofs.lemmas.whole.Reporting.{report_ends}
use Rattle.cm_call.specs.Calls.{words_of}
use Rattle.cm_program.specs.Run.{AsksScript, IsFaulty, IsScriptRun, RunsAsServed, RunsOwn, RunsSome}
use Rattle.cm_program.specs.Stock.{IsScriptRefusal, LoadsScript, served_script}
use Rattle.cm_program.specs.Written.{AppendsPrefix, OfKnown, OfSome}
use Rattle.cm_call.specs.declared.call.Call.TheVariants as call
use Rattle.cm_call.specs.declared.call.RunOptions.{RunOptions}
use Rattle.cm_call.specs.declared.call.Workload.{Workload}
use Rattle.cm_program.specs.declared.fault.ScriptRefusal.{ScriptRefusal}
use Rattle.cm_program.specs.declared.performing.LanesResult.{LanesResult}
use Rattle.cm_program.specs.declared.stock.LoadedScript.{LoadedScript}
use Rattle.cm_call.specs.declared.call.Wanted.{Wanted}
use Rattle.cm_call.specs.declared.call.Wanted.TheVariants.{Answers, Summary, Environments, Storage}
use Rattle.cm_program.proofs.lemmas.whole.Nothing.{ends_well, nothing_ends, nothing_kept, nothing_legal, works_nothing}
use Rattle.cm_program.proofs.lemmas.lanes.Histories.{some_of, makes_by, works_by, frame_by, frame_same, nothing_happened, legal_nothing}
use Rattle.cm_program.proofs.lemmas.lanes.Printing.{texts_all, results_all, no_want_all, nothing_written, prefix_of_nothing}
use Rattle.cm_program.proofs.lemmas.texts.ScriptLaws.{served_are_not_refused_lem, bytes_ask_for_one_lem}
use Rattle.cm_program.proofs.lemmas.lanes.Wanting.{all_wanting, makes_nothing}

-- bytes that are served aren't faulty, so that all may be said of those that are
pub not_faulty : (P : Type 0) (left : Option (List ℕ)) (served : LoadedScript) → OfKnown (λ bytes. LoadsScript bytes served) left → OfKnown (λ bytes. IsFaulty bytes → P) left
not_faulty P None served h = tt
not_faulty P (Some bytes) served h = λ faulty. absurd (served_are_not_refused_lem bytes served h faulty)

-- what holds of some bytes holds of those that are known
pub known_of_some : (P : List ℕ → Type 0) (left : Option (List ℕ)) → OfSome P left → OfKnown P left
known_of_some P None some = tt
known_of_some P (Some bytes) is = is

-- what holds of a run holds of faulty bytes
pub of_faulty : (P : Type 0) (left : Option (List ℕ)) → P → OfKnown (λ bytes. IsFaulty bytes → P) left
of_faulty P None is = tt
of_faulty P (Some bytes) is = λ faulty. is

-- what holds of the script that was served holds of whichever the bytes are, since they are served in one way
pub as_served : (P : LoadedScript → Type 0) (left : Option (List ℕ)) (served : LoadedScript) → OfKnown (λ bytes. LoadsScript bytes served) left → P served → OfKnown (RunsAsServed P) left
as_served P None served known is = tt
as_served P (Some bytes) served known is = λ other serves. subst P (bytes_ask_for_one_lem bytes served other known serves) is

-- ---- runs

-- a run that made no realm leaves a history all the same
pub empty_history : (history : List Entry) → history ≡ [] → IsHistory history
empty_history history none =
    let legal = subst (Legal (start no_frame)) (sym none) (nothing_legal no_frame) in
    record { frame = no_frame; legal = legal; laws = ends_well no_frame history legal (nothing_ends history none) }

-- A status that is six is neither zero nor four.
not_six : (status : ℕ) → status ≡ 6 → (status ≡ 0) ⊎ (status ≡ 4) → ⊥
not_six status is (inl none) = absurd (cc (is, none))
not_six status is (inr four) = absurd (cc (is, four))

-- the number is that of the same history from the same frame
kept_by : (f : Frame) (history : List Entry) (n : ℕ) (realm : Story) → realm.frame ≡ f → history ≡ realm.entries → IsKeptNumber realm.frame realm.entries n → IsKeptNumber f history n
kept_by f history n realm framed same kept =
    subst (λ (g : Frame). IsKeptNumber g history n) framed (subst (λ (l : List Entry). IsKeptNumber realm.frame l n) (sym same) kept)

-- the texts of the answers, by two names
said_same : (answered : List (List AnsweredLine)) → phases_text answered ≡ said_text answered
unfolding line_text
said_same answered = refl

module _ {G : Type 0} (log_of : G → Option (List GateCall)) (faults_of : G → ℕ) where
  -- the history of a script's run
  pub history_of : (wanted : Wanted) (folder : Option (List ℕ)) (served : LoadedScript) (gates₀ gates₁ : List G) (history : List Entry) (status : ℕ) (old new : Option (List ℕ)) → RunsScript log_of faults_of wanted folder served gates₀ gates₁ history status old new → IsHistory history
  history_of wanted folder served gates₀ gates₁ history status old new runs = record { frame = served.frame; legal = runs.makes.legal; laws = runs.laws }

  -- a realm that was made and closed without a manager
  pub performs_nothing : (manifests : Manifests) (realm : Story) (phases : List (List Line)) (gates : List G) (made : Story) (done : LanesResult G) → realm.entries ≡ [] → made ≡ realm
      → done.book.entries ≡ made.entries → IsKeptNumber made.frame made.entries done.kept → done.gates ≡ gates → done.said ≡ None → RunsPhases log_of faults_of manifests realm.frame phases gates done
  performs_nothing manifests realm phases gates made done empty is same kept gated unsaid =
      let none : done.book.entries ≡ [] = same ∙ ap (λ (s : Story). s.entries) is ∙ empty in
      record {
        answered = all_wanting phases;
        makes = makes_nothing realm.frame phases done.book.entries none (subst (Legal (start realm.frame)) (sym none) (nothing_legal realm.frame));
        ends = nothing_ends done.book.entries none;
        kept = kept_by realm.frame done.book.entries done.kept made (ap (λ (s : Story). s.frame) is) same kept;
        work = works_nothing log_of faults_of manifests done.book.entries gates done.gates none gated;
        said = subst (λ (o : Option (List Said)). IfSome o (λ said. said ≡ flat_map (λ phase. map said_of phase) (all_wanting phases))) (sym unsaid) tt;
      }

  -- lanes that ran, or did nothing
  performs_ran : (manifests : Manifests) (turn : LockView) (f : Frame) (phases : List (List Line)) (passes : List RealmPass) (gates : List G) (back : Lanes G) (realm : Story) (n : ℕ) → passes ≡ new_passes turn.lock f 16 → length gates ≡ 16 → AreSixteen turn back.passes → BearsPassesOut realm.entries back.passes → HasEnds realm.entries
      → All (λ (p : RealmPass). p.frame ≡ Some realm.frame) back.passes → IsKeptNumber realm.frame realm.entries n → RanOrNot log_of faults_of manifests phases passes gates back
      → (book : History) (report : Option (List ℕ)) → book.entries ≡ realm.entries → RunsPhases log_of faults_of manifests f phases gates (record { book = book; kept = n; report = report; gates = back.gates; said = back.said })
  performs_ran manifests turn f phases passes gates back realm n new count are closed ended framed kept (inl ran) book report same = record {
    answered = ran.answered;
    makes = makes_by log_of faults_of manifests turn f phases passes gates back book.entries new count are closes ran;
    ends = ends;
    kept = kept_by f book.entries n realm (frame_by log_of faults_of manifests turn f phases passes gates back book.entries new count are closes ran realm.frame framed) same kept;
    work = works_by log_of faults_of manifests turn f phases passes gates back book.entries new count are closes ran;
    said = ran.said;
  }
    where
      closes : BearsPassesOut book.entries back.passes
      closes = subst (λ (l : List Entry). BearsPassesOut l back.passes) (sym same) closed

      ends : HasEnds book.entries
      ends = subst HasEnds (sym same) ended
  performs_ran manifests turn f phases passes gates back realm n new count are closed ended framed kept (inr un) book report same =
      let closes = subst (λ (l : List Entry). BearsPassesOut l back.passes) (sym same) closed in
      let none = nothing_happened log_of faults_of manifests turn f phases passes gates back book.entries new count are closes un.same_passes in
      record {
        answered = all_wanting phases;
        makes = makes_nothing f phases book.entries none (legal_nothing log_of faults_of manifests turn f phases passes gates back book.entries new count are closes un.same_passes);
        ends = subst HasEnds (sym same) ended;
        kept = kept_by f book.entries n realm (frame_same log_of faults_of manifests turn f phases passes gates back book.entries new count are closes un.same_passes realm.frame framed) same kept;
        work = works_nothing log_of faults_of manifests book.entries gates back.gates none un.same_gates;
        said = subst (λ (o : Option (List Said)). IfSome o (λ said. said ≡ flat_map (λ phase. map said_of phase) (all_wanting phases))) (sym un.nothing) tt;
      }

  -- the same of what is handed back, by the realm that was closed
  pub performs_by : (manifests : Manifests) (turn : LockView) (f : Frame) (phases : List (List Line)) (passes : List RealmPass) (gates : List G) (back : Lanes G) (realm : Story) (done : LanesResult G) → passes ≡ new_passes turn.lock f 16 → length gates ≡ 16 → AreSixteen turn back.passes → BearsPassesOut realm.entries back.passes → HasEnds realm.entries
      → All (λ (p : RealmPass). p.frame ≡ Some realm.frame) back.passes → IsKeptNumber realm.frame realm.entries done.kept → RanOrNot log_of faults_of manifests phases passes gates back
      → done.book.entries ≡ realm.entries → done.gates ≡ back.gates → done.said ≡ back.said → RunsPhases log_of faults_of manifests f phases gates done
  performs_by manifests turn f phases passes gates back realm done new count are closed ended framed kept ran same gated told =
      subst (λ (o : Option (List Said)). RunsPhases log_of faults_of manifests f phases gates (record { book = done.book; kept = done.kept; report = done.report; gates = done.gates; said = o })) (sym told)
      (subst (λ (gs : List G). RunsPhases log_of faults_of manifests f phases gates (record { book = done.book; kept = done.kept; report = done.report; gates = gs; said = back.said })) (sym gated)
      (performs_ran manifests turn f phases passes gates back realm done.kept new count are closed ended framed kept ran done.book done.report same))

  -- the frame of the realm that the lanes left
  frame_left : (manifests : Manifests) (turn : LockView) (f : Frame) (phases : List (List Line)) (passes : List RealmPass) (gates : List G) (back : Lanes G) (realm : Story) → passes ≡ new_passes turn.lock f 16 → length gates ≡ 16 → AreSixteen turn back.passes → BearsPassesOut realm.entries back.passes
      → All (λ (p : RealmPass). p.frame ≡ Some realm.frame) back.passes → RanOrNot log_of faults_of manifests phases passes gates back → realm.frame ≡ f
  frame_left manifests turn f phases passes gates back realm new count are closed framed (inl ran) =
      frame_by log_of faults_of manifests turn f phases passes gates back realm.entries new count are closed ran realm.frame framed
  frame_left manifests turn f phases passes gates back realm new count are closed framed (inr un) =
      frame_same log_of faults_of manifests turn f phases passes gates back realm.entries new count are closed un.same_passes realm.frame framed

  -- so a report on its tree is one on that of the history that is handed back
  pub reported_by : (wanted : Wanted) (manifests : Manifests) (turn : LockView) (f : Frame) (phases : List (List Line)) (passes : List RealmPass) (gates : List G) (back : Lanes G) (realm : Story) (done : LanesResult G) → passes ≡ new_passes turn.lock f 16 → length gates ≡ 16 → AreSixteen turn back.passes → BearsPassesOut realm.entries back.passes
      → All (λ (p : RealmPass). p.frame ≡ Some realm.frame) back.passes → RanOrNot log_of faults_of manifests phases passes gates back → done.book.entries ≡ realm.entries
      → IfSome done.report (IsReport wanted realm.frame realm.entries) → IfSome done.report (IsReport wanted f done.book.entries)
  reported_by wanted manifests turn f phases passes gates back realm done new count are closed framed ran same made =
      subst (λ (l : List Entry). IfSome done.report (IsReport wanted f l)) (sym same)
      (subst (λ (own : Frame). IfSome done.report (IsReport wanted own realm.entries)) (frame_left manifests turn f phases passes gates back realm new count are closed framed ran) made)

  -- that of a realm without a manager
  pub reported_nothing : (wanted : Wanted) (realm made : Story) (done : LanesResult G) → made ≡ realm → done.book.entries ≡ made.entries
      → IfSome done.report (IsReport wanted made.frame made.entries) → IfSome done.report (IsReport wanted realm.frame done.book.entries)
  reported_nothing wanted realm made done is same reported =
      subst (λ (s : Story). IfSome done.report (IsReport wanted s.frame done.book.entries)) is
      (subst (λ (l : List Entry). IfSome done.report (IsReport wanted made.frame l)) (sym same) reported)

  -- what is printed of the answers is what is wanted of them
  text_is : (wanted : Wanted) (served : LoadedScript) (answered : List (List AnsweredLine)) (said : List Said) (history : List Entry) (kept : ℕ) (report : List ℕ) → map answered_lines answered ≡ served.phases → said ≡ flat_map (λ phase. map said_of phase) answered
      → printed_text served.phases said wanted (header_text served.frame) history kept report ≡ wanted_text wanted served.frame answered history kept report
  text_is (Answers journal) served answered said history kept report lines is =
      ap (λ (t : List ℕ). t ++ journal_of journal served.frame history)
      (ap (λ (p : List (List Line)). texts_of (flat_map (λ lines. lines) p) said) (sym lines)
      ∙ ap (texts_of (flat_map (λ lines. lines) (map answered_lines answered))) is
      ∙ texts_all answered)
  text_is (Summary instances) served answered said history kept report lines is =
      ap (λ l. summary_text instances l kept) (ap (map (λ (s : Said). s.result)) is ∙ results_all answered)
  text_is Environments served answered said history kept report lines is = refl
  text_is Storage served answered said history kept report lines is = refl

  -- what is written with the journal
  journal_is : (folder : Option (List ℕ)) (served : LoadedScript) (gates : List G) (done : LanesResult G) (p : RunsPhases log_of faults_of (manifests_of folder served) served.frame served.phases gates done)
      → All (λ (lines : List Line). All IsFit lines) served.phases → All IsTypedEntry done.book.entries → length gates ≡ 16 → length done.gates ≡ 16 → IsLegibleServed served
      → (text : List ℕ) → text ≡ phases_text p.answered ++ journal_text served.frame done.book.entries → length text ≤ journal_limit → IsLegalJournal text (length done.book.entries)
  journal_is folder served gates done p fit typed count count₁ tells text is short =
      let same : text ≡ said_text p.answered ++ journal_text served.frame done.book.entries = is ∙ ap (λ t. t ++ journal_text served.frame done.book.entries) (said_same p.answered) in
      let run : IsWritableRun served.frame served.phases p.answered done.book.entries = record {
        lines = p.makes.lines;
        writable = tells.phases;
        fit = fit;
        legal = p.makes.legal;
        performed = p.makes.performed;
        callers = p.makes.callers;
        typed = typed;
        works = λ c small.
            (let old = some_of gates c (subst (λ (n : ℕ). c < n) (sym count) small) in
            let new = some_of done.gates c (subst (λ (n : ℕ). c < n) (sym count₁) small) in
            works_bring_all (manifests_of folder served) (own_entries c done.book.entries) _ _ _ _ (p.work c old.0 new.0 old.1 new.1));
      } in
      subst (λ (t : List ℕ). IsLegalJournal t (length done.book.entries)) (sym same)
      (runs_write served.frame served.phases p.answered done.book.entries run tells.frame (subst (λ (t : List ℕ). length t ≤ journal_limit) same short))

  -- what is said of a script's run
  pub runs_by : (wanted : Wanted) (folder : Option (List ℕ)) (served : LoadedScript) (gates : List G) (done : LanesResult G) (status : ℕ) (old new : Option (List ℕ)) → RunsPhases log_of faults_of (manifests_of folder served) served.frame served.phases gates done
      → IfSome done.report (IsReport wanted served.frame done.book.entries)
      → ((said : List Said) (report : List ℕ) → done.said ≡ Some said → done.report ≡ Some report → IsPrinted (printed_text served.phases said wanted (header_text served.frame) done.book.entries done.kept report) said status old new)
      → ((done.said ≡ None) ⊎ (done.report ≡ None) → (status ≡ 6) × AppendsPrefix old new [])
      → All (λ (lines : List Line). All IsFit lines) served.phases → All IsTypedEntry done.book.entries → length gates ≡ 16 → length done.gates ≡ 16 → MayTell wanted served
      → RunsScript log_of faults_of wanted folder served gates done.gates done.book.entries status old new
  runs_by wanted folder served gates done status old new p made told untold fit typed count count₁ tells = by done.said done.report refl refl p.said made
    where
      laws : EndsWell served.frame done.book.entries
      laws = ends_well served.frame done.book.entries p.makes.legal p.ends

      unsaid : (status ≡ 6) × AppendsPrefix old new [] → RunsScript log_of faults_of wanted folder served gates done.gates done.book.entries status old new
      unsaid none =
          let some = report_ends wanted served.frame done.book.entries laws in
          let text = wanted_text wanted served.frame p.answered done.book.entries done.kept some.0 in
          record { answered = p.answered; makes = p.makes; laws = laws; work = p.work; kept = done.kept; counts = p.kept; report = some.0; reported = some.1; text = text; prints = refl; all = λ ended. absurd (cc (ended, none.0)); had_memory = λ ended. absurd (not_six status none.0 ended); prefix = prefix_of_nothing old new text none.1; legal = λ ended wants short. absurd (cc (ended, none.0)) }

      by : (o : Option (List Said)) (r : Option (List ℕ)) → done.said ≡ o → done.report ≡ r → IfSome o (λ said. said ≡ flat_map (λ phase. map said_of phase) p.answered) → IfSome r (IsReport wanted served.frame done.book.entries)
          → RunsScript log_of faults_of wanted folder served gates done.gates done.book.entries status old new
      by None r is reported said made_too = unsaid (untold (inl is))
      by (Some said) None is reported same made_too = unsaid (untold (inr reported))
      by (Some said) (Some report) is reported same made_too =
          let printed = told said report is reported in
          let the_text : printed_text served.phases said wanted (header_text served.frame) done.book.entries done.kept report ≡ wanted_text wanted served.frame p.answered done.book.entries done.kept report =
          text_is wanted served p.answered said done.book.entries done.kept report p.makes.lines same in
          record {
            answered = p.answered;
            makes = p.makes;
            laws = laws;
            work = p.work;
            kept = done.kept;
            counts = p.kept;
            report = report;
            reported = made_too;
            text = printed_text served.phases said wanted (header_text served.frame) done.book.entries done.kept report;
            prints = the_text;
            all = printed.all;
            had_memory = λ ended. no_want_all p.answered (subst (All (λ s. s.result ≢ Err refusal.Memory)) same (printed.had_memory ended));
            prefix = printed.prefix;
            legal = λ ended wants short. journal_is folder served gates done p fit typed count count₁ (tells wants) _
                (the_text ∙ ap (λ (w : Wanted). wanted_text w served.frame p.answered done.book.entries done.kept report) wants) short;
          }

  -- the same of what a run hands back, whose parts were moved and borrowed
  pub runs_back : (wanted : Wanted) (folder : Option (List ℕ)) (served : LoadedScript) (gates gates₁ : List G) (done : LanesResult G) (book : History) (status : ℕ) (old new : Option (List ℕ)) (frame : Frame) (phases others : List (List Line)) (head : List ℕ)
      → RunsPhases log_of faults_of (manifests_of folder served) frame phases gates done → IfSome done.report (IsReport wanted frame done.book.entries) → frame ≡ served.frame → phases ≡ served.phases
      → ((said : List Said) (report : List ℕ) → done.said ≡ Some said → done.report ≡ Some report → IsPrinted (printed_text others said wanted head done.book.entries done.kept report) said status old new) → others ≡ served.phases → head ≡ header_text served.frame
      → ((done.said ≡ None) ⊎ (done.report ≡ None) → (status ≡ 6) × AppendsPrefix old new [])
      → book ≡ done.book → gates₁ ≡ done.gates
      → All (λ (lines : List Line). All IsFit lines) served.phases → All IsTypedEntry done.book.entries → length gates ≡ 16 → length done.gates ≡ 16 → MayTell wanted served
      → RunsScript log_of faults_of wanted folder served gates gates₁ book.entries status old new
  runs_back wanted folder served gates gates₁ done book status old new frame phases others head performs made framed lined told lined_too headed untold is same fit typed count count₁ tells =
      let p = subst (λ (f : Frame). RunsPhases log_of faults_of (manifests_of folder served) f served.phases gates done) framed (subst (λ (l : List (List Line)). RunsPhases log_of faults_of (manifests_of folder served) frame l gates done) lined performs) in
      let reported = subst (λ (f : Frame). IfSome done.report (IsReport wanted f done.book.entries)) framed made in
      let printed : (said : List Said) (report : List ℕ) → done.said ≡ Some said → done.report ≡ Some report → IsPrinted (printed_text served.phases said wanted (header_text served.frame) done.book.entries done.kept report) said status old new = λ said report some too.
      subst (λ (h : List ℕ). IsPrinted (printed_text served.phases said wanted h done.book.entries done.kept report) said status old new) headed
      (subst (λ (l : List (List Line)). IsPrinted (printed_text l said wanted head done.book.entries done.kept report) said status old new) lined_too (told said report some too)) in
      subst (λ (b : History). RunsScript log_of faults_of wanted folder served gates gates₁ b.entries status old new) (sym is)
      (subst (λ (gs : List G). RunsScript log_of faults_of wanted folder served gates gs done.book.entries status old new) (sym same)
      (runs_by wanted folder served gates done status old new p reported printed untold fit typed count count₁ tells))

  -- a script of which no line was run
  pub runs_nothing : (wanted : Wanted) (folder : Option (List ℕ)) (served : LoadedScript) (gates₀ gates₁ : List G) (history : List Entry) (status : ℕ) (out : Option (List ℕ)) → history ≡ [] → gates₁ ≡ gates₀ → status ≡ 6 → RunsScript log_of faults_of wanted folder served gates₀ gates₁ history status out out
  runs_nothing wanted folder served gates₀ gates₁ history status out none same is =
      let answered = all_wanting served.phases in
      let legal = subst (Legal (start served.frame)) (sym none) (nothing_legal served.frame) in
      let laws = ends_well served.frame history legal (nothing_ends history none) in
      let some = report_ends wanted served.frame history laws in
      let text = wanted_text wanted served.frame answered history 0 some.0 in
      record {
        answered = answered;
        makes = makes_nothing served.frame served.phases history none legal;
        laws = laws;
        work = works_nothing log_of faults_of (manifests_of folder served) history gates₀ gates₁ none same;
        kept = 0;
        counts = nothing_kept served.frame history none;
        report = some.0;
        reported = some.1;
        text = text;
        prints = refl;
        all = λ ended. absurd (cc (ended, is));
        had_memory = λ ended. absurd (not_six status is ended);
        prefix = nothing_written out text;
        legal = λ ended wants short. absurd (cc (ended, is));
      }

  -- Where nothing was run at status 6, that is a run of whatever script the source is known to have had.
  pub known_nothing : (left : Option (List ℕ)) (wanted : Wanted) (folder : Option (List ℕ)) (gates₀ gates₁ : List G) (history : List Entry) (status : ℕ) (out : Option (List ℕ)) → history ≡ [] → gates₁ ≡ gates₀ → status ≡ 6
      → OfKnown (RunsAsServed (λ served. RunsScript log_of faults_of wanted folder served gates₀ gates₁ history status out out)) left
  known_nothing None wanted folder gates₀ gates₁ history status out none same is = tt
  known_nothing (Some bytes) wanted folder gates₀ gates₁ history status out none same is = λ served serves. runs_nothing wanted folder served gates₀ gates₁ history status out none same is

  -- a script that is made here, of which no line was run
  pub own_nothing : (wanted : Wanted) (folder : Option (List ℕ)) (script : Script) (gates₀ gates₁ : List G) (history : List Entry) (status : ℕ) (out : Option (List ℕ)) → history ≡ [] → gates₁ ≡ gates₀ → status ≡ 6
      → RunsOwn (λ served. RunsScript log_of faults_of wanted folder served gates₀ gates₁ history status out out) script status
  own_nothing wanted folder script gates₀ gates₁ history status out none same is = record {
    runs = λ served serves. runs_nothing wanted folder served gates₀ gates₁ history status out none same is;
    is_served = λ ended. absurd (not_six status is ended);
  }

-- ---- runs of other bytes

-- what holds of what a script asks for is all that is to be said of it
pub own_served : (P : LoadedScript → Type 0) (script : Script) (status : ℕ) (served : LoadedScript) → served_script script ≡ Ok served → P served → RunsOwn P script status
own_served P script status served is holds = record {
  runs = λ other also. subst P (Ok_same is also) holds;
  is_served = λ ended. (served, is);
}

-- what holds of the script that was served holds of some
pub some_served : (P : LoadedScript → Type 0) (Idle : Type 0) (status : ℕ) (left : Option (List ℕ)) (served : LoadedScript) → OfSome (λ bytes. LoadsScript bytes served) left → P served → RunsSome P Idle status left
unfolding RunsSome
some_served P Idle status left served from is = inl (served, (from, is))

-- memory ran out before there was a script
pub some_unread : (P : LoadedScript → Type 0) (Idle : Type 0) (status : ℕ) (left : Option (List ℕ)) → status ≡ 6 → Idle → RunsSome P Idle status left
unfolding RunsSome
some_unread P Idle status left six idle = inr (six, idle)

-- A run that ended with 7 or 6, and did nothing, lacked memory if its status is a script's run's.
pub some_refused : (P : LoadedScript → Type 0) (Idle : Type 0) (status : ℕ) (left : Option (List ℕ)) → (status ≡ 7) ⊎ (status ≡ 6) → Idle → IsScriptRun status → RunsSome P Idle status left
some_refused P Idle status left (inr six) idle ran = some_unread P Idle status left six idle
some_refused P Idle status left (inl seven) idle (inl none) = absurd (cc (seven, none))
some_refused P Idle status left (inl seven) idle (inr (inl four)) = absurd (cc (seven, four))
some_refused P Idle status left (inl seven) idle (inr (inr six)) = absurd (cc (seven, six))

-- bytes that are refused are served in no way
pub refused_runs : (P : LoadedScript → Type 0) (left : Option (List ℕ)) (fault : ScriptRefusal) → OfSome (λ bytes. IsScriptRefusal bytes fault) left → OfKnown (RunsAsServed P) left
refused_runs P None fault is = tt
refused_runs P (Some bytes) fault is = λ served serves. absurd (served_are_not_refused_lem bytes served serves (IsFaulty.refused fault is))

-- ---- words that ask for a script

-- The words of `run` ask for the run of a script.
pub asks_run : (words : List (List ℕ)) (options : RunOptions) → words_of words ≡ Ok (call.Run options) → AsksScript words
asks_run words options is = inl (options, is)

-- The words of `generate` ask for the run of a script.
pub asks_generate : (words : List (List ℕ)) (workload : Workload) → words_of words ≡ Ok (call.Generate workload) → AsksScript words
asks_generate words workload is = inr (workload, is)

-- what is said of a run that made no realm, and of words
pub ruleset idle = (empty_history, of_faulty, asks_run, asks_generate)
