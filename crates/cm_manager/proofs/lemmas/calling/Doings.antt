-- Why the work of an action is what it is said to be.
use Rattle.std.proofs.Common.{◌≡◌, ◌≢◌, inl, inr, ℕ, ◌≤◌, List, [], ◌∷◌, Option, Some, None, Result, Ok, Err, IsTrue, false, true≢false, refl, sym, ap, subst, ◌∙◌}
use Rattle.std.proofs.Math.Nat.{le_refl}
use Rattle.cm_io.specs.Outside.{Rose}
use Rattle.cm_decl.specs.declared.decl.Decl.{Decl}
use Rattle.cm_decl.specs.declared.section.Section.{Section}
use Rattle.cm_decl.specs.Faults.{DeclFault}
use Rattle.cm_decl.specs.Clashes.{RowPlace}
use Rattle.cm_decl.specs.declared.node.Node.{Node}
use Rattle.cm_decl.specs.Valid.{IsValid}
use Rattle.cm_read.specs.Manifest.{decl_of_bytes}
use Rattle.cm_read.specs.ReadingInside.{GivesReading}
use Rattle.cm_read.specs.declared.fault.ReadFault.{ReadFault}
use Rattle.cm_read.specs.declared.fault.ReadFault.TheVariants as read
use Rattle.cm_valid.specs.Reports.{reported}
use Rattle.cm_valid.specs.ReportsInside.{Reports}
use Rattle.cm_valid.specs.declared.fault.ValidFault.{ValidFault}
use Rattle.cm_valid.specs.declared.fault.ValidFault.TheVariants as invalid
use Rattle.cm_repo.specs.Blocks.{block_at}
use Rattle.cm_repo.specs.Urls.{absolute_of}
use Rattle.cm_repo.specs.declared.fault.UrlFault.{UrlFault}
use Rattle.cm_repo.specs.declared.fault.UrlFault.TheVariants as url_fault
use Rattle.cm_repo.specs.Answers.{IsRepoRefusal}
use Rattle.cm_world.specs.declared.action.ActKind.{ActKind}
use Rattle.cm_world.specs.declared.action.ActKind.TheVariants as kind
use Rattle.cm_world.specs.declared.action.FaultNote.{FaultNote}
use Rattle.cm_world.specs.declared.action.Finish.{Finish}
use Rattle.cm_world.specs.declared.action.Finish.TheVariants as finish
use Rattle.cm_world.specs.declared.action.Outcome.{Outcome}
use Rattle.cm_world.specs.declared.action.Outcome.TheVariants as outcome
use Rattle.cm_world.specs.declared.action.Work.{Work}
use Rattle.cm_gate.specs.declared.asked.GateCall.{GateCall}
use Rattle.cm_gate.specs.declared.asked.GateCall.TheVariants.{Fetch, Launch, Halt}
use Rattle.cm_gate.specs.declared.asked.Fetch.{Fetch as Fetching}
use Rattle.cm_gate.specs.declared.asked.Fetched.{Fetched}
use Rattle.cm_gate.specs.declared.asked.Fetched.TheVariants as fetched
use Rattle.cm_gate.specs.declared.asked.Job.{Job}
use Rattle.cm_gate.specs.declared.asked.Launched.{Launched}
use Rattle.cm_gate.specs.declared.asked.Launched.TheVariants as launched
use Rattle.cm_gate.specs.declared.asked.Halted.{Halted}
use Rattle.cm_gate.specs.declared.asked.Halted.TheVariants as halted
use Rattle.cm_gate.specs.Logs.{Grew}
use Rattle.cm_gate.proofs.lemmas.Logs.{grew_nothing}
use Rattle.cm_manager.specs.Contract.{GatesView}
use Rattle.cm_manager.specs.Work.{Judges, note_of, resolved_by, Manifests, DoesWork, FetchEnds, job_of, is_gate_failure}
use Rattle.cm_manager.specs.Doing.{JudgesBy, EndsBy, FitsAction, HasJob, Did, unread_outcome, invalid_outcome, launched_outcome, halted_outcome}

-- ---- manifests

-- A manifest that is read as a valid declaration is judged as that declaration.
pub judged_valid : (bytes : List ℕ) (read decl : Decl) → GivesReading (Ok read) (decl_of_bytes bytes) → IsValid read → decl ≡ read → Judges bytes (Ok decl)
judged_valid bytes read decl gives is same = subst (λ (d : Decl). Judges bytes (Ok d)) (sym same) (Judges.valid gives is)

-- A manifest that can't be read is judged by the outcome for its fault.
pub judged_unread : (bytes : List ℕ) (fault : ReadFault) (o : Outcome) → GivesReading (Err fault) (decl_of_bytes bytes) → o ≡ unread_outcome fault → JudgesBy bytes (Err o)
judged_unread bytes read.Memory o gives is = inl is
judged_unread bytes (read.Bad number section index field) o gives is =
    inr (record { number = number; section = section; index = index }, is, Judges.unread gives)

-- The outcome of a declaration's report as invalid has the note of its first fault.
noted : (d : Decl) (number index : ℕ) (section : Section) (against : Option RowPlace) (cycle : List Node) (f : DeclFault) → invalid.Bad number section index against cycle ≡ reported f → invalid_outcome (invalid.Bad number section index against cycle) ≡ outcome.Invalid (note_of f.number f.section f.index)
noted d number index section against cycle f is = ap invalid_outcome is

-- A manifest whose declaration has a fault is judged by the outcome for that fault.
pub judged_invalid : (bytes : List ℕ) (d : Decl) (fault : ValidFault) (o : Outcome) → GivesReading (Ok d) (decl_of_bytes bytes) → Reports d fault → o ≡ invalid_outcome fault → JudgesBy bytes (Err o)
judged_invalid bytes d invalid.Memory o gives reports is = inl is
judged_invalid bytes d (invalid.Bad number section index against cycle) o gives reports is =
    let f = reports (λ e. absurd (cc e)) in
    inr (note_of f.0.number f.0.section f.0.index, is ∙ noted d number index section against cycle f.0 f.2, Judges.invalid gives f.1)

-- The end with a bad URL is one that fits a resolve.
pub fits_bad_url : FitsAction kind.Resolve (finish.Other outcome.BadUrl)
fits_bad_url = record { fitting = refl; valid = tt }

-- ---- the gates were not asked

-- The resolution of a declaration, valid or not, isn't the failure of a gate.
not_failed : (url : List ℕ) (judged : Result Decl FaultNote) → is_gate_failure (resolved_by url judged) ≡ false
not_failed url (Ok d) = refl
not_failed url (Err note) = refl

-- an end that tells of no failure needs no rise
unrisen : (end : Finish) (n m : ℕ) → is_gate_failure end ≡ false → IsTrue (is_gate_failure end) → Rose n m
unrisen end n m none is = absurd (true≢false (sym is ∙ none))

-- A work without a question, whose end is no failure of a gate, was done with gates as they are.
quiet : (manifests : Manifests) (w : Work) (k : ActKind) (end : Finish) (g : GatesView) → is_gate_failure end ≡ false → DoesWork manifests w k end [] → Did manifests w k end g g
quiet manifests w k end g none does = record {
  asked = [];
  does = does;
  log = grew_nothing g.log;
  counts = record { later = le_refl g.faults; still = λ _. refl; rose = unrisen end g.faults g.faults none };
}

-- A resolve whose manifest is a kept block is done without a question to the gates.
pub did_kept : (manifests : Manifests) (w : Work) (url bytes : List ℕ) (end : Finish) (g : GatesView) → absolute_of w.base w.url ≡ Ok url → block_at manifests.blocks url ≡ Some bytes → EndsBy url bytes end → Did manifests w kind.Resolve end g g
did_kept manifests w url bytes end g at kept (inl e) =
    subst (λ (end : Finish). Did manifests w kind.Resolve end g g) (sym e.2) (quiet manifests w kind.Resolve (resolved_by url e.0) g (not_failed url e.0) (DoesWork.kept at kept e.1))
did_kept manifests w url bytes end g at kept (inr e) =
    subst (λ (end : Finish). Did manifests w kind.Resolve end g g) (sym e) (quiet manifests w kind.Resolve (finish.Other outcome.NoMemory) g refl DoesWork.wanting)

-- A resolve that ends for lack of memory may be done without a question to the gates.
pub did_nothing : (manifests : Manifests) (w : Work) (g : GatesView) → Did manifests w kind.Resolve (finish.Other outcome.NoMemory) g g
did_nothing manifests w g = quiet manifests w kind.Resolve (finish.Other outcome.NoMemory) g refl DoesWork.wanting

-- A resolve whose URL has no absolute form ends with a bad URL, without a question to the gates.
pub did_bad_url : (manifests : Manifests) (w : Work) (g : GatesView) (fault : UrlFault) → absolute_of w.base w.url ≡ Err fault → Did manifests w kind.Resolve (finish.Other outcome.BadUrl) g g
did_bad_url manifests w g fault at = quiet manifests w kind.Resolve (finish.Other outcome.BadUrl) g refl (DoesWork.no_url at)

-- a fault that isn't lack of memory
pub refused_url : (base url asked_base asked_url : List ℕ) (fault : UrlFault) → asked_base ≡ base → asked_url ≡ url → IsRepoRefusal url_fault.Memory fault (absolute_of asked_base asked_url) → fault ≢ url_fault.Memory → absolute_of base url ≡ Err fault
refused_url base url asked_base asked_url fault b u (inl is) other = ap (λ (x : List ℕ). absolute_of x url) (sym b) ∙ ap (absolute_of asked_base) (sym u) ∙ is
refused_url base url asked_base asked_url fault b u (inr is) other = absurd (other is)

-- An instance without a program is started without a question to the gates.
pub did_start : (manifests : Manifests) (w : Work) (g : GatesView) → w.runner ≡ None → Did manifests w kind.Start (finish.Other outcome.Started) g g
did_start manifests w g none = quiet manifests w kind.Start (finish.Other outcome.Started) g refl (DoesWork.starts none)

-- An instance without a program is stopped without a question to the gates.
pub did_stop : (manifests : Manifests) (w : Work) (g : GatesView) → w.runner ≡ None → Did manifests w kind.Stop (finish.Other outcome.Stopped) g g
did_stop manifests w g none = quiet manifests w kind.Stop (finish.Other outcome.Stopped) g refl (DoesWork.stops none)

-- ---- the gates were asked

-- a question without a failure, and one with it
asked_well : (manifests : Manifests) (w : Work) (k : ActKind) (end : Finish) (q : GateCall) (g h : GatesView) → is_gate_failure end ≡ false → DoesWork manifests w k end (q ∷ []) → Grew g.log h.log (q ∷ []) → g.faults ≤ h.faults → Did manifests w k end g h
asked_well manifests w k end q g h none does grew later = record {
  asked = q ∷ [];
  does = does;
  log = grew;
  counts = record { later = later; still = λ e. absurd (cc e); rose = unrisen end g.faults h.faults none };
}

-- A work with one question was done where the gates' log grew by it and their count rose.
asked_badly : (manifests : Manifests) (w : Work) (k : ActKind) (end : Finish) (q : GateCall) (g h : GatesView) → DoesWork manifests w k end (q ∷ []) → Grew g.log h.log (q ∷ []) → g.faults ≤ h.faults → Rose g.faults h.faults → Did manifests w k end g h
asked_badly manifests w k end q g h does grew later rose = record {
  asked = q ∷ [];
  does = does;
  log = grew;
  counts = record { later = later; still = λ e. absurd (cc e); rose = λ _. rose };
}

-- what a fetch was asked for a URL of the manifests
abbrev pub fetch_of : Manifests → List ℕ → Fetched → GateCall
fetch_of manifests url answer = Fetch (record { repo = manifests.repo; url = url }) answer

-- the question that was asked is the one for this URL
pub fetched_for : (manifests : Manifests) (url : List ℕ) (what : Fetching) (answer : Fetched) (old new : Option (List GateCall)) → what ≡ record { repo = manifests.repo; url = url } → Grew old new (Fetch what answer ∷ []) → Grew old new (fetch_of manifests url answer ∷ [])
fetched_for manifests url what answer old new is grew = subst (λ (x : Fetching). Grew old new (Fetch x answer ∷ [])) is grew

-- A resolve is done by the manifest that the gates found, with the fetch in their log.
pub did_fetch : (manifests : Manifests) (w : Work) (url bytes : List ℕ) (end : Finish) (g h : GatesView) → absolute_of w.base w.url ≡ Ok url → block_at manifests.blocks url ≡ None → Grew g.log h.log (fetch_of manifests url (fetched.Found bytes) ∷ []) → g.faults ≤ h.faults → EndsBy url bytes end → Did manifests w kind.Resolve end g h
did_fetch manifests w url bytes end g h at none grew later (inl e) =
    subst (λ (end : Finish). Did manifests w kind.Resolve end g h) (sym e.2) (asked_well manifests w kind.Resolve (resolved_by url e.0) (fetch_of manifests url (fetched.Found bytes)) g h (not_failed url e.0) (DoesWork.fetches at none (FetchEnds.found e.1)) grew later)
did_fetch manifests w url bytes end g h at none grew later (inr e) =
    subst (λ (end : Finish). Did manifests w kind.Resolve end g h) (sym e) (asked_well manifests w kind.Resolve (finish.Other outcome.NoMemory) (fetch_of manifests url (fetched.Found bytes)) g h refl (DoesWork.fetches at none FetchEnds.unread) grew later)

-- A resolve ends with Absent, where the gates' fetch found no manifest.
pub did_absent : (manifests : Manifests) (w : Work) (url : List ℕ) (g h : GatesView) → absolute_of w.base w.url ≡ Ok url → block_at manifests.blocks url ≡ None → Grew g.log h.log (fetch_of manifests url fetched.Absent ∷ []) → g.faults ≤ h.faults → Did manifests w kind.Resolve (finish.Other outcome.Absent) g h
did_absent manifests w url g h at none grew later = asked_well manifests w kind.Resolve (finish.Other outcome.Absent) (fetch_of manifests url fetched.Absent) g h refl (DoesWork.fetches at none FetchEnds.absent) grew later

-- A resolve ends for lack of memory, where the gates' fetch lacked it.
pub did_want : (manifests : Manifests) (w : Work) (url : List ℕ) (g h : GatesView) → absolute_of w.base w.url ≡ Ok url → block_at manifests.blocks url ≡ None → Grew g.log h.log (fetch_of manifests url fetched.Memory ∷ []) → g.faults ≤ h.faults → Did manifests w kind.Resolve (finish.Other outcome.NoMemory) g h
did_want manifests w url g h at none grew later = asked_well manifests w kind.Resolve (finish.Other outcome.NoMemory) (fetch_of manifests url fetched.Memory) g h refl (DoesWork.fetches at none FetchEnds.no_memory) grew later

-- A resolve ends with a failed gate, where the gates' fetch failed and their count of faults rose.
pub did_fail : (manifests : Manifests) (w : Work) (url : List ℕ) (g h : GatesView) → absolute_of w.base w.url ≡ Ok url → block_at manifests.blocks url ≡ None → Grew g.log h.log (fetch_of manifests url fetched.Failed ∷ []) → g.faults ≤ h.faults → Rose g.faults h.faults → Did manifests w kind.Resolve (finish.Other outcome.GateFailed) g h
did_fail manifests w url g h at none grew later rose = asked_badly manifests w kind.Resolve (finish.Other outcome.GateFailed) (fetch_of manifests url fetched.Failed) g h (DoesWork.fetches at none FetchEnds.failed) grew later rose

-- A start was done where its launch is in the log, and where that failed the count rose.
launch_did : (manifests : Manifests) (w : Work) (runner : List ℕ) (answer : Launched) (g h : GatesView) → w.runner ≡ Some runner → Grew g.log h.log (Launch (job_of w runner) answer ∷ []) → g.faults ≤ h.faults → (answer ≡ launched.Failed → Rose g.faults h.faults) → Did manifests w kind.Start (finish.Other (launched_outcome answer)) g h
launch_did manifests w runner launched.Running g h is grew later rose = asked_well manifests w kind.Start (finish.Other outcome.Started) (Launch (job_of w runner) launched.Running) g h refl (DoesWork.launches is) grew later
launch_did manifests w runner launched.Declined g h is grew later rose = asked_well manifests w kind.Start (finish.Other outcome.Declined) (Launch (job_of w runner) launched.Declined) g h refl (DoesWork.launches is) grew later
launch_did manifests w runner launched.Failed g h is grew later rose = asked_badly manifests w kind.Start (finish.Other outcome.GateFailed) (Launch (job_of w runner) launched.Failed) g h (DoesWork.launches is) grew later (rose refl)

-- A start of an instance with a runner is done by its launch, and ends by the runner's answer.
pub did_launch : (manifests : Manifests) (w : Work) (runner : List ℕ) (answer : Launched) (o : Outcome) (g h : GatesView) → o ≡ launched_outcome answer → w.runner ≡ Some runner → Grew g.log h.log (Launch (job_of w runner) answer ∷ []) → g.faults ≤ h.faults → (answer ≡ launched.Failed → Rose g.faults h.faults) → Did manifests w kind.Start (finish.Other o) g h
did_launch manifests w runner answer o g h by is grew later rose =
    subst (λ (o : Outcome). Did manifests w kind.Start (finish.Other o) g h) (sym by) (launch_did manifests w runner answer g h is grew later rose)

-- A stop was done where its halt is in the log, and where that failed the count rose.
halt_did : (manifests : Manifests) (w : Work) (runner : List ℕ) (answer : Halted) (g h : GatesView) → w.runner ≡ Some runner → Grew g.log h.log (Halt (job_of w runner) answer ∷ []) → g.faults ≤ h.faults → (answer ≡ halted.Failed → Rose g.faults h.faults) → Did manifests w kind.Stop (finish.Other (halted_outcome answer)) g h
halt_did manifests w runner halted.Stopped g h is grew later rose = asked_well manifests w kind.Stop (finish.Other outcome.Stopped) (Halt (job_of w runner) halted.Stopped) g h refl (DoesWork.halts is) grew later
halt_did manifests w runner halted.Failed g h is grew later rose = asked_badly manifests w kind.Stop (finish.Other outcome.Killed) (Halt (job_of w runner) halted.Failed) g h (DoesWork.halts is) grew later (rose refl)

-- A stop of an instance with a runner is done by its halt, and ends by the runner's answer.
pub did_halt : (manifests : Manifests) (w : Work) (runner : List ℕ) (answer : Halted) (o : Outcome) (g h : GatesView) → o ≡ halted_outcome answer → w.runner ≡ Some runner → Grew g.log h.log (Halt (job_of w runner) answer ∷ []) → g.faults ≤ h.faults → (answer ≡ halted.Failed → Rose g.faults h.faults) → Did manifests w kind.Stop (finish.Other o) g h
did_halt manifests w runner answer o g h by is grew later rose =
    subst (λ (o : Outcome). Did manifests w kind.Stop (finish.Other o) g h) (sym by) (halt_did manifests w runner answer g h is grew later rose)

-- A launch of the job that was asked about is the work of its start.
pub launched_for : (manifests : Manifests) (w : Work) (job : Job) (answer : Launched) (o : Outcome) (g h : GatesView) → HasJob w (Some job) → o ≡ launched_outcome answer → Grew g.log h.log (Launch job answer ∷ []) → g.faults ≤ h.faults → (answer ≡ launched.Failed → Rose g.faults h.faults) → Did manifests w kind.Start (finish.Other o) g h
launched_for manifests w job answer o g h has by grew later rose =
    did_launch manifests w has.0 answer o g h by has.1 (subst (λ (j : Job). Grew g.log h.log (Launch j answer ∷ [])) has.2 grew) later rose

-- A stop is done by the halt that was asked for as its job, and ends by the runner's answer.
pub halted_for : (manifests : Manifests) (w : Work) (job : Job) (answer : Halted) (o : Outcome) (g h : GatesView) → HasJob w (Some job) → o ≡ halted_outcome answer → Grew g.log h.log (Halt job answer ∷ []) → g.faults ≤ h.faults → (answer ≡ halted.Failed → Rose g.faults h.faults) → Did manifests w kind.Stop (finish.Other o) g h
halted_for manifests w job answer o g h has by grew later rose =
    did_halt manifests w has.0 answer o g h by has.1 (subst (λ (j : Job). Grew g.log h.log (Halt j answer ∷ [])) has.2 grew) later rose
