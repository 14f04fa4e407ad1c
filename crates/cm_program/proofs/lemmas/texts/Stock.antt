-- The faults of scripts, and the lines of those that are served.
use Rattle.std.proofs.Common.{◌≡◌, ℕ, ◌≤◌, List, [], ◌∷◌, All, Option, Result, Ok, Err, IfOk, IfErr, refl, sym, subst, arith}
use Rattle.std.proofs.lemmas.List.Elements.{All-nil, All-cons, All-append, All-head, All-tail}
use Rattle.cm_names.specs.Steps.{◌>>=◌}
use Rattle.cm_repo.specs.Blocks.{Blocks, added}
use Rattle.cm_repo.specs.declared.fault.RepoFault.{RepoFault}
use Rattle.cm_repo.specs.declared.fault.RepoFault.TheVariants as repo
use Rattle.cm_command.specs.Scripts.{TakesScriptLine, ReadsLines, IsScript}
use Rattle.cm_command.specs.declared.script.Block.{Block}
use Rattle.cm_command.specs.declared.script.Line.{Line}
use Rattle.cm_command.specs.declared.script.Script.{Script}
use Rattle.cm_command.specs.declared.script_reader.Draft.{Draft}
use Rattle.cm_lanes.specs.ScriptInside.{IsFit}
use Rattle.cm_reply.specs.LegibleInside.{IsLegibleFrame}
use Rattle.cm_journal.specs.Asked.{AreWritableLines, IsLegibleScript}
use Rattle.cm_journal.proofs.lemmas.Scripts.{scripts_are_legible}
use Rattle.cm_program.specs.Audited.{IsLegibleServed}
use Rattle.cm_program.specs.Reading.{ReadOutcome}
use Rattle.cm_program.specs.ReadingInside.{GivesOutcome}
use Rattle.cm_program.specs.Run.{ScriptStops, stop_of}
use Rattle.cm_program.specs.Stock.{frame_of, accepted, stocked, stock_of, served_script, IsScriptRefusal, LoadsScript}
use Rattle.cm_program.specs.Written.{OfSome}
use Rattle.cm_program.specs.declared.fault.ScriptRefusal.{ScriptRefusal}
use Rattle.cm_program.specs.declared.fault.ScriptRefusal.TheVariants.{Unread, Unserved, Memory}
use Rattle.cm_program.specs.declared.stock.LoadedScript.{LoadedScript}

-- what was read of a script that is one has no fault of the reader
abbrev pub IsOfScript : {A : Type 0} → ReadOutcome A → Type 0
IsOfScript (Ok x) = Unit {0}
IsOfScript (Err (Unserved line problem)) = Unit {0}
IsOfScript (Err Memory) = Unit {0}
IsOfScript (Err (Unread line number at)) = ⊥

-- Steps one after another whose faults are of scripts, not of reading, have only such faults.
bind_told : {A B : Type 0} (r : ReadOutcome A) (f : A → ReadOutcome B) → IsOfScript r → ((x : A) → IsOfScript (f x)) → IsOfScript (r >>= f)
bind_told (Ok x) f h k = k x
bind_told (Err (Unserved line problem)) f h k = tt
bind_told (Err Memory) f h k = tt
bind_told (Err (Unread line number at)) f h k = absurd h

-- Blocks that the repository accepts, or refuses at a line, have only faults of scripts.
accepted_told : (line : ℕ) (r : Result Blocks RepoFault) → IsOfScript (accepted line r)
accepted_told line (Ok blocks) = tt
accepted_told line (Err repo.BadUrl) = tt
accepted_told line (Err repo.NoFragment) = tt
accepted_told line (Err repo.Repeated) = tt
accepted_told line (Err repo.Memory) = tt

-- The stock that blocks make has only faults of scripts.
stock_told : (old : Blocks) (blocks : List Block) → IsOfScript (stock_of old blocks)
stock_told old [] = tt
stock_told old (b ∷ bs) = bind_told (stocked old b) _ (accepted_told b.line (added old b.url b.bytes)) (λ new. stock_told new bs)

-- A script that is served, or refused for what it gives, has only faults of scripts.
script_told : (s : Script) → IsOfScript (served_script s)
unfolding served_script
script_told s = bind_told (stock_of [] s.manifests) _ (stock_told [] s.manifests) (λ repository. tt)

-- a script that isn't served is refused for what it gives
pub fault_of_script : (bytes : List ℕ) (s : Script) (r : ReadOutcome LoadedScript) → IsScript bytes s → GivesOutcome r (served_script s) → IfErr r (λ f. (f ≡ Memory → ⊥) → IsScriptRefusal bytes f)
fault_of_script bytes s (Ok served) h gives = tt
fault_of_script bytes s (Err (Unserved line problem)) h gives = λ _. record { script = s; reads = h; refused = gives }
fault_of_script bytes s (Err Memory) h gives = λ none. absurd (none refl)
fault_of_script bytes s (Err (Unread line number at)) h gives = λ _. absurd (subst (λ r. IsOfScript r) gives (script_told s))

-- why a run stops, where its bytes are known
pub stops_for : (left : Option (List ℕ)) (f : ScriptRefusal) → ((f ≡ Memory → ⊥) → OfSome (λ bytes. IsScriptRefusal bytes f) left) → ScriptStops (stop_of f) left
stops_for left (Unserved line problem) h = h (λ e. absurd (cc))
stops_for left (Unread line number at) h = h (λ e. absurd (cc))
stops_for left Memory h = tt

-- ---- the lines of a script that is served

-- The lane of the line is at most fifteen.
abbrev IsLow : Line → Type 0
IsLow l = l.lane ≤ 15

-- the lanes of all lines that were read so far
record IsLowDraft (d : Draft) : Type 0 where
  phases : All (λ lines. All IsLow lines) d.phases
  phase : All IsLow d.phase

-- A line in order leaves the lanes of the lines read so far at most fifteen.
took_low : (n : ℕ) {t : List ℕ} {d e : Draft} → TakesScriptLine n t d e → IsLowDraft d → IsLowDraft e
took_low n (TakesScriptLine.closes is) h = record { phases = h.phases; phase = h.phase }
took_low n (TakesScriptLine.inner is other) h = record { phases = h.phases; phase = h.phase }
took_low n (TakesScriptLine.blank is b) h = h
took_low n (TakesScriptLine.opens is early u) h = record { phases = h.phases; phase = h.phase }
took_low n (TakesScriptLine.builtin is early b fresh) h = record { phases = h.phases; phase = h.phase }
took_low n (TakesScriptLine.root is early first u) h = record { phases = h.phases; phase = h.phase }
took_low n {d = d} (TakesScriptLine.sync is r) h = record {
  phases = All-append (λ lines. All IsLow lines) d.phases (d.phase ∷ []) h.phases (All-cons (λ lines. All IsLow lines) d.phase [] h.phase (All-nil (λ lines. All IsLow lines)));
  phase = All-nil IsLow;
}
took_low n {d = d} (TakesScriptLine.command {lane = lane} {c = c} is r way low text) h = record {
  phases = h.phases;
  phase = All-append IsLow d.phase (record { line = n; lane = lane; command = c } ∷ []) h.phase (All-cons IsLow (record { line = n; lane = lane; command = c }) [] low (All-nil IsLow));
}

-- Lines in order leave the lanes of the lines read so far at most fifteen.
read_low : (size : ℕ) {place n : ℕ} {d e : Draft} {ts : List (List ℕ)} → ReadsLines size place n d ts e → IsLowDraft d → IsLowDraft e
read_low size ReadsLines.no_more h = h
read_low size {n = n} (ReadsLines.one_more fits takes rest) h = read_low size rest (took_low n takes h)

-- The lanes of all lines of a script are at most fifteen.
script_low : (bytes : List ℕ) (s : Script) → IsScript bytes s → All (λ lines. All IsLow lines) s.phases
script_low bytes s is =
    let low = read_low _ is.reads (record { phases = All-nil (λ lines. All IsLow lines); phase = All-nil IsLow }) in
    subst (All (λ lines. All IsLow lines)) (sym is.whole.phases)
    (All-append (λ lines. All IsLow lines) is.draft.phases (is.draft.phase ∷ []) low.phases (All-cons (λ lines. All IsLow lines) is.draft.phase [] low.phase (All-nil (λ lines. All IsLow lines))))

-- Lines whose lanes are at most fifteen fit.
fit_lines : (lines : List Line) → All IsLow lines → All IsFit lines
fit_lines [] low = All-nil IsFit
fit_lines (l ∷ ls) low = All-cons IsFit l ls (record { lane = omega (arith, All-head IsLow l ls low) }) (fit_lines ls (All-tail IsLow l ls low))

-- Phases whose lanes are at most fifteen have lines that fit.
fit_phases : (phases : List (List Line)) → All (λ lines. All IsLow lines) phases → All (λ lines. All IsFit lines) phases
fit_phases [] low = All-nil (λ lines. All IsFit lines)
fit_phases (p ∷ ps) low =
    All-cons (λ lines. All IsFit lines) p ps (fit_lines p (All-head (λ lines. All IsLow lines) p ps low)) (fit_phases ps (All-tail (λ lines. All IsLow lines) p ps low))

-- The phases of what is served are those of its script.
served_by : (s : Script) (stock : ReadOutcome Blocks) (served : LoadedScript) → (stock >>= λ repository. Ok (record { repository = repository; frame = frame_of s; phases = s.phases })) ≡ Ok served → served.phases ≡ s.phases
served_by s (Ok blocks) served is = cc
served_by s (Err e) served is = absurd (cc is)

-- the lines of what a script asks for are its own
pub phases_of_script : (s : Script) (served : LoadedScript) → served_script s ≡ Ok served → served.phases ≡ s.phases
unfolding served_script
phases_of_script s served is = served_by s (stock_of [] s.manifests) served is

-- each has a lane of the sixteen
pub served_fit : (bytes : List ℕ) (served : LoadedScript) → LoadsScript bytes served → All (λ lines. All IsFit lines) served.phases
unfolding served_script
served_fit bytes served is =
    subst (All (λ lines. All IsFit lines)) (sym (served_by is.script (stock_of [] is.script.manifests) served is.asks)) (fit_phases is.script.phases (script_low bytes is.script is.reads))

-- The frame of what is served is that of its script.
served_frame : (s : Script) (stock : ReadOutcome Blocks) (served : LoadedScript) → (stock >>= λ repository. Ok (record { repository = repository; frame = frame_of s; phases = s.phases })) ≡ Ok served → served.frame ≡ frame_of s
served_frame s (Ok blocks) served is = cc
served_frame s (Err e) served is = absurd (cc is)

-- what is served can be told of
pub served_tells : (bytes : List ℕ) (served : LoadedScript) → LoadsScript bytes served → IsLegibleServed served
unfolding served_script
served_tells bytes served is =
    let fit : IsLegibleScript is.script = scripts_are_legible bytes is.script is.reads in
    record {
      frame = subst IsLegibleFrame (sym (served_frame is.script (stock_of [] is.script.manifests) served is.asks)) (record { root = fit.root; builtins = fit.builtins; rows = refl });
      phases = subst (All AreWritableLines) (sym (phases_of_script is.script served is.asks)) fit.phases;
    }

-- The lines of a script that was read can be performed.
pub fit_of_script : (bytes : List ℕ) (s : Script) (r : ReadOutcome LoadedScript) → IsScript bytes s → GivesOutcome r (served_script s) → IfOk r (λ served. All (λ lines. All IsFit lines) served.phases)
fit_of_script bytes s (Ok served) h gives = served_fit bytes served (record { script = s; reads = h; asks = gives })
fit_of_script bytes s (Err e) h gives = tt
