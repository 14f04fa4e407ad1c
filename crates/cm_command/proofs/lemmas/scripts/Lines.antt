-- The lines of a script, read one by one.
use Rattle.std.proofs.Common.{◌≡◌, ℕ, ◌+◌, ◌-◌, ◌<◌, ◌≤◌, [], ◌∷◌, length, min, Result, Ok, Err, MatchResult, refl, sym, subst, arith}
use Rattle.std.specs.Prelude.{IfOk, IfErr}
use Rattle.cm_command.specs.declared.fault.ScriptNumber.{ScriptNumber}
use Rattle.cm_command.specs.declared.fault.ScriptNumber.TheVariants as fault
use Rattle.cm_command.specs.declared.fault.ScriptFault.{ScriptFault}
use Rattle.cm_command.specs.declared.fault.ScriptFault.TheVariants as script_fault
use Rattle.cm_command.specs.declared.script.Script.{Script}
use Rattle.cm_command.specs.declared.script_reader.Draft.{Draft}
use Rattle.cm_command.specs.declared.script_reader.LineFault.{LineFault as Refused}
use Rattle.cm_command.specs.declared.script_reader.LineFault.TheVariants as refused
use Rattle.cm_command.specs.Grammar.{LineBytes}
use Rattle.cm_command.specs.Scripts.{TakesScriptLine, ReadsLines, Faults, Fits, FirstFault, IsWhole, IsScript, lines_of, no_draft, end_of, line_limit, script_limit}
use Rattle.cm_command.specs.ScriptsInside.{IsLineFault, ExceedsLimit, IsLastFault, IsScriptFault, Continuation, fault_at}

-- Before its first line, all bytes of a script are left, and nothing was read of it.
pub at_start : (bytes : LineBytes) (d : Draft) → d ≡ no_draft → Continuation bytes 1 d bytes
at_start bytes d same = subst (λ e. Continuation bytes 1 e bytes) (sym same) start
  where
    start : Continuation bytes 1 no_draft bytes
    start = record { place = 0; whole = omega arith; within = omega arith; early = omega arith; reads = λ e h. h; faults = λ m number at h. h }

-- Where a line ends, counted from the beginning, is the size without what is left behind it, also at the end.
pub end_is : (size place len behind rest : ℕ) → place + rest ≡ size → min rest (len + 1) + behind ≡ rest → size - behind ≡ min size (place + len + 1)
end_is size place len behind rest e f = omega arith

-- A line that ends within the limits, behind what was read of a script, fits there.
pub fits : {bytes rest : LineBytes} {n : ℕ} {d : Draft} (h : Continuation bytes n d rest) (line behind : LineBytes) → min (length rest) (length line + 1) + length behind ≡ length rest → length line ≤ line_limit → length bytes - length behind ≤ script_limit → Fits (length bytes) h.place line
fits {bytes} {rest} h line behind e short small =
    let end : length bytes - length behind ≡ min (length bytes) (h.place + length line + 1) = end_is (length bytes) h.place (length line) (length behind) (length rest) h.whole e in
    record { line = short; script = omega arith }

-- A line that fits and is in order leads on to the rest behind it, with the draft that it leaves.
pub further : {bytes rest : LineBytes} {n : ℕ} {d : Draft} (h : Continuation bytes n d rest) (line behind : LineBytes) (e : Draft) → 0 < length rest → lines_of rest ≡ line ∷ lines_of behind → length behind < length rest → min (length rest) (length line + 1) + length behind ≡ length rest → length line ≤ line_limit → length bytes - length behind ≤ script_limit → TakesScriptLine n line d e → Continuation bytes (n + 1) e behind
further {bytes} {rest} {n} {d} h line behind e some same shorter cut short small takes =
    let fit = fits h line behind cut short small in
    let end : length bytes - length behind ≡ min (length bytes) (h.place + length line + 1) = end_is (length bytes) h.place (length line) (length behind) (length rest) h.whole cut in
    let whole : length bytes - length behind + length behind ≡ length bytes = omega (arith, h.whole) in
    record {
      place = end_of (length bytes) h.place line;
      whole = omega arith;
      within = fit.script;
      early = omega (arith, h.early, h.whole);
      reads = λ f r. h.reads f (subst (λ ls. ReadsLines (length bytes) h.place n d ls f) (sym same) (ReadsLines.one_more fit takes r));
      faults = λ m number at r. h.faults m number at (subst (λ ls. Faults (length bytes) h.place n d ls m number at) (sym same) (Faults.later fit takes r));
    }

-- ---- the first fault

-- A line that passes a limit, behind lines in order, is the first fault of the script.
pub exceeds : {bytes rest : LineBytes} {n : ℕ} {d : Draft} (h : Continuation bytes n d rest) (line behind : LineBytes) (number : ScriptNumber) → lines_of rest ≡ line ∷ lines_of behind → min (length rest) (length line + 1) + length behind ≡ length rest → ExceedsLimit (length line) (length bytes - length behind) number → FirstFault bytes n number 0
exceeds {bytes} {rest} {n} {d} h line behind number same cut over =
    h.faults n number 0 (subst (λ ls. Faults (length bytes) h.place n d ls n number 0) (sym same) (by number over))
  where
    by : (number : ScriptNumber) → ExceedsLimit (length line) (length bytes - length behind) number → Faults (length bytes) h.place n d (line ∷ lines_of behind) n number 0
    by fault.LineTooLong over = Faults.too_long over
    by fault.TooLarge over =
        let end : length bytes - length behind ≡ min (length bytes) (h.place + length line + 1) = end_is (length bytes) h.place (length line) (length behind) (length rest) h.whole cut in
        Faults.too_large over.0 (omega (arith, over.1))
    by fault.BadCommand over = absurd over
    by fault.BadLane over = absurd over
    by fault.NoRoot over = absurd over
    by fault.UnclosedManifest over = absurd over
    by fault.TooManyLanes over = absurd over

-- The fault of a line that fits, behind lines in order, is that of the script, where memory lasts.
pub faulty : {bytes rest : LineBytes} {n : ℕ} {d : Draft} (h : Continuation bytes n d rest) (line behind : LineBytes) (x : Refused) → lines_of rest ≡ line ∷ lines_of behind → min (length rest) (length line + 1) + length behind ≡ length rest → length line ≤ line_limit → length bytes - length behind ≤ script_limit → IsLineFault d line x → (fault_at n x ≡ script_fault.Memory → ⊥) → IsScriptFault bytes (fault_at n x)
faulty {bytes} {rest} {n} {d} h line behind (refused.Bad number at) same cut short small bad told =
    h.faults n number at (subst (λ ls. Faults (length bytes) h.place n d ls n number at) (sym same) (Faults.here (fits h line behind cut short small) bad))
faulty h line behind refused.Memory same cut short small bad told = absurd (told refl)

-- ---- the end

-- Where what is left of a script has no bytes, it is the empty text.
pub no_lines : {bytes rest : LineBytes} {n : ℕ} {d : Draft} → Continuation bytes n d rest → length rest ≡ 0 → Continuation bytes n d []
no_lines {rest = []} h e = h
no_lines {rest = b ∷ bs} h e = absurd (omega arith)

-- Where no byte is left and the draft is this whole script, the bytes are that script.
pub is_script : {bytes rest : LineBytes} {n : ℕ} {d : Draft} → Continuation bytes n d rest → length rest ≡ 0 → (s : Script) → IsWhole d s → IsScript bytes s
is_script {bytes} {rest} {n} {d} h e s whole =
    let end = no_lines h e in
    record { draft = d; reads = end.reads d ReadsLines.no_more; whole = whole }

-- Where no byte is left, a fault that shows only then is that of the script, where memory lasts.
pub last_fault : {bytes rest : LineBytes} {n : ℕ} {d : Draft} → Continuation bytes n d rest → length rest ≡ 0 → (x : ScriptFault) → IsLastFault d n x → (x ≡ script_fault.Memory → ⊥) → IsScriptFault bytes x
last_fault h e (script_fault.Bad m fault.UnclosedManifest at) bad told =
    let end = no_lines h e in
    rw (bad.2, bad.3) (end.faults _ _ _ (Faults.unclosed bad.1))
last_fault h e (script_fault.Bad m fault.NoRoot at) bad told =
    let end = no_lines h e in rw (bad.2, bad.3) (end.faults _ _ _ (Faults.rootless bad.0 bad.1))
last_fault h e (script_fault.Bad m fault.BadCommand at) bad told = absurd bad
last_fault h e (script_fault.Bad m fault.BadLane at) bad told = absurd bad
last_fault h e (script_fault.Bad m fault.TooManyLanes at) bad told = absurd bad
last_fault h e (script_fault.Bad m fault.LineTooLong at) bad told = absurd bad
last_fault h e (script_fault.Bad m fault.TooLarge at) bad told = absurd bad
last_fault h e script_fault.Memory bad told = absurd (told refl)

-- Where no byte is left, the script that is made of the draft is the one that the bytes are.
pub ended_ok : (r : Result Script ScriptFault) {bytes rest : LineBytes} {n : ℕ} {d : Draft} → Continuation bytes n d rest → length rest ≡ 0 → MatchResult r (λ s. IsWhole d s) (λ x. IsLastFault d n x) → IfOk r (λ s. IsScript bytes s)
ended_ok (Ok s) h e whole = is_script h e s whole
ended_ok (Err x) h e bad = tt

-- Where no byte is left, the fault that comes of the draft is that of the bytes, where memory lasts.
pub ended_fault : (r : Result Script ScriptFault) {bytes rest : LineBytes} {n : ℕ} {d : Draft} → Continuation bytes n d rest → length rest ≡ 0 → MatchResult r (λ s. IsWhole d s) (λ x. IsLastFault d n x) → IfErr r (λ x. (x ≡ script_fault.Memory → ⊥) → IsScriptFault bytes x)
ended_fault (Ok s) h e whole = tt
ended_fault (Err x) h e bad = λ told. last_fault h e x bad told
