-- Lines that begin with the number of a lane.
use Rattle.std.proofs.Common.{◌≡◌, ◌≢◌, ℕ, ◌+◌, ◌<◌, ◌≤◌, List, [], ◌∷◌, ◌++◌, length, get_or, min, true, false, true≢false, ◌==◌, None, IsTrue, refl, sym, ap, subst, ◌∙◌, arith, rules, length-append}
use Rattle.std.specs.List.{slice_split}
use Rattle.std.proofs.lemmas.List.Splits.{slice_split_at}
use Rattle.std.proofs.lemmas.List.Elements.{All-cons}
use Rattle.std.proofs.Math.Seq.{get_or-append_seam}
use Rattle.std.specs.Prelude.{is_none}
use Rattle.cm_command.specs.declared.fault.ScriptNumber.TheVariants as fault
use Rattle.cm_command.specs.declared.command.Command.{Command}
use Rattle.cm_command.specs.declared.command.CommandFault.{CommandFault}
use Rattle.cm_command.specs.declared.command.CommandFault.TheVariants as command_fault
use Rattle.cm_command.specs.declared.script.Line.{Line}
use Rattle.cm_command.specs.declared.script_reader.Draft.{Draft}
use Rattle.cm_command.specs.Numbers.{is_digit, IsDecimal, value_behind}
use Rattle.cm_command.specs.Grammar.{LineBytes, CommandText, IsCommandFault}
use Rattle.cm_command.specs.Scripts.{TakesScriptLine, LineFault, IsLane}
use Rattle.cm_command.specs.ScriptsInside.{IsLineFault, StartsLane, fault_behind}
use Rattle.cm_command.proofs.lemmas.bytes.Pieces.{Lacks}
use Rattle.cm_command.proofs.lemmas.scripts.ScriptSteps.{none_of, some_of}

-- A digit isn't a space.
digit_is : (b : ℕ) → IsTrue (is_digit b) → (b == 32) ≡ false
digit_is b h = grind (arith, rules)

-- A decimal number has no space.
pub decimal_lacks : (t : LineBytes) → IsDecimal t → Lacks 32 t
decimal_lacks [] h = absurd h
decimal_lacks (d ∷ ds) h =
    All-cons (λ b. (b == 32) ≡ false) d ds (digit_is d h.0) (λ k x lt. digit_is _ (h.1 k x lt))

-- A line without a space doesn't begin with a lane.
pub no_space_no_lane : (t w : LineBytes) → Lacks 32 w → t ≡ w → (n : ℕ) (rest : LineBytes) → IsLane t n rest → ⊥
no_space_no_lane t w clean e n rest h =
    let whole : w ≡ h.digits ++ 32 ∷ rest = sym e ∙ h.whole in
    let lt : length h.digits < length w = omega (arith, ap length whole, length-append h.digits (32 ∷ rest)) in
    let at : get_or w (length h.digits) 0 ≡ 32 = ap (λ x. get_or x (length h.digits) 0) whole ∙ get_or-append_seam h.digits 32 rest 0 in
    true≢false (sym (ap (λ b. b == 32) at) ∙ clean (length h.digits) 0 lt)

-- A line whose first word is no decimal number doesn't begin with a lane.
pub no_decimal_no_lane : (t w more : LineBytes) → Lacks 32 w → t ≡ w ++ 32 ∷ more → (IsDecimal w → ⊥) → (n : ℕ) (rest : LineBytes) → IsLane t n rest → ⊥
no_decimal_no_lane t w more clean e never n rest h =
    let a : slice_split (λ b. b == 32) t ≡ w ∷ slice_split (λ b. b == 32) more = ap (slice_split (λ b. b == 32)) e ∙ slice_split_at (λ b. b == 32) w 32 more clean refl in
    let b : slice_split (λ b. b == 32) t ≡ h.digits ∷ slice_split (λ b. b == 32) rest = ap (slice_split (λ b. b == 32)) h.whole ∙ slice_split_at (λ b. b == 32) h.digits 32 rest (decimal_lacks h.digits h.number.0) refl in
    let same : h.digits ≡ w = cc in
    never (subst IsDecimal same h.number.0)

-- A line whose first word is a decimal number begins with that lane, given as 16 where it is above 15.
pub starts : (t w more : LineBytes) (lane : ℕ) → t ≡ w ++ 32 ∷ more → IsDecimal w → lane ≡ min (value_behind 0 w) 16 → StartsLane t (length w) lane more
starts t w more lane e decimal is = record {
  number = value_behind 0 w;
  is_lane = record { digits = w; number = (decimal, refl); whole = e };
  length_is = refl;
  number_is = is;
}

-- A line of a lane above 15, outside of blocks, has the fault that there are too many lanes.
pub lane_too_many : (d : Draft) (t : LineBytes) (digits lane : ℕ) (rest : LineBytes) → d.block ≡ None → StartsLane t digits lane rest → 15 < lane → LineFault d t fault.TooManyLanes 0
lane_too_many d t digits lane rest closed h many =
    LineFault.too_many closed h.is_lane (omega (arith, h.number_is))

-- A line of a lane, outside of blocks, has the fault that there is no root where none has come.
pub lane_no_root : (d : Draft) (t : LineBytes) (digits lane : ℕ) (rest : LineBytes) → d.block ≡ None → StartsLane t digits lane rest → lane ≤ 15 → is_none d.root ≡ true → LineFault d t fault.NoRoot 0
lane_no_root d t digits lane rest closed h few never =
    LineFault.no_root closed h.is_lane (omega (arith, h.number_is)) (none_of d.root never)

-- Where a root has come, a fault of the command behind a lane is one of the line, behind the digits.
pub lane_fault : (d : Draft) (t : LineBytes) (digits lane : ℕ) (rest : LineBytes) (e : CommandFault) → d.block ≡ None → StartsLane t digits lane rest → lane ≤ 15 → is_none d.root ≡ false → (e ≢ command_fault.Memory → IsCommandFault rest e) → IsLineFault d t (fault_behind (digits + 1) e)
lane_fault d t digits lane rest (command_fault.BadCommand at) closed h few some bad =
    let told = bad (λ same. absurd (cc same)) in
    rw h.length_is (LineFault.bad_command h.is_lane closed (omega (arith, h.number_is)) (some_of d.root some).1 told.0 told.1)
lane_fault d t digits lane rest command_fault.Memory closed h few some bad = tt

-- Where a root has come, a line of a lane with a command adds that to the phase.
pub lane_takes : (n : ℕ) (d : Draft) (t : LineBytes) (digits lane : ℕ) (rest : LineBytes) (c : Command) (ls : List Line) → d.block ≡ None → StartsLane t digits lane rest → lane ≤ 15 → is_none d.root ≡ false → CommandText rest c → ls ≡ d.phase ++ record { line = n; lane = lane; command = c } ∷ [] → TakesScriptLine n t d (record d { phase = ls; begun = true })
lane_takes n d t digits lane rest c ls closed h few some text e =
    let same : lane ≡ h.number = omega (arith, h.number_is) in
    rw (e, same) (TakesScriptLine.command closed (some_of d.root some).1 h.is_lane (omega (arith, h.number_is)) text)
