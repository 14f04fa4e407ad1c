-- The lines of a workload have lanes of the sixteen.
use Rattle.std.proofs.Common.{◌≡◌, ℕ, ◌+◌, ◌%◌, ◌<◌, List, [], ◌∷◌, All, map, Ok, sym, subst, arith}
use Rattle.std.specs.List.{range_with_len}
use Rattle.std.proofs.lemmas.List.Elements.{All-nil, All-cons}
use Rattle.cm_command.specs.declared.command.Command.{Command}
use Rattle.cm_lanes.specs.ScriptInside.{IsFit}
use Rattle.cm_call.specs.Generated.{ask_of, drawn, in_turns, script_of, start_of}
use Rattle.cm_program.specs.Stock.{served_script}
use Rattle.cm_program.specs.declared.stock.LoadedScript.{LoadedScript}
use Rattle.cm_program.proofs.lemmas.texts.Stock.{phases_of_script}

-- The lane of a workload's line is below sixteen.
lane_low : (j : ℕ) → j % 4 < 16
lane_low j = omega arith

-- The lines of a workload, in turns from lane to lane, fit.
turns_fit : (j : ℕ) (cs : List Command) → All IsFit (in_turns j cs)
turns_fit j [] = All-nil IsFit
turns_fit j (c ∷ cs) = All-cons IsFit (record { line = 0; lane = j % 4; command = c }) (in_turns (j + 1) cs) (record { lane = lane_low j }) (turns_fit (j + 1) cs)

-- What the lines of a workload ask for can be performed.
pub own_fit : (g n : ℕ) (served : LoadedScript) → served_script (script_of g n) ≡ Ok served → All (λ lines. All IsFit lines) served.phases
own_fit g n served is =
    subst (All (λ lines. All IsFit lines)) (sym (phases_of_script (script_of g n) served is))
    (All-cons (λ lines. All IsFit lines) (in_turns 0 (map start_of (range_with_len 0 n))) (in_turns 0 (map ask_of (drawn n g n)) ∷ [])
    (turns_fit 0 (map start_of (range_with_len 0 n)))
    (All-cons (λ lines. All IsFit lines) (in_turns 0 (map ask_of (drawn n g n))) []
    (turns_fit 0 (map ask_of (drawn n g n))) (All-nil (λ lines. All IsFit lines))))
