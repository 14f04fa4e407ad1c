-- Inside.
-- How the lines of `doctor` are put together.
use Rattle.std.specs.Prelude.{◌≡◌, ◌⊎◌, List, ◌++◌, Option, Some, None, Result, Ok, Err}
use Rattle.cm_world.specs.declared.route.Route.{Route}
use Rattle.cm_world.specs.declared.answer.Checked.{Checked}
use Rattle.cm_world.specs.declared.answer.Refusal.{Refusal}
use Rattle.cm_world.specs.declared.answer.Refusal.TheVariants as refusal

-- what ends the call in the place of a use's line
abbrev pub end_of_line : Result Route Refusal → Option Refusal
end_of_line (Err refusal.Memory) = Some refusal.Memory
end_of_line (Err refusal.HistoryFull) = Some refusal.HistoryFull
end_of_line _ = None

-- what came of some lines and further ones: all of them, unless memory runs out or the call ended
-- among the further ones
abbrev pub AddsLines : List Checked → Result (List Checked) Refusal → Result (List Checked) Refusal → Type 0
AddsLines lines (Ok more) end = (end ≡ Ok (lines ++ more)) ⊎ (end ≡ Err refusal.Memory)
AddsLines lines (Err x) end = end ≡ Err x
