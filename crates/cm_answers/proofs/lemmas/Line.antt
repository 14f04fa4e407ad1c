-- Further lines of a check of all routes.
use Rattle.std.proofs.Common.{◌≡◌, ℕ, List, [], ◌∷◌, ◌++◌, Some, None, Result, Ok, Err, ap, ◌∙◌, inl, inr, IfOk, IfErr}
use Rattle.cm_names.specs.declared.memory.Memory.{Memory}
use Rattle.cm_names.specs.declared.moniker.Moniker.{Moniker}
use Rattle.cm_world.specs.declared.answer.Checked.{Checked}
use Rattle.cm_world.specs.declared.answer.Refusal.{Refusal}
use Rattle.cm_world.specs.declared.answer.Refusal.TheVariants as refusal
use Rattle.cm_world.specs.declared.route.Route.{Route}
use Rattle.cm_answers.specs.Lines.{line_of}
use Rattle.cm_answers.specs.LinesInside.{AddsLines, end_of_line}

-- further lines, or none for lack of memory
pub adds_or_memory : (lines more : List Checked) (made : Result (List Checked) Memory) (end : Result (List Checked) Refusal) → IfOk made (λ all. all ≡ lines ++ more) → IfOk made (λ all. end ≡ Ok all) → IfErr made (λ e. end ≡ Err refusal.Memory) → AddsLines lines (Ok more) end
adds_or_memory lines more (Ok all) end is ok err = inl (ok ∙ ap Ok is)
adds_or_memory lines more (Err e) end is ok err = inr err

-- what ends the call in place of a line
pub cut_line : (lines : List Checked) (m : Moniker) (p : List ℕ) (found : Result Route Refusal) (x : Refusal) → end_of_line found ≡ Some x → AddsLines lines (line_of m p found) (Err x)
cut_line lines m p (Ok route) x is = absurd (cc is)
cut_line lines m p (Err refusal.Memory) x is = cc is
cut_line lines m p (Err refusal.HistoryFull) x is = cc is
cut_line lines m p (Err _) x is = absurd (cc is)

-- a line more, or none for lack of memory
pub more_line : (lines : List Checked) (m : Moniker) (p : List ℕ) (found : Result Route Refusal) (made : Result (List Checked) Memory) (end : Result (List Checked) Refusal) → end_of_line found ≡ None → IfOk made (λ all. all ≡ lines ++ record { moniker = m; path = Some p; result = found } ∷ []) → IfOk made (λ all. end ≡ Ok all) → IfErr made (λ e. end ≡ Err refusal.Memory) → AddsLines lines (line_of m p found) end
more_line lines m p (Ok route) made end is all ok err = adds_or_memory lines _ made end all ok err
more_line lines m p (Err refusal.Memory) made end is all ok err = absurd (cc is)
more_line lines m p (Err refusal.HistoryFull) made end is all ok err = absurd (cc is)
more_line lines m p (Err _) made end is all ok err = adds_or_memory lines _ made end all ok err
