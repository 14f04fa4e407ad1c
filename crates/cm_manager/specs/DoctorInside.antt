-- Inside.
-- What the functions promise that gather the lines of `doctor`.
use Rattle.std.specs.Prelude.{◌≡◌, ℕ, List, Result}
use Rattle.cm_world.specs.declared.frame.Frame.{Frame}
use Rattle.cm_world.specs.declared.event.Event.TheVariants as event
use Rattle.cm_world.specs.declared.reply.Entry.{Entry}
use Rattle.cm_world.specs.declared.reply.Reply.{Reply}
use Rattle.cm_world.specs.declared.report.SurveyRow.{SurveyRow}
use Rattle.cm_world.specs.declared.answer.Checked.{Checked}
use Rattle.cm_world.specs.declared.answer.Refusal.{Refusal}
use Rattle.cm_manager.specs.Runs.{RetriesEvent}
use Rattle.cm_answers.specs.Lines.{in_prefix}
use Rattle.cm_answers.specs.LinesInside.{AddsLines}
use Rattle.cm_answers.specs.Lines.{surveyed_by}
use Rattle.cm_manager.specs.Doctor.{Checks}

-- by this rule, after these lines, unless memory runs out after it
abbrev pub Adding : Checks → List Checked → Checks
Adding Rule lines h₀ h₁ end = (more : Result (List Checked) Refusal) × Rule h₀ h₁ more
    × AddsLines lines more end

-- by this rule, after these lines
abbrev pub Gathering : Checks → List Checked → Checks
Gathering Rule lines h₀ h₁ end =
    (more : Result (List Checked) Refusal) × Rule h₀ h₁ more × (end ≡ in_prefix lines more)

-- the rows of a survey, or what ended the call
abbrev pub Surveying : Frame → ℕ → ℕ → List Entry → List Entry → Result (List SurveyRow) Refusal → Type 0
Surveying f c i h₀ h₁ rows =
    (went : Result Reply Refusal) × RetriesEvent f c (event.Survey i) h₀ h₁ went × (rows ≡ surveyed_by went)
