-- Promised.
-- The run of `doctor`: a survey of a row, and the routes of all paths that the surveyed rows use.
use Rattle.std.specs.Prelude.{◌≡◌, ℕ, List, [], ◌∷◌, Result, Ok, Err, IsTrue}
use Rattle.std.specs.Prelude.{IsFalse}
use Rattle.cm_world.specs.declared.frame.Frame.{Frame}
use Rattle.cm_world.specs.declared.event.Event.TheVariants as event
use Rattle.cm_world.specs.declared.reply.Entry.{Entry}
use Rattle.cm_world.specs.declared.reply.Reply.{Reply}
use Rattle.cm_world.specs.declared.report.SurveyRow.{SurveyRow}
use Rattle.cm_world.specs.declared.answer.Answer.{Answer}
use Rattle.cm_world.specs.declared.answer.Checked.{Checked}
use Rattle.cm_world.specs.declared.answer.Refusal.{Refusal}
use Rattle.cm_world.specs.declared.answer.Refusal.TheVariants as refusal
use Rattle.cm_manager.specs.Runs.{RetriesEvent}
use Rattle.cm_answers.specs.Lines.{doctored_by, in_prefix, line_of, route_by}
use Rattle.cm_answers.specs.Lines.{surveyed_by, unresolved_line}

-- ---- from history to history

-- a run of a part of `doctor`, with the lines that it makes or what ended the call in it
abbrev pub Checks : Type 1
Checks = List Entry → List Entry → Result (List Checked) Refusal → Type 0

-- items in order, each by its rule, with the lines of all of them
pub data GathersEach {A : Type 0} (Item : A → Checks)
    : List A → List Entry → List Entry → Result (List Checked) Refusal → Type 0 where
  -- no item, no line
  no_item : {h : List Entry} → GathersEach Item [] h h (Ok [])
  -- the lines of the first item, and then those of the others
  next_item : {x : A} {xs : List A} {h₀ h₁ h₂ : List Entry} {lines : List Checked}
      {end : Result (List Checked) Refusal}
      → Item x h₀ h₁ (Ok lines)
      → GathersEach Item xs h₁ h₂ end
      → GathersEach Item (x ∷ xs) h₀ h₂ (in_prefix lines end)
  -- the call ends at the first item
  cut_item : {x : A} {xs : List A} {h₀ h₁ : List Entry} {e : Refusal}
      → Item x h₀ h₁ (Err e)
      → GathersEach Item (x ∷ xs) h₀ h₁ (Err e)
  -- memory runs out after it
  lost_item : {x : A} {xs : List A} {h₀ h₁ : List Entry} {lines : List Checked}
      → Item x h₀ h₁ (Ok lines)
      → GathersEach Item (x ∷ xs) h₀ h₁ (Err refusal.Memory)

-- one use of a row: its route is asked for at the row's incarnation, and its line has the row's
-- moniker
abbrev pub OfPath : Frame → ℕ → SurveyRow → List ℕ → Checks
OfPath f c row p h₀ h₁ end =
    (went : Result Reply Refusal) × RetriesEvent f c (event.Route row.inc p) h₀ h₁ went
    × (end ≡ line_of row.moniker p (route_by went))

-- one row of the survey: a line for each use, or one that says that it isn't resolved
pub data OfRow (f : Frame) (c : ℕ) (row : SurveyRow)
    : List Entry → List Entry → Result (List Checked) Refusal → Type 0 where
  -- where it isn't resolved it has one line, and no event is made
  unresolved : {h : List Entry}
      → IsFalse row.resolved
      → OfRow f c row h h (Ok (unresolved_line row.moniker ∷ []))
  -- where it is, it has the lines of its paths
  resolved : {h₀ h₁ : List Entry} {end : Result (List Checked) Refusal}
      → IsTrue row.resolved
      → GathersEach (OfPath f c row) row.paths h₀ h₁ end
      → OfRow f c row h₀ h₁ end

-- the run of `doctor` at the row of this incarnation
pub data Doctors (f : Frame) (c i : ℕ) : List Entry → List Entry → Result Answer Refusal → Type 0 where
  -- it is surveyed, and then each row of the survey has its lines
  surveyed : {h₀ h₁ h₂ : List Entry} {went : Result Reply Refusal} {rows : List SurveyRow}
      {end : Result (List Checked) Refusal}
      → RetriesEvent f c (event.Survey i) h₀ h₁ went
      → surveyed_by went ≡ Ok rows
      → GathersEach (OfRow f c) rows h₁ h₂ end
      → Doctors f c i h₀ h₂ (doctored_by end)
  -- its survey is refused, and so is the call
  not_surveyed : {h₀ h₁ : List Entry} {went : Result Reply Refusal} {x : Refusal}
      → RetriesEvent f c (event.Survey i) h₀ h₁ went
      → surveyed_by went ≡ Err x
      → Doctors f c i h₀ h₁ (Err x)

-- ---- what the functions promise that gather the lines
