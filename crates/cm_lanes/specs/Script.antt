-- Promised.
-- What lanes make of a script's lines.
use Rattle.std.specs.Prelude.{ℕ, ◌<◌, List, [], ◌∷◌, map, filter, ◌==◌, Result}
use Rattle.cm_turn.specs.History.{StartsWith}
use Rattle.cm_world.specs.declared.answer.Answer.{Answer}
use Rattle.cm_world.specs.declared.answer.Refusal.{Refusal}
use Rattle.cm_world.specs.declared.frame.Frame.{Frame}
use Rattle.cm_world.specs.declared.reply.Entry.{Entry}
use Rattle.cm_command.specs.declared.script.Line.{Line}
use Rattle.cm_manager.specs.Turns.{IsLaterHistory}
use Rattle.cm_manager.specs.Calls.{Calls}

-- a line of a script, with the answer that its caller got
pub record AnsweredLine : Type 0 where
  pub line : Line
  pub result : Result Answer Refusal

-- the lines of these answers, without the answers
abbrev pub answered_lines : List AnsweredLine → List Line
answered_lines answered = map (λ a. a.line) answered

-- the answers to the lines of one lane
abbrev pub answers_of : ℕ → List AnsweredLine → List AnsweredLine
answers_of c answered = filter (λ a. a.line.lane == c) answered

-- between two places of the history a caller performs these lines in order, each by one call with this
-- answer, and adds no entry besides
pub data PerformsLines (f : Frame) (c : ℕ) : List AnsweredLine → List Entry → List Entry → Type 0 where
  rests : {h₀ h₁ : List Entry} → IsLaterHistory c h₀ h₁ → PerformsLines f c [] h₀ h₁
  performs : {a : AnsweredLine} {others : List AnsweredLine} {h₀ h₁ h₂ : List Entry}
      → Calls f c a.line.command h₀ h₁ a.result
      → PerformsLines f c others h₁ h₂
      → PerformsLines f c (a ∷ others) h₀ h₂

-- between two places of the history each of the sixteen lanes performs its own lines of this phase
pub record IsPhase (frames : ℕ → Frame) (answered : List AnsweredLine) (h₀ h₁ : List Entry) : Type 0 where
  pub grows : StartsWith h₁ h₀
  pub lanes : (c : ℕ) → c < 16 → PerformsLines (frames c) c (answers_of c answered) h₀ h₁

-- phase after phase was performed, each from where the one before it ended
pub data ArePhases (frames : ℕ → Frame) : List (List AnsweredLine) → List Entry → List Entry → Type 0 where
  none_left : {h : List Entry} → ArePhases frames [] h h
  one_first : {answered : List AnsweredLine} {others : List (List AnsweredLine)} {h₀ h₁ h₂ : List Entry}
      → IsPhase frames answered h₀ h₁
      → ArePhases frames others h₁ h₂
      → ArePhases frames (answered ∷ others) h₀ h₂
