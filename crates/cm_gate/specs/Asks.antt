-- Inside.
-- What is said over a connection to a runner.
use Rattle.std.specs.Prelude.{◌≡◌, ◌⊎◌, ℕ, nat_eq, nat_le, Bool, true, false, ◌||◌}
use Rattle.std.specs.Prelude.{List, [], ◌∷◌, ◌++◌, codes, length}
use Rattle.std.specs.List.{ends_with}
use Rattle.cm_gate.specs.Failures.{is_failed_halt, is_failed_launch}
use Rattle.cm_gate.specs.Runner.{halted_by, launched_by, question_line}
use Rattle.cm_gate.specs.declared.asked.Job.{Job}
use Rattle.cm_gate.specs.declared.asked.Launched.{Launched}
use Rattle.cm_gate.specs.declared.asked.Halted.{Halted}

-- whether an answer is whole: it ends with a line feed, or has as many bytes as an answer may have
abbrev pub is_whole : List ℕ → Bool
is_whole answer = ends_with nat_eq answer (10 ∷ []) || nat_le 16 (length answer)

-- these bytes were read in pieces, from where a connection stood to where it stands now, and none was read
-- once the answer was whole
pub data Gives {C : Type 0} (gave : C → List ℕ → C → Type 0) : C → List ℕ → C → Type 0 where
  nothing : {here : C} → Gives gave here [] here
  one_piece : {before between now : C} {bytes piece : List ℕ}
      → Gives gave before bytes between
      → is_whole bytes ≡ false
      → gave between piece now
      → Gives gave before (bytes ++ piece) now

-- no whole answer was read: reading failed, or the end came, while there was a part of one at most
pub record IsUnheard {C : Type 0} (gave : C → List ℕ → C → Type 0) (unheard : C → C → Type 0)
    (asked now : C) : Type 0 where
  pub part : List ℕ
  pub before : C
  pub hears : Gives gave asked part before
  pub short : is_whole part ≡ false
  pub ends : unheard before now ⊎ gave before [] now

-- at most one connection was asked for, at this place, from where a network stood to where it stands now
abbrev pub DialsOnce : {N : Type 0} → (N → List ℕ → N → Type 0) → N → List ℕ → N → Type 0
DialsOnce dialed before place now = (now ≡ before) ⊎ dialed before place now

module _ {N C : Type 0} (connected : N → List ℕ → C → Type 0) (wrote gave : C → List ℕ → C → Type 0) where
  -- a connection was made to a place, the question was the first that was written on it, and the
  -- whole answer was read after that
  pub record IsAnswered (net : N) (place question answer : List ℕ) (now : C) : Type 0 where
    pub made : C
    pub asked : C
    pub connects : connected net place made
    pub asks : wrote made question asked
    pub hears : Gives gave asked answer now
    pub whole : is_whole answer ≡ true

  -- after the answer it was written that the answer is taken
  pub record IsTaken (net : N) (place question answer : List ℕ) : Type 0 where
    pub heard : C
    pub told : C
    pub answered : IsAnswered net place question answer heard
    pub takes : wrote heard (codes "taken" ++ 10 ∷ []) told

  -- a runner was asked to launch a program, and the launch came to what its answer means, which was
  -- taken
  pub record AsksLaunch (net : N) (place : List ℕ) (job : Job) (came : Launched) : Type 0 where
    pub answer : List ℕ
    pub means : came ≡ launched_by answer
    pub taken : IsTaken net place (question_line (codes "launch") job) answer

  -- a runner was asked to halt a program, and the halt came to what its answer means, which was taken
  pub record AsksHalt (net : N) (place : List ℕ) (job : Job) (came : Halted) : Type 0 where
    pub answer : List ℕ
    pub means : came ≡ halted_by answer
    pub taken : IsTaken net place (question_line (codes "halt") job) answer

module _ {N C : Type 0} (connected : N → List ℕ → C → Type 0) (unconnected : N → List ℕ → N → Type 0)
    (wrote unsent gave : C → List ℕ → C → Type 0) (unheard : C → C → Type 0) where
  -- why there is no answer to a question, from where a network stood to where it stands now
  pub data IsUnanswered (before : N) (place question : List ℕ) (net : N) : Type 0 where
    -- nobody was asked, as where memory runs out for the question
    not_asked : net ≡ before → IsUnanswered before place question net
    -- a connection was asked for, and not made
    not_made : unconnected before place net → IsUnanswered before place question net
    -- it was made, and the question wasn't written
    not_written : {made now : C} → connected net place made → unsent made question now
        → IsUnanswered before place question net
    -- the question was written, and no whole answer was read
    not_heard : {made asked now : C} → connected net place made → wrote made question asked
        → IsUnheard gave unheard asked now → IsUnanswered before place question net

  -- why a question came to a failure, where these answers mean one
  pub data AsksInVain (means_failure : List ℕ → Bool) (before : N) (place question : List ℕ) (net : N)
      : Type 0 where
    -- there is no answer
    unanswered : IsUnanswered before place question net → AsksInVain means_failure before place question net
    -- the whole answer means a failure
    unknown : {answer : List ℕ} {heard : C} → IsAnswered connected wrote gave net place question answer heard
        → means_failure answer ≡ true → AsksInVain means_failure before place question net
    -- the answer means none, and it couldn't be written that it is taken
    untaken : {answer : List ℕ} {heard now : C}
        → IsAnswered connected wrote gave net place question answer heard → means_failure answer ≡ false
        → unsent heard (codes "taken" ++ 10 ∷ []) now → AsksInVain means_failure before place question net

  -- why the launch of a program failed
  abbrev pub FailsLaunch : N → List ℕ → Job → N → Type 0
  FailsLaunch before place job net = AsksInVain (λ answer. is_failed_launch (launched_by answer))
      before place (question_line (codes "launch") job) net

  -- why the halt of a program failed
  abbrev pub FailsHalt : N → List ℕ → Job → N → Type 0
  FailsHalt before place job net = AsksInVain (λ answer. is_failed_halt (halted_by answer))
      before place (question_line (codes "halt") job) net
