-- Lemmas on what is asked of a runner.
use Rattle.std.proofs.Common.{◌≡◌, ℕ, true, false, List, [], ◌∷◌, ◌++◌, codes, Result, Ok, Err, OnErr, subst, sym, ap, ◌∙◌}
use Rattle.cm_gate.specs.Asks.{AsksHalt, AsksInVain, AsksLaunch, FailsHalt, FailsLaunch, Gives, IsAnswered, IsUnanswered, IsUnheard, is_whole, nothing, one_piece}
use Rattle.cm_gate.specs.Failures.{is_failed_halt, is_failed_launch}
use Rattle.cm_gate.specs.Runner.{halted_by, launched_by, question_line}
use Rattle.cm_gate.specs.declared.asked.Halted.{Halted}
use Rattle.cm_gate.specs.declared.asked.Job.{Job}
use Rattle.cm_gate.specs.declared.asked.Launched.{Launched}

-- No bytes are given where nothing was read yet.
pub gives_none : {C : Type 0} (gave : C → List ℕ → C → Type 0) (here : C) (bytes : List ℕ) → bytes ≡ [] → Gives gave here bytes here
gives_none gave here bytes empty = subst (λ (b : List ℕ). Gives gave here b here) (sym empty) nothing

-- With a piece more, which was read at last, all bytes are given.
pub gives_more : {C : Type 0} (gave : C → List ℕ → C → Type 0) (before between now : C) (bytes piece all : List ℕ) → Gives gave before bytes between → is_whole bytes ≡ false → gave between piece now → all ≡ bytes ++ piece → Gives gave before all now
gives_more gave before between now bytes piece all first short then is = subst (λ (b : List ℕ). Gives gave before b now) (sym is) (one_piece first short then)

-- What holds whatever the error is.
pub at_err : {T E : Type 0} (result : Result T E) (P : Type 0) → P → OnErr result P
at_err (Ok x) P holds = tt
at_err (Err y) P holds = holds

module _ {N C : Type 0} (connected : N → List ℕ → C → Type 0) (wrote gave : C → List ℕ → C → Type 0) where
  -- a connection was made, a line was written on it, and an answer was read
  pub is_answered : (net : N) (place question line answer : List ℕ) (made asked now : C) → connected net place made → wrote made line asked → line ≡ question → Gives gave asked answer now → is_whole answer ≡ true → IsAnswered connected wrote gave net place question answer now
  is_answered net place question line answer made asked now connects wrote_line is hears whole = record {
    made = made;
    asked = asked;
    connects = connects;
    asks = subst (λ (l : List ℕ). wrote made l asked) is wrote_line;
    hears = hears;
    whole = whole;
  }

  -- the answer to a launch was taken
  pub asks_launch : (net : N) (place : List ℕ) (job : Job) (came : Launched) (answer : List ℕ) (heard told : C) → IsAnswered connected wrote gave net place (question_line (codes "launch") job) answer heard → wrote heard (codes "taken" ++ 10 ∷ []) told → came ≡ launched_by answer → AsksLaunch connected wrote gave net place job came
  asks_launch net place job came answer heard told answered takes means = record {
    answer = answer;
    means = means;
    taken = record { heard = heard; told = told; answered = answered; takes = takes };
  }

  -- the answer to a halt was taken
  pub asks_halt : (net : N) (place : List ℕ) (job : Job) (came : Halted) (answer : List ℕ) (heard told : C) → IsAnswered connected wrote gave net place (question_line (codes "halt") job) answer heard → wrote heard (codes "taken" ++ 10 ∷ []) told → came ≡ halted_by answer → AsksHalt connected wrote gave net place job came
  asks_halt net place job came answer heard told answered takes means = record {
    answer = answer;
    means = means;
    taken = record { heard = heard; told = told; answered = answered; takes = takes };
  }

module _ {N C : Type 0} (connected : N → List ℕ → C → Type 0) (unconnected : N → List ℕ → N → Type 0) (wrote unsent gave : C → List ℕ → C → Type 0) (unheard : C → C → Type 0) where
  -- a connection was made, and a line wasn't written on it
  pub not_written : (before net : N) (place at question line : List ℕ) (made now : C) → connected net at made → at ≡ place → unsent made line now → line ≡ question → IsUnanswered connected unconnected wrote unsent gave unheard before place question net
  not_written before net place at question line made now connects here fails is = IsUnanswered.not_written (subst (λ (p : List ℕ). connected net p made) here connects) (subst (λ (l : List ℕ). unsent made l now) is fails)

  -- a line was written, and no whole answer was read
  pub not_heard : (before net : N) (place at question line : List ℕ) (made asked now : C) → connected net at made → at ≡ place → wrote made line asked → line ≡ question → IsUnheard gave unheard asked now → IsUnanswered connected unconnected wrote unsent gave unheard before place question net
  not_heard before net place at question line made asked now connects here wrote_line is fails = IsUnanswered.not_heard (subst (λ (p : List ℕ). connected net p made) here connects) (subst (λ (l : List ℕ). wrote made l asked) is wrote_line) fails

  -- a launch failed since the whole answer is none that is known
  pub launch_unknown : (before net : N) (place : List ℕ) (job : Job) (came : Launched) (answer : List ℕ) (heard : C) → IsAnswered connected wrote gave net place (question_line (codes "launch") job) answer heard → came ≡ launched_by answer → is_failed_launch came ≡ true → FailsLaunch connected unconnected wrote unsent gave unheard before place job net
  launch_unknown before net place job came answer heard answered means fails = AsksInVain.unknown answered (sym (ap is_failed_launch means) ∙ fails)

  -- a launch failed since it couldn't be told that its answer is taken
  pub launch_untaken : (before net : N) (place : List ℕ) (job : Job) (came : Launched) (answer : List ℕ) (heard now : C) → IsAnswered connected wrote gave net place (question_line (codes "launch") job) answer heard → came ≡ launched_by answer → is_failed_launch came ≡ false → unsent heard (codes "taken" ++ 10 ∷ []) now → FailsLaunch connected unconnected wrote unsent gave unheard before place job net
  launch_untaken before net place job came answer heard now answered means goes unsent_taken = AsksInVain.untaken answered (sym (ap is_failed_launch means) ∙ goes) unsent_taken

  -- a halt failed since the whole answer is none that is known
  pub halt_unknown : (before net : N) (place : List ℕ) (job : Job) (came : Halted) (answer : List ℕ) (heard : C) → IsAnswered connected wrote gave net place (question_line (codes "halt") job) answer heard → came ≡ halted_by answer → is_failed_halt came ≡ true → FailsHalt connected unconnected wrote unsent gave unheard before place job net
  halt_unknown before net place job came answer heard answered means fails = AsksInVain.unknown answered (sym (ap is_failed_halt means) ∙ fails)

  -- a halt failed since it couldn't be told that its answer is taken
  pub halt_untaken : (before net : N) (place : List ℕ) (job : Job) (came : Halted) (answer : List ℕ) (heard now : C) → IsAnswered connected wrote gave net place (question_line (codes "halt") job) answer heard → came ≡ halted_by answer → is_failed_halt came ≡ false → unsent heard (codes "taken" ++ 10 ∷ []) now → FailsHalt connected unconnected wrote unsent gave unheard before place job net
  halt_untaken before net place job came answer heard now answered means goes unsent_taken = AsksInVain.untaken answered (sym (ap is_failed_halt means) ∙ goes) unsent_taken
