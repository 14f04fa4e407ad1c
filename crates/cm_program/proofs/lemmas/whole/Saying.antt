-- What is said on the error stream, by the status.
use Rattle.std.proofs.Common.{◌≡◌, ◌⊎◌, inl, inr, ℕ, List, Option, Bool, true, not, ◌&&◌, ◌==◌, true≢false, refl, sym, ap, ◌∙◌}
use Rattle.std.specs.Io.KnownBytes.{Keeps}
use Rattle.cm_program.specs.Run.{IsScriptRun}
use Rattle.cm_program.specs.Written.{IsSaid, SaysOnErr, usage_line, read_fault_line, door_fault_line, want_line}

-- a status at which nothing is said
abbrev IsQuiet : ℕ → Type 0
IsQuiet status = (status ≡ 0) ⊎ ((status ≡ 1) ⊎ (status ≡ 4))

-- whether a status has a line of its own
abbrev has_line : ℕ → Bool
has_line n = not (n == 0) && (not (n == 1) && not (n == 4))

-- none of those is one of these
unquiet : {A : Type 0} (n status : ℕ) → has_line n ≡ true → status ≡ n → IsQuiet status → A
unquiet n status line is (inl none) = absurd (true≢false (sym line ∙ ap has_line (sym is ∙ none)))
unquiet n status line is (inr (inl one)) = absurd (true≢false (sym line ∙ ap has_line (sym is ∙ one)))
unquiet n status line is (inr (inr four)) = absurd (true≢false (sym line ∙ ap has_line (sym is ∙ four)))

module _ {E : Type 0} (written_of : E → Option (List ℕ)) (faults_of : E → ℕ) (old new : E) where
  -- At status 2 the line that the words ask for nothing is what is said on the error stream.
  pub says_usage : (status : ℕ) → status ≡ 2 → IsSaid written_of faults_of old new usage_line → SaysOnErr written_of faults_of old new status
  says_usage status is said = record {
    usage = λ s. said;
    read = λ s. absurd (cc (is, s));
    door = λ s. absurd (cc (is, s));
    memory = λ s. absurd (cc (is, s));
    nothing = λ quiet. unquiet 2 status refl is quiet;
  }

  -- At status 3 the line that the input failed is what is said on the error stream.
  pub says_read_fault : (status : ℕ) → status ≡ 3 → IsSaid written_of faults_of old new read_fault_line → SaysOnErr written_of faults_of old new status
  says_read_fault status is said = record {
    usage = λ s. absurd (cc (is, s));
    read = λ s. said;
    door = λ s. absurd (cc (is, s));
    memory = λ s. absurd (cc (is, s));
    nothing = λ quiet. unquiet 3 status refl is quiet;
  }

  -- At status 6 the line that memory ran out is what is said on the error stream.
  pub says_want : (status : ℕ) → status ≡ 6 → IsSaid written_of faults_of old new want_line → SaysOnErr written_of faults_of old new status
  says_want status is said = record {
    usage = λ s. absurd (cc (is, s));
    read = λ s. absurd (cc (is, s));
    door = λ s. absurd (cc (is, s));
    memory = λ s. said;
    nothing = λ quiet. unquiet 6 status refl is quiet;
  }

  -- At status 5 the line that the door failed is what is said on the error stream.
  pub says_door_fault : (status : ℕ) → status ≡ 5 → IsSaid written_of faults_of old new door_fault_line → SaysOnErr written_of faults_of old new status
  says_door_fault status is said = record {
    usage = λ s. absurd (cc (is, s));
    read = λ s. absurd (cc (is, s));
    door = λ s. said;
    memory = λ s. absurd (cc (is, s));
    nothing = λ quiet. unquiet 5 status refl is quiet;
  }

  -- at 7 the line is the fault's
  pub says_other : (status : ℕ) → status ≡ 7 → SaysOnErr written_of faults_of old new status
  says_other status is = record {
    usage = λ s. absurd (cc (is, s));
    read = λ s. absurd (cc (is, s));
    door = λ s. absurd (cc (is, s));
    memory = λ s. absurd (cc (is, s));
    nothing = λ quiet. unquiet 7 status refl is quiet;
  }

  -- At status 0, 1 or 4 an error stream that is as it was has all that is said.
  pub says_nothing : (status : ℕ) → IsQuiet status → Keeps (written_of old) (written_of new) → SaysOnErr written_of faults_of old new status
  says_nothing status quiet keeps = record {
    usage = λ s. unquiet 2 status refl s quiet;
    read = λ s. unquiet 3 status refl s quiet;
    door = λ s. unquiet 5 status refl s quiet;
    memory = λ s. unquiet 6 status refl s quiet;
    nothing = λ s. keeps;
  }

  -- At the status of a verdict, 0 or 1, an error stream that is as it was has all that is said.
  pub says_verdict : (status : ℕ) → (status ≡ 0) ⊎ (status ≡ 1) → Keeps (written_of old) (written_of new) → SaysOnErr written_of faults_of old new status
  says_verdict status (inl none) keeps = says_nothing status (inl none) keeps
  says_verdict status (inr one) keeps = says_nothing status (inr (inl one)) keeps

  -- At status 4, where the output failed, an error stream that is as it was has all that is said.
  pub says_unwritten : (status : ℕ) → status ≡ 4 → Keeps (written_of old) (written_of new) → SaysOnErr written_of faults_of old new status
  says_unwritten status four keeps = says_nothing status (inr (inr four)) keeps

  -- a script's run says why where memory ran out, and else nothing
  pub says_of_run : (status : ℕ) → IsScriptRun status → (status ≡ 6 → IsSaid written_of faults_of old new want_line) → ((status ≡ 0) ⊎ (status ≡ 4) → Keeps (written_of old) (written_of new)) → SaysOnErr written_of faults_of old new status
  says_of_run status (inl none) wants keeps = says_nothing status (inl none) (keeps (inl none))
  says_of_run status (inr (inl four)) wants keeps = says_nothing status (inr (inr four)) (keeps (inr four))
  says_of_run status (inr (inr six)) wants keeps = says_want status six (wants six)

-- The rules by which search finds what is said on the error stream, by the status.
pub ruleset says = (says_usage, says_read_fault, says_want, says_door_fault, says_other, says_verdict, says_unwritten, says_of_run)
