-- Promised.
-- What `audit` says of a journal.
use Rattle.std.specs.Prelude.{◌≡◌, ℕ, List, ◌++◌, codes}
use Rattle.cm_audit.specs.declared.verdict.Audit.{Audit}
use Rattle.cm_audit.specs.declared.verdict.Audit.TheVariants.{Legal, Illegal, BadText}
use Rattle.cm_audit.specs.Verdict.{IsVerdict, verdict_text}

-- the status that `audit` ends with for this verdict: 0 for a legal journal, else 1
abbrev pub status_of : Audit → ℕ
status_of (Legal count) = 0
status_of (Illegal number given expected) = 1
status_of (BadText line) = 1

-- the line that `audit` writes for this verdict
abbrev pub verdict_line : Audit → List ℕ
verdict_line verdict = verdict_text verdict ++ codes "\n"

-- these bytes, read as a journal, get this status and this line
pub record IsJournalVerdict (bytes : List ℕ) (status : ℕ) (line : List ℕ) : Type 0 where
  pub verdict : Audit
  pub is : IsVerdict bytes verdict
  pub status_is : status ≡ status_of verdict
  pub line_is : line ≡ verdict_line verdict

-- the bytes get this status, and their line was written as `written` says
pub record IsAudited (written : List ℕ → Type 0) (status : ℕ) (bytes : List ℕ) : Type 0 where
  pub line : List ℕ
  pub verdict : IsJournalVerdict bytes status line
  pub out : written line

-- the bytes get some status, and their line was written as `written` says
abbrev pub IsAuditTold : (List ℕ → Type 0) → List ℕ → Type 0
IsAuditTold written bytes = (status : ℕ) × IsAudited written status bytes
