-- Inside.
-- What is said of an input, by what it is taken for.
use Rattle.std.specs.Prelude.{ℕ, List}
use Rattle.cm_audit.specs.Verdict.{journal_limit}
use Rattle.cm_program.specs.Audits.{IsAudited, IsJournalVerdict}
use Rattle.cm_program.specs.Checks.{IsChecked, IsManifestVerdict}
use Rattle.cm_program.specs.declared.verdict.Subject.{Subject}
use Rattle.cm_program.specs.declared.verdict.Subject.TheVariants.{Manifest, Journal}

-- how many bytes such an input has at most
abbrev pub most_bytes : Subject → ℕ
most_bytes Manifest = 1048576
most_bytes Journal = journal_limit

-- these bytes, read as such an input, get this status and this line
abbrev pub IsVerdictOn : Subject → List ℕ → ℕ → List ℕ → Type 0
IsVerdictOn Manifest = IsManifestVerdict
IsVerdictOn Journal = IsJournalVerdict

-- the bytes get this status, and their line was written as `written` says
abbrev pub IsToldOf : Subject → (List ℕ → Type 0) → ℕ → List ℕ → Type 0
IsToldOf Manifest = IsChecked
IsToldOf Journal = IsAudited

-- the bytes get some status, and their line was written as `written` says
abbrev pub IsSomeTold : Subject → (List ℕ → Type 0) → List ℕ → Type 0
IsSomeTold subject written bytes = (status : ℕ) × IsToldOf subject written status bytes
