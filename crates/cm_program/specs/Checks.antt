-- Promised.
-- What `check` says of a manifest.
use Rattle.std.specs.Prelude.{◌≡◌, ℕ, List, ◌++◌, codes, Result, Ok, Err}
use Rattle.cm_decl.specs.declared.decl.Decl.{Decl}
use Rattle.cm_decl.specs.declared.section.Section.{Section}
use Rattle.cm_decl.specs.Faults.{DeclFault}
use Rattle.cm_decl.specs.Valid.{IsValid, IsDeclFault}
use Rattle.cm_read.specs.Manifest.{decl_of_bytes}
use Rattle.cm_read.specs.Texts as read_text
use Rattle.cm_read.specs.declared.fault.ReadFault.{ReadFault}
use Rattle.cm_read.specs.declared.fault.ReadFault.TheVariants as read_fault
use Rattle.cm_valid.specs.Texts as valid_text
use Rattle.cm_valid.specs.Reports.{reported}
use Rattle.cm_env.specs.declared.fault.EnvFault.{EnvFault}
use Rattle.cm_env.specs.Faults as environments
use Rattle.cm_env.specs.Texts as env_text
use Rattle.cm_storage.specs.declared.fault.StorageNote.{StorageNote}
use Rattle.cm_storage.specs.Faults as storage
use Rattle.cm_storage.specs.Texts as storage_text

-- the status and the line for what was read of a manifest: its first fault, which is looked for by
-- reading, then by validity, then in its environments and then in its storage; or that it is valid
pub data IsJudged (read : Result Decl ReadFault) : ℕ → List ℕ → Type 0 where
  valid : {d : Decl} → read ≡ Ok d → IsValid d → environments.HasNoFault d → storage.HasNoStorageFault d
      → IsJudged read 0 (codes "valid\n")
  unread : {number index : ℕ} {section : Section} {field : List ℕ}
      → read ≡ Err (read_fault.Bad number section index field)
      → IsJudged read 1 (read_text.fault_text (read_fault.Bad number section index field) ++ codes "\n")
  invalid : {d : Decl} {f : DeclFault} → read ≡ Ok d → IsDeclFault d f
      → IsJudged read 1 (valid_text.fault_text (reported f) ++ codes "\n")
  unregistered : {d : Decl} {e : EnvFault} → read ≡ Ok d → IsValid d → environments.JudgesEnv d (Err e)
      → IsJudged read 1 (env_text.fault_text e ++ codes "\n")
  unstored : {d : Decl} {n : StorageNote} → read ≡ Ok d → IsValid d → environments.HasNoFault d
      → storage.JudgesStorage d (Err n) → IsJudged read 1 (storage_text.note_text n ++ codes "\n")

-- these bytes, read as a manifest, get this status and this line
abbrev pub IsManifestVerdict : List ℕ → ℕ → List ℕ → Type 0
IsManifestVerdict bytes status line = IsJudged (decl_of_bytes bytes) status line

-- the bytes get this status, and their line was written as `written` says
pub record IsChecked (written : List ℕ → Type 0) (status : ℕ) (bytes : List ℕ) : Type 0 where
  pub line : List ℕ
  pub verdict : IsManifestVerdict bytes status line
  pub out : written line

-- the bytes get some status, and their line was written as `written` says
abbrev pub IsVerdictWritten : (List ℕ → Type 0) → List ℕ → Type 0
IsVerdictWritten written bytes = (status : ℕ) × IsChecked written status bytes
