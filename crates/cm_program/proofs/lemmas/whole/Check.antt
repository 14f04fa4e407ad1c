-- What is said of a manifest that was read.
use Rattle.std.proofs.Common.{◌≤◌, length, Bool, true, false, if◌then◌else◌, nat_lt, refl, arith, ◌≡◌, ℕ, List, ◌++◌, Option, Result, Ok, Err, IfOk, codes, sym, ap, subst, ◌∙◌}
use Rattle.cm_decl.specs.declared.decl.Decl.{Decl}
use Rattle.cm_decl.specs.Clashes.{RowPlace}
use Rattle.cm_decl.specs.Faults.{DeclFault}
use Rattle.cm_decl.specs.declared.node.Node.{Node}
use Rattle.cm_decl.specs.declared.section.Section.{Section}
use Rattle.cm_names.specs.declared.memory.Memory.{Memory}
use Rattle.cm_program.specs.declared.verdict.Verdict.{Verdict}
use Rattle.cm_decl.specs.Valid.{IsValid, IsDeclFault}
use Rattle.cm_read.specs.ReadingInside.{FailsReading}
use Rattle.cm_read.specs.Texts as read_text
use Rattle.cm_read.specs.declared.fault.ReadFault.{ReadFault}
use Rattle.cm_read.specs.declared.fault.ReadFault.TheVariants as read_fault
use Rattle.cm_valid.specs.Reports.{reported}
use Rattle.cm_valid.specs.ReportsInside.{Reports}
use Rattle.cm_valid.specs.Texts as valid_text
use Rattle.cm_valid.specs.declared.fault.ValidFault.{ValidFault}
use Rattle.cm_valid.specs.declared.fault.ValidFault.TheVariants as valid_fault
use Rattle.cm_env.specs.declared.fault.EnvFault.{EnvFault}
use Rattle.cm_env.specs.Faults as environments
use Rattle.cm_env.specs.Texts as env_text
use Rattle.cm_storage.specs.declared.fault.StorageNote.{StorageNote}
use Rattle.cm_storage.specs.Faults as storage
use Rattle.cm_storage.specs.Texts as storage_text
use Rattle.cm_program.specs.Checks.{IsJudged, IsManifestVerdict}
use Rattle.std.specs.Io.KnownBytes.{IsAtEnd}
use Rattle.std.proofs.lemmas.Bool.Decides.{nat_tests}
use Rattle.cm_names.specs.Steps.{◌>>=◌}
use Rattle.cm_read.specs.Manifest.{decl_of_bytes, decl_of_text}
use Rattle.cm_read.specs.Numbers.{max_bytes}

-- ---- what is valid was read whole

-- A read that went well behind a test didn't fail by the test.
short_by : (b : Bool) (e : ReadFault) (r : Result (List ℕ) ReadFault) (f : List ℕ → Result Decl ReadFault) (d : Decl)
    → ((if b then Err e else r) >>= f) ≡ Ok d → b ≡ false
short_by true e r f d is = absurd (cc (is))
short_by false e r f d is = refl

-- Bytes that are read as a declaration are at most 1,048,576.
short_read : (bytes : List ℕ) (d : Decl) → decl_of_bytes bytes ≡ Ok d → length bytes ≤ 1048576
short_read bytes d is =
    let no : nat_lt max_bytes (length bytes) ≡ false = short_by (nat_lt max_bytes (length bytes)) _ _ decl_of_text d is in
    grind (arith, nat_tests, no)

-- A manifest that is judged with the status zero was read as a declaration.
judged_read : (read : Result Decl ReadFault) (status : ℕ) (line : List ℕ) → IsJudged read status line → status ≡ 0 → (d : Decl) × (read ≡ Ok d)
judged_read read status line (IsJudged.valid {d = d} is valid registered stored) none = (d, is)
judged_read read status line (IsJudged.unread is) none = absurd (cc (none))
judged_read read status line (IsJudged.invalid is valid) none = absurd (cc (none))
judged_read read status line (IsJudged.unregistered is valid judged) none = absurd (cc (none))
judged_read read status line (IsJudged.unstored is valid registered judged) none = absurd (cc (none))

-- At status 0 the source of a manifest is at its end, where it is behind one within the limit.
pub judged_ended : (bytes : List ℕ) (status : ℕ) (line : List ℕ) (left : Option (List ℕ)) → (length bytes ≤ 1048576 → IsAtEnd left) → IsManifestVerdict bytes status line → status ≡ 0 → IsAtEnd left
judged_ended bytes status line left all judged none =
    let read = judged_read (decl_of_bytes bytes) status line judged none in all (short_read bytes read.0 read.1)

-- A declaration that is valid in all respects is judged as valid, with the line `valid`.
judged_valid : (read : Result Decl ReadFault) (d : Decl) (line : List ℕ)
    → read ≡ Ok d → IsValid d → environments.HasNoFault d → storage.HasNoStorageFault d → line ≡ codes "valid\n" → IsJudged read 0 line
judged_valid read d line is valid registered stored told = subst (λ l. IsJudged read 0 l) (sym told) (IsJudged.valid is valid registered stored)

-- The status 0 and the line `valid` are the verdict on a valid declaration without other faults.
pub valid_verdict : (read : Result Decl ReadFault) (d : Decl) (r : Result Verdict Memory)
    → read ≡ Ok d → IsValid d → environments.HasNoFault d → storage.HasNoStorageFault d → IfOk r (λ v. (v.status ≡ 0) × (v.line ≡ codes "valid\n")) → IfOk r (λ v. IsJudged read v.status v.line)
valid_verdict read d (Ok v) is valid registered stored told =
    subst (λ s. IsJudged read s v.line) (sym told.0) (judged_valid read d v.line is valid registered stored told.1)
valid_verdict read d (Err e) is valid registered stored told = tt

-- A valid declaration with a fault in its environments gets the line of that fault.
pub judged_unregistered : (read : Result Decl ReadFault) (d : Decl) (e : EnvFault) (line : List ℕ)
    → read ≡ Ok d → IsValid d → environments.JudgesEnv d (Err e) → line ≡ env_text.fault_text e ++ codes "\n" → IsJudged read 1 line
judged_unregistered read d e line is valid judged told = subst (λ l. IsJudged read 1 l) (sym told) (IsJudged.unregistered is valid judged)

-- A valid declaration with a fault in its storage, and none before that, gets the line of that fault.
pub judged_unstored : (read : Result Decl ReadFault) (d : Decl) (n : StorageNote) (line : List ℕ)
    → read ≡ Ok d → IsValid d → environments.HasNoFault d → storage.JudgesStorage d (Err n) → line ≡ storage_text.note_text n ++ codes "\n" → IsJudged read 1 line
judged_unstored read d n line is valid registered judged told = subst (λ l. IsJudged read 1 l) (sym told) (IsJudged.unstored is valid registered judged)

-- A manifest that can't be read gets the line of the fault of its reading.
pub judged_unread : (read : Result Decl ReadFault) (f : ReadFault) (number : ℕ) (section : Section) (index : ℕ) (field : List ℕ) (line : List ℕ)
    → f ≡ read_fault.Bad number section index field → FailsReading f read → line ≡ read_text.fault_text f ++ codes "\n" → IsJudged read 1 line
judged_unread read f number section index field line known fails told =
    let is : read ≡ Err (read_fault.Bad number section index field) = subst (λ g. FailsReading g read) known fails in
    subst (λ l. IsJudged read 1 l) (sym (told ∙ ap (λ g. read_text.fault_text g ++ codes "\n") known)) (IsJudged.unread is)

-- A manifest that was read and isn't valid gets the line of the fault that is reported.
pub judged_invalid : (read : Result Decl ReadFault) (d : Decl) (e : ValidFault) (number : ℕ) (section : Section) (index : ℕ) (against : Option RowPlace) (cycle : List Node) (line : List ℕ)
    → e ≡ valid_fault.Bad number section index against cycle → read ≡ Ok d → Reports d e → line ≡ valid_text.fault_text e ++ codes "\n" → IsJudged read 1 line
judged_invalid read d e number section index against cycle line known is reports told = by (reports (λ memory. absurd (cc)))
  where
    by : (f : DeclFault) × IsDeclFault d f × (e ≡ reported f) → IsJudged read 1 line
    by found = subst (λ l. IsJudged read 1 l) (sym (told ∙ ap (λ x. valid_text.fault_text x ++ codes "\n") found.2)) (IsJudged.invalid is found.1)
