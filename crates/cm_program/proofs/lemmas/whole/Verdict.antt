-- What is said of an input, by what it is taken for.
use Rattle.std.proofs.Common.{◌≡◌, ◌⊎◌, inl, inr, ℕ, ◌<◌, ◌≤◌, List, [], ◌++◌, length, Bool, true, false, if◌then◌else◌, nat_lt, Option, Some, None, Result, Ok, Err, refl, sym, ap, subst, ◌∙◌, arith, length-append}
use Rattle.std.proofs.lemmas.Bool.Decides.{nat_tests}
use Rattle.std.proofs.lemmas.List.{append-nil}
use Rattle.std.specs.Io.KnownBytes.{Consumes, IsAtEnd}
use Rattle.cm_names.specs.Steps.{◌>>=◌}
use Rattle.cm_decl.specs.declared.decl.Decl.{Decl}
use Rattle.cm_read.specs.Manifest.{decl_of_bytes, decl_of_text}
use Rattle.cm_read.specs.Numbers.{max_bytes}
use Rattle.cm_read.specs.declared.fault.ReadFault.{ReadFault}
use Rattle.cm_program.specs.Audits.{IsJournalVerdict}
use Rattle.cm_program.specs.Checks.{IsJudged, IsManifestVerdict}
use Rattle.cm_program.specs.Verdicts.{IsSomeTold, IsToldOf, IsVerdictOn, most_bytes}
use Rattle.cm_program.specs.Written.{OfSome}
use Rattle.cm_program.specs.declared.verdict.Subject.{Subject}
use Rattle.cm_program.specs.declared.verdict.Subject.TheVariants.{Manifest, Journal}
use Rattle.cm_program.proofs.lemmas.whole.Audit.{audited_ended, audited_some}
use Rattle.cm_program.proofs.lemmas.whole.Check.{judged_ended}

-- ---- a manifest of which more was read than one has is read as any other such

-- Two reads that fail by the same test are the same.
same_far : (b c : Bool) (e : ReadFault) (r s : Result (List ℕ) ReadFault) (f : List ℕ → Result Decl ReadFault)
    → b ≡ true → c ≡ true → ((if b then Err e else r) >>= f) ≡ ((if c then Err e else s) >>= f)
same_far true true e r s f is so = refl
same_far true false e r s f is so = absurd (cc so)
same_far false c e r s f is so = absurd (cc is)

-- Bytes of two manifests that are both past the limit are read the same.
far_read : (bytes more : List ℕ) → 1048576 < length bytes → 1048576 < length more → decl_of_bytes bytes ≡ decl_of_bytes more
far_read bytes more far so =
    let one : nat_lt max_bytes (length bytes) ≡ true = grind (arith, nat_tests, far) in
    let other : nat_lt max_bytes (length more) ≡ true = grind (arith, nat_tests, so) in
    same_far (nat_lt max_bytes (length bytes)) (nat_lt max_bytes (length more)) _ _ _ decl_of_text one other

-- The verdict on a prefix of a manifest is the whole's, where a prefix within the limit is all.
judged_whole : (prefix rest line : List ℕ) (status : ℕ) → (length prefix ≤ 1048576 → rest ≡ []) → IsManifestVerdict prefix status line → IsManifestVerdict (prefix ++ rest) status line
judged_whole prefix rest line status all h = by (either (length prefix) 1048576)
  where
    either : (a b : ℕ) → (a ≤ b) ⊎ (b < a)
    either a b = search arith

    longer : 1048576 < length prefix → 1048576 < length (prefix ++ rest)
    longer far = let both = length-append prefix rest in omega (arith, far, both)

    by : (length prefix ≤ 1048576) ⊎ (1048576 < length prefix) → IsManifestVerdict (prefix ++ rest) status line
    by (inl short) = subst (λ bytes. IsManifestVerdict bytes status line) (sym (ap (λ r. prefix ++ r) (all short) ∙ append-nil prefix)) h
    by (inr far) = subst (λ read. IsJudged read status line) (far_read prefix (prefix ++ rest) far (longer far)) h

-- The verdict on what was read of a manifest is that on what its source had left.
judged_some : (old new : Option (List ℕ)) (prefix line : List ℕ) (status : ℕ) → Consumes old new prefix → (length prefix ≤ 1048576 → IsAtEnd new) → IsManifestVerdict prefix status line → OfSome (λ bytes. IsManifestVerdict bytes status line) old
judged_some None new prefix line status gone all h = (prefix, h)
judged_some (Some whole) None prefix line status gone all h = absurd gone
judged_some (Some whole) (Some rest) prefix line status gone all h =
    subst (λ bytes. IsManifestVerdict bytes status line) (sym gone) (judged_whole prefix rest line status all h)

-- ---- what was read is known of all that the source had left

-- The verdict on what was read of a source is the verdict on all that the source had left.
pub verdict_some : (subject : Subject) (old new : Option (List ℕ)) (prefix line : List ℕ) (status limit : ℕ) → limit ≡ most_bytes subject → Consumes old new prefix → (length prefix ≤ limit → IsAtEnd new) → IsVerdictOn subject prefix status line → OfSome (λ bytes. IsVerdictOn subject bytes status line) old
verdict_some Manifest old new prefix line status limit same gone all h =
    judged_some old new prefix line status gone (subst (λ n. length prefix ≤ n → IsAtEnd new) same all) h
verdict_some Journal old new prefix line status limit same gone all h =
    audited_some old new prefix line status gone (subst (λ n. length prefix ≤ n → IsAtEnd new) same all) h

-- At status 0 the source of an input is at its end, where it is behind one within its limit.
pub verdict_ended : (subject : Subject) (bytes line : List ℕ) (status limit : ℕ) (left : Option (List ℕ)) → limit ≡ most_bytes subject → (length bytes ≤ limit → IsAtEnd left) → IsVerdictOn subject bytes status line → status ≡ 0 → IsAtEnd left
verdict_ended Manifest bytes line status limit left same all h =
    judged_ended bytes status line left (subst (λ n. length bytes ≤ n → IsAtEnd left) same all) h
verdict_ended Journal bytes line status limit left same all h =
    audited_ended bytes line status left (subst (λ n. length bytes ≤ n → IsAtEnd left) same all) h

-- ---- and its line is written

-- A verdict on bytes whose line is written is told of them.
told_of : (subject : Subject) (written : List ℕ → Type 0) (status : ℕ) (line bytes : List ℕ) → IsVerdictOn subject bytes status line → written line → IsToldOf subject written status bytes
told_of Manifest written status line bytes h out = record { line = line; verdict = h; out = out }
told_of Journal written status line bytes h out = record { line = line; verdict = h; out = out }

-- What holds of some bytes holds of what follows from it.
some_of : (P Q : List ℕ → Type 0) (left : Option (List ℕ)) → ((bytes : List ℕ) → P bytes → Q bytes) → OfSome P left → OfSome Q left
some_of P Q None by h = (h.0, by h.0 h.1)
some_of P Q (Some bytes) by h = by bytes h

-- A verdict on what the source had left, whose line was written, is told at its status.
pub told_at : (subject : Subject) (written : List ℕ → Type 0) (status n : ℕ) (line : List ℕ) (left : Option (List ℕ)) → OfSome (λ bytes. IsVerdictOn subject bytes status line) left → status ≡ n → written line → OfSome (IsToldOf subject written n) left
told_at subject written status n line left known is out =
    subst (λ m. OfSome (IsToldOf subject written m) left) is
    (some_of _ _ left (λ bytes h. told_of subject written status line bytes h out) known)

-- A verdict on what the source had left, whose line was written, is told at some status.
pub told_some : (subject : Subject) (written : List ℕ → Type 0) (status : ℕ) (line : List ℕ) (left : Option (List ℕ)) → OfSome (λ bytes. IsVerdictOn subject bytes status line) left → written line → OfSome (IsSomeTold subject written) left
told_some subject written status line left known out =
    some_of _ _ left (λ bytes h. (status, told_of subject written status line bytes h out)) known
