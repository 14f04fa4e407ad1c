-- What is said of a journal that was read.
use Rattle.std.proofs.Common.{◌≡◌, ◌⊎◌, inl, inr, ℕ, ◌<◌, ◌≤◌, List, [], ◌++◌, length, Option, Some, None, sym, ap, subst, ◌∙◌, arith}
use Rattle.std.proofs.lemmas.List.{append-nil}
use Rattle.std.specs.Io.KnownBytes.{Consumes, IsAtEnd}
use Rattle.cm_audit.specs.declared.verdict.Audit.{Audit}
use Rattle.cm_audit.specs.declared.verdict.Audit.TheVariants as audit
use Rattle.cm_audit.specs.Verdict.{IsVerdict, journal_limit}
use Rattle.cm_audit.proofs.lemmas.Prefixes.{prefixes_tell}
use Rattle.cm_program.specs.Audits.{IsJournalVerdict, status_of, verdict_line}
use Rattle.cm_program.specs.Written.{OfSome}

-- the verdict that was found, with its status and line
pub verdict_by : (bytes line : List ℕ) (status : ℕ) (found : Audit) → IsVerdict bytes found → status ≡ status_of found → line ≡ verdict_line found → IsJournalVerdict bytes status line
verdict_by bytes line status found is same told = record { verdict = found; is = is; status_is = same; line_is = told }

-- is that on the whole, too, of which more was read than a journal has
pub verdict_whole : (prefix rest line : List ℕ) (status : ℕ) → journal_limit < length prefix → IsJournalVerdict prefix status line → IsJournalVerdict (prefix ++ rest) status line
verdict_whole prefix rest line status far h =
    record { verdict = h.verdict; is = prefixes_tell prefix rest h.verdict far h.is; status_is = h.status_is; line_is = h.line_is }

-- The verdict on a prefix of a journal is the whole's, where a prefix within the limit is all.
audited_whole : (prefix rest line : List ℕ) (status : ℕ) → (length prefix ≤ journal_limit → rest ≡ []) → IsJournalVerdict prefix status line → IsJournalVerdict (prefix ++ rest) status line
audited_whole prefix rest line status all h = by (either (length prefix) journal_limit)
  where
    either : (a b : ℕ) → (a ≤ b) ⊎ (b < a)
    either a b = search arith

    by : (length prefix ≤ journal_limit) ⊎ (journal_limit < length prefix) → IsJournalVerdict (prefix ++ rest) status line
    by (inl short) = subst (λ bytes. IsJournalVerdict bytes status line) (sym (ap (λ r. prefix ++ r) (all short) ∙ append-nil prefix)) h
    by (inr far) = verdict_whole prefix rest line status far h

-- A verdict on what was read is one on all that the source had left, where it tells that.
pub audited_some : (old new : Option (List ℕ)) (prefix line : List ℕ) (status : ℕ) → Consumes old new prefix → (length prefix ≤ journal_limit → IsAtEnd new) → IsJournalVerdict prefix status line → OfSome (λ bytes. IsJournalVerdict bytes status line) old
audited_some None new prefix line status gone all h = (prefix, h)
audited_some (Some whole) None prefix line status gone all h = absurd gone
audited_some (Some whole) (Some rest) prefix line status gone all h =
    subst (λ bytes. IsJournalVerdict bytes status line) (sym gone) (audited_whole prefix rest line status all h)

-- ---- a journal that is legal was read whole

-- A journal that passes, with the status zero, is within the limit.
short_by : (bytes : List ℕ) (v : Audit) (status : ℕ) → IsVerdict bytes v → status ≡ status_of v → status ≡ 0 → length bytes ≤ journal_limit
short_by bytes (audit.Legal count) status is same none = is.short
short_by bytes (audit.Illegal number given expected) status is same none = absurd (cc (same, none))
short_by bytes (audit.BadText line) status is same none = absurd (cc (same, none))

-- At status 0 the source of a journal is at its end, where it is behind one within the limit.
pub audited_ended : (bytes line : List ℕ) (status : ℕ) (left : Option (List ℕ)) → (length bytes ≤ journal_limit → IsAtEnd left) → IsJournalVerdict bytes status line → status ≡ 0 → IsAtEnd left
audited_ended bytes line status left all h none = all (short_by bytes h.verdict status h.is h.status_is none)
