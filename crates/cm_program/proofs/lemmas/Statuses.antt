-- Which statuses a run hasn't.
use Rattle.std.proofs.Common.{◌≡◌, ◌≢◌, ◌⊎◌, ◌≤◌, inl, inr, ℕ, ◌+◌, List, [], length, Bool, true, false, not, ◌&&◌, ◌==◌, true≢false, refl, sym, ap, ◌∙◌, arith}
use Rattle.cm_program.specs.Run.{IsCheckStatus, IsScriptRun, IsScriptStatus, IsServeStatus}

-- the run of a script that is served
abbrev pub no_run : ℕ → Bool
no_run n = not (n == 0) && (not (n == 4) && not (n == 6))

-- A status other than 0, 4 and 6 is none of a script that was run.
pub not_run : {A : Type 0} (n status : ℕ) → no_run n ≡ true → IsScriptRun status → status ≡ n → A
not_run n status other (inl none) is = absurd (true≢false (sym other ∙ ap no_run (sym is ∙ none)))
not_run n status other (inr (inl four)) is = absurd (true≢false (sym other ∙ ap no_run (sym is ∙ four)))
not_run n status other (inr (inr six)) is = absurd (true≢false (sym other ∙ ap no_run (sym is ∙ six)))

-- A status that no run of a script has: none of 0, 3, 4, 6 and 7.
abbrev pub no_script : ℕ → Bool
no_script n = no_run n && (not (n == 3) && not (n == 7))

-- A status other than 0, 3, 4, 6 and 7 is none of `run`, `environments` and `storage`.
pub not_script : {A : Type 0} (n status : ℕ) → no_script n ≡ true → IsScriptStatus status → status ≡ n → A
not_script n status other (inl (inl none)) is = absurd (true≢false (sym other ∙ ap no_script (sym is ∙ none)))
not_script n status other (inl (inr (inl four))) is = absurd (true≢false (sym other ∙ ap no_script (sym is ∙ four)))
not_script n status other (inl (inr (inr six))) is = absurd (true≢false (sym other ∙ ap no_script (sym is ∙ six)))
not_script n status other (inr (inl three)) is = absurd (true≢false (sym other ∙ ap no_script (sym is ∙ three)))
not_script n status other (inr (inr seven)) is = absurd (true≢false (sym other ∙ ap no_script (sym is ∙ seven)))

-- A status that no service has: none of 0, 5 and 6.
abbrev pub no_serve : ℕ → Bool
no_serve n = not (n == 0) && (not (n == 5) && not (n == 6))

-- A status other than 0, 5 and 6 is none of `serve`.
pub not_serve : {A : Type 0} (n status : ℕ) → no_serve n ≡ true → IsServeStatus status → status ≡ n → A
not_serve n status other (inl none) is = absurd (true≢false (sym other ∙ ap no_serve (sym is ∙ none)))
not_serve n status other (inr (inl five)) is = absurd (true≢false (sym other ∙ ap no_serve (sym is ∙ five)))
not_serve n status other (inr (inr six)) is = absurd (true≢false (sym other ∙ ap no_serve (sym is ∙ six)))

-- ---- where nothing is run

-- A status at which a script isn't run since its input failed or it is refused: 3 or 7.
abbrev pub IsStopped : ℕ → Type 0
IsStopped status = (status ≡ 3) ⊎ (status ≡ 7)

-- A status at which nothing is run: 2, 3 or 7.
abbrev pub IsIdle : ℕ → Type 0
IsIdle status = (status ≡ 2) ⊎ IsStopped status

-- A status of a script that was run isn't one at which its input failed or it was refused.
pub run_goes_on : {A : Type 0} (status : ℕ) → IsScriptRun status → IsStopped status → A
run_goes_on status is (inl three) = not_run 3 status refl is three
run_goes_on status is (inr seven) = not_run 7 status refl is seven

-- A status of a script that was run isn't one at which nothing is run.
pub run_isnt_idle : {A : Type 0} (status : ℕ) → IsScriptRun status → IsIdle status → A
run_isnt_idle status is (inl two) = not_run 2 status refl is two
run_isnt_idle status is (inr stopped) = run_goes_on status is stopped

-- A status of `run` at which nothing is run is one at which the input failed or was refused.
pub script_idles : {A : Type 0} (status : ℕ) → IsScriptStatus status → (IsStopped status → A) → IsIdle status → A
script_idles status is by (inl two) = not_script 2 status refl is two
script_idles status is by (inr stopped) = by stopped

-- A status of `serve` isn't one at which nothing is run.
pub serve_isnt_idle : {A : Type 0} (status : ℕ) → IsServeStatus status → IsIdle status → A
serve_isnt_idle status is (inl two) = not_serve 2 status refl is two
serve_isnt_idle status is (inr (inl three)) = not_serve 3 status refl is three
serve_isnt_idle status is (inr (inr seven)) = not_serve 7 status refl is seven

-- no links are none more
pub none_given : {L : Type 0} (count : ℕ) (links : List L) → links ≡ [] → count ≡ count + length links
none_given count links none =
    let no : length links ≡ 0 = ap length none in
    omega (arith, no)

-- Where no link came, no more came than any number of them.
pub few_given : {L : Type 0} (links : List L) (most : ℕ) → links ≡ [] → length links ≤ most
few_given links most none =
    let no : length links ≡ 0 = ap length none in
    omega (arith, no)

-- ---- a status that is handed on

-- A status that is told as 6 is 6.
pub at_six : {status told : ℕ} → status ≡ told → told ≡ 6 → status ≡ 6
at_six same six = same ∙ six

-- A status that is told as 6 is no number other than 6.
pub not_six : {A : Type 0} {status told n : ℕ} → status ≡ told → told ≡ 6 → status ≡ n → (6 == n) ≡ false → A
not_six same six is other = absurd (true≢false (ap (λ (m : ℕ). 6 == m) (sym (same ∙ six) ∙ is) ∙ other))

-- A status that is 2 is no number other than 2.
pub not_two : {A : Type 0} {status n : ℕ} → status ≡ 2 → status ≡ n → (2 == n) ≡ false → A
not_two two is other = absurd (true≢false (ap (λ (m : ℕ). 2 == m) (sym two ∙ is) ∙ other))

-- what holds at the status that was told holds at the one that is handed on
pub at_told : {P : Type 0} {status told n : ℕ} → status ≡ told → (told ≡ n → P) → status ≡ n → P
at_told same holds is = holds (sym same ∙ is)

-- What holds where the told status is neither of two holds where the status is neither of them.
pub but_told : {P : Type 0} {status told m n : ℕ} → status ≡ told → (told ≢ m → told ≢ n → P) → status ≢ m → status ≢ n → P
but_told same holds other another = holds (λ is. other (same ∙ is)) (λ is. another (same ∙ is))

-- A status that no check has: none of 0, 1, 3, 4 and 6.
abbrev pub no_check : ℕ → Bool
no_check n = not (n == 0) && (not (n == 1) && (not (n == 3) && (not (n == 4) && not (n == 6))))

-- A status other than 0, 1, 3, 4 and 6 is none of `check` and `audit`.
pub not_check : {A : Type 0} (n : ℕ) {status told : ℕ} → no_check n ≡ true → status ≡ told → IsCheckStatus told → status ≡ n → A
not_check n other same (inl none) is = absurd (true≢false (sym other ∙ ap no_check (sym is ∙ same ∙ none)))
not_check n other same (inr (inl one)) is = absurd (true≢false (sym other ∙ ap no_check (sym is ∙ same ∙ one)))
not_check n other same (inr (inr (inl three))) is = absurd (true≢false (sym other ∙ ap no_check (sym is ∙ same ∙ three)))
not_check n other same (inr (inr (inr (inl four)))) is = absurd (true≢false (sym other ∙ ap no_check (sym is ∙ same ∙ four)))
not_check n other same (inr (inr (inr (inr six)))) is = absurd (true≢false (sym other ∙ ap no_check (sym is ∙ same ∙ six)))

-- What holds where a check is told to end with 3 or 6 holds where nothing is run at its status.
pub check_idles : {P : Type 0} {status told : ℕ} → status ≡ told → IsCheckStatus told → ((told ≡ 3) ⊎ (told ≡ 6) → P) → IsIdle status → P
check_idles same is holds (inl two) = not_check 2 refl same is two
check_idles same is holds (inr (inl three)) = holds (inl (sym same ∙ three))
check_idles same is holds (inr (inr seven)) = not_check 7 refl same is seven
