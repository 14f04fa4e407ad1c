-- Counts of prefixes.
use Rattle.std.proofs.Common.{◌≡◌, ℕ, zero, suc, ◌+◌, ◌-◌, ◌≤◌, List, [], ◌∷◌, take, codes, refl, sym, subst, arith, All, true}
use Rattle.std.proofs.lemmas.List.Elements.{All-cons, All-nil}
use Rattle.cm_names.specs.Prefixes.{HasCompletion, IsLongestPrefix}
use Rattle.cm_names.specs.Urls.{is_url_byte}
use Rattle.cm_command.specs.Words.{IsUrlText}
use Rattle.cm_command.specs.Counts.{CountsPrefixes}

-- The first 0 bytes of a text are the empty text.
pub take_none : (t : List ℕ) → take 0 t ≡ []
take_none [] = refl
take_none (b ∷ bs) = refl

-- a kind that has some text has the empty prefix
pub some_prefix : {P : List ℕ → Type 0} (t : List ℕ) (n : ℕ) → CountsPrefixes P t n → HasCompletion P [] → 1 ≤ n
some_prefix {P} t zero h some = absurd (h.stops (omega arith) (subst (HasCompletion P) (sym (take_none t)) some))
some_prefix {P} t (suc n) h some = omega arith

-- the longest prefix is one byte shorter than there are prefixes
pub longest : {P : List ℕ → Type 0} (t : List ℕ) (n : ℕ) → CountsPrefixes P t n → 1 ≤ n → IsLongestPrefix P t (n - 1)
longest {P} t n h some =
    let same : n - 1 + 1 ≡ n = omega arith in
    record {
      within = omega (arith, h.within);
      begins = h.begins (n - 1) (sym same);
      stops = λ lt more. h.stops (omega arith) (subst (λ k. HasCompletion P (take k t)) same more);
    }

-- The letter `a` may stand in a URL.
one_byte : All (λ b. is_url_byte b ≡ true) (97 ∷ [])
one_byte = All-cons (λ b. is_url_byte b ≡ true) 97 [] refl (All-nil (λ b. is_url_byte b ≡ true))

-- The empty text can be completed to a URL.
pub url_begins : HasCompletion IsUrlText []
url_begins = (codes "a", record { some = omega arith; short = omega arith; bytes = one_byte })
