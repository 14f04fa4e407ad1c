-- Bytes that pass a test, one behind the other, and texts of bytes below 128.
use Rattle.std.proofs.Common.{◌≡◌, ◌⊎◌, ℕ, ◌<◌, ◌≤◌, List, ◌++◌, length, take, get_or, min, Bool, true, true≢false, All, sym, ap, subst, ◌∙◌, arith, length-append}
use Rattle.std.specs.List.{prefix_len}
use Rattle.std.specs.Str.{IsUtf8}
use Rattle.std.proofs.lemmas.Str.{IsUtf8-from_ascii}
use Rattle.std.proofs.lemmas.List.{length-take-le, get_or-take, get_or_append_left}
use Rattle.std.proofs.lemmas.List.Sums.{prefix_len-le-length, prefix_len_passes, prefix_len_stops}
use Rattle.std.proofs.lemmas.Str.Ascii.{IsAscii-from_all}

-- A text of bytes below 128 is UTF-8.
pub ascii_text : (t : List ℕ) → All (λ b. b < 128) t → IsUtf8 t
ascii_text t h = IsUtf8-from_ascii t (IsAscii-from_all t h)

-- the bytes up to the first that fails pass
pub run_passes : (test : ℕ → Bool) (w : List ℕ) (i : ℕ) → i ≤ prefix_len test w → All (λ b. test b ≡ true) (take i w)
run_passes test w i le k d lt =
    let bound : prefix_len test w ≤ length w = prefix_len-le-length test w in
    let len : length (take i w) ≡ i = length-take-le i w (omega arith) in
    subst (λ b. test b ≡ true) (sym (get_or-take i w k d (omega arith))) (prefix_len_passes test w k d (omega arith))

-- A run of bytes that pass a test ends before one that doesn't: with that one among them they don't all pass.
pub run_stops : (test : ℕ → Bool) (w r : List ℕ) (n : ℕ) → n ≤ length w → prefix_len test w < n → All (λ b. test b ≡ true) (take n w ++ r) → ⊥
run_stops test w r n le past all =
    let m : ℕ = prefix_len test w in
    let len : length (take n w) ≡ n = length-take-le n w le in
    let passes : test (get_or (take n w ++ r) m 0) ≡ true = all m 0 (omega (arith, length-append (take n w) r)) in
    let here : get_or (take n w ++ r) m 0 ≡ get_or w m 0 = get_or_append_left (take n w) r 0 m (omega arith) ∙ get_or-take n w m 0 (omega arith) in
    true≢false (sym passes ∙ ap test here ∙ prefix_len_stops test w 0 (omega arith))

-- The lesser of two numbers is one of them.
pub least : (m k n : ℕ) → n ≡ min m k → (n ≡ k) ⊎ (n ≡ m)
least m k n e = grind arith
