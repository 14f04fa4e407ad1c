-- The links of all workers are as many as the entries with a link.
use Rattle.std.proofs.Common.{◌≡◌, ◌≢◌, ◌⊎◌, ℕ, zero, suc, ◌+◌, ◌<◌, ◌≤◌, List, [], ◌∷◌, All, length, cond, Bool, ne_eqb, eq-eqb, Some, inl, inr, refl, sym, ap, ◌∙◌, arith, zero-add}
use mathlib.Core.Logic.{dite}
use native.Mathlib.Decide.{dec_lt}
use Rattle.std.specs.List.{slice_get}
use Rattle.std.proofs.lemmas.List.{length-append, length-map}
use Rattle.std.proofs.lemmas.List.Elements.{All-head, All-tail}
use Rattle.cm_turn.specs.History.{entries_by}
use Rattle.cm_session.specs.declared.doorway.Accepted.{Accepted}
use Rattle.cm_session.specs.declared.served.Back.{Back}
use Rattle.cm_session.specs.Closing.{backs_of, links_from}
use Rattle.cm_session.specs.Doorway.{is_link, links_of}
use Rattle.cm_session.specs.PoolParts.{Links}
use Rattle.cm_session.proofs.lemmas.links.Accepts.{count_more}

-- the entries of one worker
abbrev pub by_worker : ℕ → List Accepted → List Accepted
by_worker k es = entries_by (λ (e : Accepted). e.worker) k es

-- how many links the n workers from k on were given
abbrev pub count_from : ℕ → ℕ → List Accepted → ℕ
count_from k zero es = 0
count_from k (suc n) es = links_of (by_worker k es) + count_from (k + 1) n es

-- An entry of another worker isn't among those of this one.
by_other : (k : ℕ) (e : Accepted) (es : List Accepted) → e.worker ≢ k → by_worker k (e ∷ es) ≡ by_worker k es
by_other k e es other = ap (λ (b : Bool). cond b (e ∷ by_worker k es) (by_worker k es)) (ne_eqb e.worker k other)

-- An entry of this worker stands before its others.
by_this : (k : ℕ) (e : Accepted) (es : List Accepted) → e.worker ≡ k → by_worker k (e ∷ es) ≡ e ∷ by_worker k es
by_this k e es this = ap (λ (b : Bool). cond b (e ∷ by_worker k es) (by_worker k es)) (eq-eqb e.worker k this)

-- The links among accepts are those in the first one and in the others.
links_first : (e : Accepted) (es : List Accepted) → links_of (e ∷ es) ≡ links_of (e ∷ []) + links_of es
links_first e es = count_more is_link (e ∷ []) es

-- Sums of equal counts are equal.
same_sum : (a a' b b' : ℕ) → a ≡ a' → b ≡ b' → a + b ≡ a' + b'
same_sum a a' b b' here rest = grind (arith, here, rest)

-- A number that is more by a part in the second of two sums makes the whole so much more.
sum_further : (a a' b b' x : ℕ) → a ≡ a' → b ≡ x + b' → a + b ≡ x + (a' + b')
sum_further a a' b b' x here rest = grind (arith, here, rest)

-- A number that is more by a part in the first of two sums makes the whole so much more.
sum_here : (a a' b b' x : ℕ) → a ≡ x + a' → b ≡ b' → a + b ≡ x + (a' + b')
sum_here a a' b b' x here rest = grind (arith, here, rest)

-- an entry of none of these workers
outside : (k n : ℕ) (e : Accepted) (es : List Accepted) → (e.worker < k) ⊎ (k + n ≤ e.worker) → count_from k n (e ∷ es) ≡ count_from k n es
outside k zero e es out = refl
outside k (suc n) e es out =
    let here = ap links_of (by_other k e es (apart out)) in
    let rest = outside (k + 1) n e es (further out) in
    same_sum (links_of (by_worker k (e ∷ es))) (links_of (by_worker k es)) (count_from (k + 1) n (e ∷ es)) (count_from (k + 1) n es) here rest where
      apart : (e.worker < k) ⊎ (k + suc n ≤ e.worker) → e.worker ≢ k
      apart (inl low) same = absurd (omega (arith, low, same))
      apart (inr high) same = absurd (omega (arith, high, same))

      further : (e.worker < k) ⊎ (k + suc n ≤ e.worker) → (e.worker < k + 1) ⊎ ((k + 1) + n ≤ e.worker)
      further (inl low) = inl (omega (arith, low))
      further (inr high) = inr (omega (arith, high))

-- an entry of one of these workers
inside : (k n : ℕ) (e : Accepted) (es : List Accepted) → k ≤ e.worker → e.worker < k + n → count_from k n (e ∷ es) ≡ links_of (e ∷ []) + count_from k n es
inside k zero e es low high = absurd (omega (arith, low, high))
inside k (suc n) e es low high =
    dite (dec_lt k e.worker)
    (λ above.
    let here = ap links_of (by_other k e es (λ same. absurd (omega (arith, above, same)))) in
    let rest = inside (k + 1) n e es (omega (arith, above)) (omega (arith, high)) in
    sum_further (links_of (by_worker k (e ∷ es))) (links_of (by_worker k es)) (count_from (k + 1) n (e ∷ es)) (count_from (k + 1) n es) (links_of (e ∷ [])) here rest)
    (λ not_above.
    let this : e.worker ≡ k = omega (arith, low, not_above) in
    let here = ap links_of (by_this k e es this) ∙ links_first e (by_worker k es) in
    let rest = outside (k + 1) n e es (inl (omega (arith, this))) in
    sum_here (links_of (by_worker k (e ∷ es))) (links_of (by_worker k es)) (count_from (k + 1) n (e ∷ es)) (count_from (k + 1) n es) (links_of (e ∷ [])) here rest)

-- all entries are of the first n workers
pub spread : (n : ℕ) (es : List Accepted) → All (λ (e : Accepted). e.worker < n) es → links_of es ≡ count_from 0 n es
spread n [] all = sym (none 0 n) where
  none : (k n : ℕ) → count_from k n [] ≡ 0
  none k zero = refl
  none k (suc n) = zero-add (count_from (k + 1) n []) ∙ none (k + 1) n
spread n (e ∷ es) all =
    let first = All-head (λ (e : Accepted). e.worker < n) e es all in
    let rest = spread n es (All-tail (λ (e : Accepted). e.worker < n) e es all) in
    let here = inside 0 n e es (grind arith) (grind (arith, first)) in
    links_first e es ∙ ap (λ (m : ℕ). links_of (e ∷ []) + m) rest ∙ sym here

-- the links of the workers are as many
pub gathered : {L : Type 0} (k : ℕ) (links : List (Links L)) (es : List Accepted) → ((i : ℕ) (r : Links L) → slice_get links i ≡ Some r → length r.items ≡ links_of (by_worker (k + i) es)) → length (links_from k links) ≡ count_from k (length links) es
gathered k [] es each = refl
gathered {L} k (r ∷ rs) es each =
    let first : length r.items ≡ links_of (by_worker k es) = each 0 r refl ∙ ap (λ (n : ℕ). links_of (by_worker n es)) (none_more k) in
    let rest = gathered (k + 1) rs es (λ i x there. each (suc i) x there ∙ ap (λ (n : ℕ). links_of (by_worker n es)) (one_on k i)) in
    let both = length-append (backs_of k r.items) (links_from (k + 1) rs) in
    both ∙ same_sum (length (backs_of k r.items)) (links_of (by_worker k es)) (length (links_from (k + 1) rs)) (count_from (k + 1) (length rs) es) (length-map {B = Back L} r.items (λ (l : L). record { worker = k; link = l }) ∙ first) rest where
      none_more : (k : ℕ) → k + 0 ≡ k
      none_more k = grind arith

      one_on : (k i : ℕ) → k + suc i ≡ (k + 1) + i
      one_on k i = grind arith
