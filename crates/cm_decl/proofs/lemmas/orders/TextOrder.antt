use Rattle.std.proofs.Common.{◌≡◌, ℕ, zero, suc, ◌≤◌, List, [], ◌∷◌, length, drop, None, refl, sym, ◌∙◌, true≢false, nat_cmp, Ordering, Equal, Less, Greater, arith}
use Rattle.std.specs.Prelude.{slice_get, true, false, not, ◌==◌}
use Rattle.std.specs.Option.{option_cmp}
use Rattle.std.specs.Ordering.{ordering_then, ordering_index}
use Rattle.std.specs.Cmp.Lexicographic.{slice_cmp}
use Rattle.cm_names.specs.Name.{IsName}

-- a name is short
pub name_short : (t : List ℕ) → IsName t → length t ≤ 255
name_short [] is = absurd is
name_short (b ∷ bs) is = is.0

-- The empty text is compared with the rest of another by that text's next byte and then its rest.
none_left : (ys : List ℕ) (i : ℕ) → slice_cmp nat_cmp [] (drop i ys) ≡ ordering_then (option_cmp nat_cmp None (slice_get ys i)) (slice_cmp nat_cmp [] (drop (suc i) ys))
none_left [] zero = refl
none_left (y ∷ ys) zero = refl
none_left [] (suc i) = refl
none_left (y ∷ ys) (suc i) = none_left ys i

-- The rest of a text is compared with the empty one by that text's next byte and then its rest.
none_right : (xs : List ℕ) (i : ℕ) → slice_cmp nat_cmp (drop i xs) [] ≡ ordering_then (option_cmp nat_cmp (slice_get xs i) None) (slice_cmp nat_cmp (drop (suc i) xs) [])
none_right [] zero = refl
none_right (x ∷ xs) zero = refl
none_right [] (suc i) = refl
none_right (x ∷ xs) (suc i) = none_right xs i

-- the element at an index decides, or else what stands behind it
pub cmp_at : (xs ys : List ℕ) (i : ℕ) → slice_cmp nat_cmp (drop i xs) (drop i ys) ≡ ordering_then (option_cmp nat_cmp (slice_get xs i) (slice_get ys i)) (slice_cmp nat_cmp (drop (suc i) xs) (drop (suc i) ys))
cmp_at [] [] zero = refl
cmp_at [] (y ∷ ys) zero = refl
cmp_at (x ∷ xs) [] zero = refl
cmp_at (x ∷ xs) (y ∷ ys) zero = refl
cmp_at [] [] (suc i) = refl
cmp_at [] (y ∷ ys) (suc i) = none_left ys i
cmp_at (x ∷ xs) [] (suc i) = none_right xs i
cmp_at (x ∷ xs) (y ∷ ys) (suc i) = cmp_at xs ys i

-- The empty text is compared with the rest of another as none is with that text's next byte.
end_left : (ys : List ℕ) (i : ℕ) → slice_cmp nat_cmp [] (drop i ys) ≡ option_cmp nat_cmp None (slice_get ys i)
end_left [] zero = refl
end_left (y ∷ ys) zero = refl
end_left [] (suc i) = refl
end_left (y ∷ ys) (suc i) = end_left ys i

-- What is left at a text's end is compared with the empty text as its next byte with none.
cmp_end_none : (xs : List ℕ) (i : ℕ) → length xs ≤ i → slice_cmp nat_cmp (drop i xs) [] ≡ option_cmp nat_cmp (slice_get xs i) None
cmp_end_none [] zero h = refl
cmp_end_none [] (suc i) h = refl
cmp_end_none (x ∷ xs) zero h = absurd (omega arith)
cmp_end_none (x ∷ xs) (suc i) h = cmp_end_none xs i (omega arith)

-- where the first text ends, the next element of the second decides
pub cmp_end : (xs ys : List ℕ) (i : ℕ) → length xs ≤ i → slice_cmp nat_cmp (drop i xs) (drop i ys) ≡ option_cmp nat_cmp (slice_get xs i) (slice_get ys i)
cmp_end [] [] zero h = refl
cmp_end [] (y ∷ ys) zero h = refl
cmp_end [] [] (suc i) h = refl
cmp_end [] (y ∷ ys) (suc i) h = end_left ys i
cmp_end (x ∷ xs) ys zero h = absurd (omega arith)
cmp_end (x ∷ xs) [] (suc i) h = cmp_end_none xs i (omega arith)
cmp_end (x ∷ xs) (y ∷ ys) (suc i) h = cmp_end xs ys i (omega arith)

-- A comparison that has decided stays so, whatever follows.
then_decided : (o rest : Ordering) → not (ordering_index o == 1) ≡ true → ordering_then o rest ≡ o
then_decided Less rest h = refl
then_decided Equal rest h = absurd (true≢false (sym h))
then_decided Greater rest h = refl

-- A comparison that comes out equal is that of what follows.
then_tied : (o rest : Ordering) → not (ordering_index o == 1) ≡ false → ordering_then o rest ≡ rest
then_tied Less rest h = absurd (true≢false h)
then_tied Equal rest h = refl
then_tied Greater rest h = absurd (true≢false h)

-- an element that isn't tied decides, and one that is leaves it to what stands behind it
pub cmp_decided : (xs ys : List ℕ) (i : ℕ) → not (ordering_index (option_cmp nat_cmp (slice_get xs i) (slice_get ys i)) == 1) ≡ true → slice_cmp nat_cmp (drop i xs) (drop i ys) ≡ option_cmp nat_cmp (slice_get xs i) (slice_get ys i)
cmp_decided xs ys i h =
    cmp_at xs ys i ∙ then_decided (option_cmp nat_cmp (slice_get xs i) (slice_get ys i)) (slice_cmp nat_cmp (drop (suc i) xs) (drop (suc i) ys)) h

-- Where the elements at an index are tied, texts compare from there as they do from the next one on.
pub cmp_tied : (xs ys : List ℕ) (i : ℕ) → not (ordering_index (option_cmp nat_cmp (slice_get xs i) (slice_get ys i)) == 1) ≡ false → slice_cmp nat_cmp (drop i xs) (drop i ys) ≡ slice_cmp nat_cmp (drop (suc i) xs) (drop (suc i) ys)
cmp_tied xs ys i h =
    cmp_at xs ys i ∙ then_tied (option_cmp nat_cmp (slice_get xs i) (slice_get ys i)) (slice_cmp nat_cmp (drop (suc i) xs) (drop (suc i) ys)) h
