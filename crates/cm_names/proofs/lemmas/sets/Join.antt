-- Joining pieces, one piece more.
use Rattle.std.proofs.Common.{◌≡◌, ℕ, zero, suc, ◌+◌, ◌<◌, List, [], ◌∷◌, ◌++◌, length, take, get_or, refl, sym, ap, ◌∙◌, append_assoc, arith}
use Rattle.std.specs.List.{join_with_byte}
use Rattle.std.proofs.lemmas.List.{take_more, length-take-le}

-- Pieces joined by a byte, with one piece more, are those joined, the byte and that piece.
join_behind : (c : ℕ) (xs : List (List ℕ)) (y : List ℕ) → 0 < length xs → join_with_byte c (xs ++ y ∷ []) ≡ (join_with_byte c xs ++ c ∷ []) ++ y
join_behind c [] y h = absurd (omega arith)
join_behind c (x ∷ []) y h = simp append_assoc
join_behind c (x ∷ z ∷ xs) y h = rw (join_behind c (z ∷ xs) y (omega arith)) (simp append_assoc)

-- With the next piece put behind the separator, or at the start with none, the text is that of one piece
-- more.
pub joined_more : (c : ℕ) (xs : List (List ℕ)) (i : ℕ) (d y text more : List ℕ) → i < length xs → y ≡ get_or xs i d → text ≡ join_with_byte c (take i xs) → (0 < i → more ≡ text ++ c ∷ []) → (i ≡ 0 → more ≡ text) → more ++ y ≡ join_with_byte c (take (i + 1) xs)
joined_more c xs zero d y text more lt at so_far next first =
    ap (λ t. t ++ y) (first refl ∙ so_far) ∙ at ∙ sym (ap (join_with_byte c) (take_more xs 0 d lt))
joined_more c xs (suc k) d y text more lt at so_far next first =
    let n : length (take (suc k) xs) ≡ suc k = length-take-le (suc k) xs (omega arith) in
    ap (λ t. t ++ y) (next (omega arith) ∙ ap (λ t. t ++ c ∷ []) so_far) ∙ sym (join_behind c (take (suc k) xs) y (omega arith)) ∙ ap (λ z. join_with_byte c (take (suc k) xs ++ z ∷ [])) at ∙ sym (ap (join_with_byte c) (take_more xs (suc k) d lt))
