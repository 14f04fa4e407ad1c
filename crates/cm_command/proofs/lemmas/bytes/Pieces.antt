-- Pieces of bytes, and lines.
use Rattle.std.proofs.Common.{◌≡◌, ℕ, suc, ◌+◌, ◌<◌, List, [], ◌∷◌, ◌++◌, ◌*◌, ◌-◌, length, take, drop, get_or, false, ◌==◌, Some, All, refl, sym, ap, subst, ◌∙◌, arith, eqb-true, add-one, min}
use Rattle.std.specs.Prelude.{position}
use Rattle.std.proofs.Math.Seq.{drop-cons, drop-length}
use Rattle.std.proofs.lemmas.List.{take-append-drop, get_or-take, length-take-le, take_more, take_rest}
use Rattle.std.proofs.lemmas.List.Quantifiers.{position-Some}
use Rattle.cm_command.specs.Numbers.{value_behind}
use Rattle.cm_command.specs.Scripts.{lines_of, in_prefix}

-- no byte of the list is k
abbrev pub Lacks : ℕ → List ℕ → Type 0
Lacks k xs = All (λ b. (b == k) ≡ false) xs

-- What stands before the first separator has no separator in it.
pub piece_clean : (k : ℕ) (xs : List ℕ) (i : ℕ) → position (λ b. b == k) xs ≡ Some i → Lacks k (take i xs)
piece_clean k xs i e j d lt =
    let found = position-Some (λ b. b == k) xs i d e in
    let within : i < length xs = found.0 in
    let long : length (take i xs) ≡ i = length-take-le i xs (omega arith) in
    let below : j < i = omega arith in
    subst (λ b. (b == k) ≡ false) (sym (get_or-take i xs j d below)) (found.2 j below)

-- A text with a separator is what stands before the first, the separator, and what stands behind it.
pub piece_whole : (k : ℕ) (xs : List ℕ) (i : ℕ) → position (λ b. b == k) xs ≡ Some i → xs ≡ take i xs ++ k ∷ drop (i + 1) xs
piece_whole k xs i e =
    let found = position-Some (λ b. b == k) xs i 0 e in
    let at : get_or xs i 0 ≡ k = eqb-true (get_or xs i 0) k found.1 in
    sym (take-append-drop i xs) ∙ ap (λ r. take i xs ++ r) (drop-cons xs i 0 found.0) ∙ ap (λ b. take i xs ++ b ∷ drop (suc i) xs) at ∙ ap (λ n. take i xs ++ k ∷ drop n xs) (sym (add-one i))

-- What is left of a list behind its first byte lacks a byte that the list lacks.
tail_lacks : (k b : ℕ) (bs : List ℕ) → Lacks k (b ∷ bs) → Lacks k bs
tail_lacks k b bs h j d lt = h (suc j) d (omega arith)

-- The lines of a text without line feed, a line feed and a rest are that text and the rest's lines.
pub lines_at : (t rest : List ℕ) → Lacks 10 t → lines_of (t ++ 10 ∷ rest) ≡ t ∷ lines_of rest
lines_at [] rest h = refl
lines_at (b ∷ bs) rest h =
    let here : (b == 10) ≡ false = h 0 b (omega arith) in
    rw here (ap (in_prefix b) (lines_at bs rest (tail_lacks 10 b bs h)))

-- A byte and more, without a line feed among them, are a single line.
last_line : (b : ℕ) (bs : List ℕ) → Lacks 10 (b ∷ bs) → lines_of (b ∷ bs) ≡ (b ∷ bs) ∷ []
last_line b [] h = let here : (b == 10) ≡ false = h 0 b (omega arith) in rw here refl
last_line b (c ∷ cs) h =
    let here : (b == 10) ≡ false = h 0 b (omega arith) in
    rw here (ap (in_prefix b) (last_line c cs (tail_lacks 10 b (c ∷ cs) h)))

-- A text that isn't empty and has no line feed is one line.
pub lines_last : (t : List ℕ) → 0 < length t → Lacks 10 t → lines_of t ≡ t ∷ []
lines_last [] lt h = absurd (omega arith)
lines_last (b ∷ bs) lt h = last_line b bs h

-- ---- numbers

-- With one digit more, digits stand for ten times their number and that digit.
pub value_snoc : (n : ℕ) (ds : List ℕ) (d : ℕ) → value_behind n (ds ++ d ∷ []) ≡ value_behind n ds * 10 + (d - 48)
value_snoc n [] d = refl
value_snoc n (c ∷ cs) d = value_snoc (n * 10 + (c - 48)) cs d

-- A number that is capped at 16 at each digit is the whole number capped at 16.
capped : (v x m k : ℕ) → m ≡ min v 16 → k ≡ min (m * 10 + x) 16 → k ≡ min (v * 10 + x) 16
capped v x m k e f = omega arith

-- With one digit more, a lane's number is that of the digits so far, or 16 where it is more.
pub lane_more : (ds : List ℕ) (i m k : ℕ) → i < length ds → m ≡ min (value_behind 0 (take i ds)) 16 → k ≡ min (m * 10 + (get_or ds i 0 - 48)) 16 → k ≡ min (value_behind 0 (take (i + 1) ds)) 16
lane_more ds i m k lt e f =
    capped (value_behind 0 (take i ds)) (get_or ds i 0 - 48) m k e f ∙ ap (λ n. min n 16) (sym (ap (value_behind 0) (take_more ds i 0 lt) ∙ value_snoc 0 (take i ds) (get_or ds i 0)))

-- ---- the first line

-- Bytes that are cut at the first line feed have that line first, and then the lines of the rest.
pub cut_lines : (bytes line rest : List ℕ) → Lacks 10 line → bytes ≡ line ++ 10 ∷ rest → lines_of bytes ≡ line ∷ lines_of rest
cut_lines bytes line rest h e = ap lines_of e ∙ lines_at line rest h

-- Bytes without a line feed, which aren't empty, are one line, and no lines are behind it.
pub cut_last : (bytes line : List ℕ) → 0 < length bytes → Lacks 10 line → bytes ≡ line → lines_of bytes ≡ line ∷ lines_of (take (length bytes - length bytes) (drop (length bytes) bytes))
cut_last bytes line some h e =
    rw (take_rest bytes (length bytes), drop-length bytes) (ap lines_of e ∙ lines_last line (omega (arith, ap length e)) h)
