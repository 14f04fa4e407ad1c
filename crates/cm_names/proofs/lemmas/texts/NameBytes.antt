-- Bytes that a name that others follow is made of.
use Rattle.std.proofs.Common.{◌≡◌, ℕ, zero, suc, ◌+◌, ◌<◌, ◌≤◌, List, [], ◌∷◌, ◌++◌, ◌-◌, length, take, drop, get_or, Bool, true, All, IsTrue, sym, ap, subst, ◌∙◌, arith, rules}
use Rattle.std.specs.List.{prefix_len, take_while}
use Rattle.std.specs.Str.{IsUtf8, IsAscii}
use Rattle.std.proofs.lemmas.Str.{IsUtf8-from_ascii}
use Rattle.std.proofs.lemmas.List.{length-take-le, length-drop, get_or-take, take_all, take-append-drop}
use Rattle.std.proofs.lemmas.List.Folds.{length-prefix_len}
use Rattle.std.proofs.lemmas.List.Sums.{prefix_len-le-length, prefix_len_passes}
use Rattle.cm_names.specs.Name.{IsName, begins_name, continues_name}

-- the bytes up to the first that fails a test pass it
run_passes : (test : ℕ → Bool) (w : List ℕ) (i : ℕ) → i ≤ prefix_len test w → All (λ b. IsTrue (test b)) (take i w)
run_passes test w i le k d lt =
    let bound : prefix_len test w ≤ length w = prefix_len-le-length test w in
    let len : length (take i w) ≡ i = length-take-le i w (omega arith) in
    subst (λ b. test b ≡ true) (sym (get_or-take i w k d (omega arith))) (prefix_len_passes test w k d (omega arith))

-- what begins as a name does, with bytes of a name behind it, is one
begun_name : (b : ℕ) (bs : List ℕ) (n : ℕ) → IsTrue (begins_name b) → n ≡ length (take_while continues_name bs) → n + 1 ≤ 255
    → IsName (b ∷ take n bs)
begun_name b bs n begins count fits =
    let same : n ≡ prefix_len continues_name bs = count ∙ length-prefix_len continues_name bs in
    let bound = prefix_len-le-length continues_name bs in
    let len : length (take n bs) ≡ n = length-take-le n bs (omega arith) in
    (omega arith, begins, run_passes continues_name bs n (omega arith))

-- what stands behind the first n bytes, to the end, is all behind them
to_end : (t : List ℕ) (n : ℕ) → n ≤ length t → take (length t - n) (drop n t) ≡ drop n t
to_end t n le = take_all (length t - n) (drop n t) (omega (arith, length-drop n t))

-- The first bytes of a text that begin and go on as a name, at most 255 of them, are a name.
pub prefix_name : (t : List ℕ) (n d : ℕ) → 1 ≤ length t → IsTrue (begins_name (get_or t 0 d))
    → n ≡ length (take_while continues_name (take (length t - 1) (drop 1 t))) → n + 1 ≤ 255 → IsName (take (n + 1) t)
prefix_name [] n d some begins count fits = absurd (omega arith)
prefix_name (b ∷ bs) n d some begins count fits =
    let next : suc n ≡ n + 1 = omega arith in
    let behind = count ∙ ap (λ r. length (take_while continues_name r)) (to_end (b ∷ bs) 1 some) in
    subst (λ k. IsName (take k (b ∷ bs))) next (begun_name b bs n begins behind fits)

-- The first bytes that go on as a name and what stands behind them are the whole text.
pub cut_prefix : (t : List ℕ) (n : ℕ) → 1 ≤ length t → n ≡ length (take_while continues_name (take (length t - 1) (drop 1 t)))
    → t ≡ take (n + 1) t ++ take (length t - (n + 1)) (drop (n + 1) t)
cut_prefix t n some count =
    let rest = take (length t - 1) (drop 1 t) in
    let behind : length rest ≡ length t - 1 = ap (λ r. length r) (to_end t 1 some) ∙ length-drop 1 t in
    let bound = prefix_len-le-length continues_name rest in
    let same : n ≡ prefix_len continues_name rest = count ∙ length-prefix_len continues_name rest in
    let fits : n + 1 ≤ length t = omega arith in
    sym (ap (λ r. take (n + 1) t ++ r) (to_end t (n + 1) fits) ∙ take-append-drop (n + 1) t)

-- A byte that begins names is below 128.
begins_low : (b : ℕ) → IsTrue (begins_name b) → b < 128
begins_low b h = grind (arith, rules)

-- A byte that continues names is below 128.
continues_low : (b : ℕ) → IsTrue (continues_name b) → b < 128
continues_low b h = grind (arith, rules)

-- Bytes that all continue names are all below 128.
all_low : (bs : List ℕ) → All (λ c. IsTrue (continues_name c)) bs → All (λ b. b < 128) bs
all_low bs h k d lt = continues_low _ (h k d lt)

-- A text whose bytes are all below 128 is ASCII.
ascii_at : (t : List ℕ) → All (λ b. b < 128) t → IsAscii t
ascii_at [] h i = omega arith
ascii_at (b ∷ bs) h zero = h 0 0 (omega arith)
ascii_at (b ∷ bs) h (suc i) = ascii_at bs (λ k d lt. h (suc k) d (omega arith)) i

-- A name's bytes, the one that begins it and those that continue it, are ASCII.
name_ascii : (b : ℕ) (bs : List ℕ) → IsTrue (begins_name b) → All (λ c. IsTrue (continues_name c)) bs → IsAscii (b ∷ bs)
name_ascii b bs begins rest zero = begins_low b begins
name_ascii b bs begins rest (suc i) = ascii_at bs (all_low bs rest) i

-- the bytes of a name are a text
pub name_utf8 : (t : List ℕ) → IsName t → IsUtf8 t
name_utf8 [] h = absurd h
name_utf8 (b ∷ bs) h = IsUtf8-from_ascii (b ∷ bs) (name_ascii b bs h.1 h.2)
