-- Names, byte by byte.
use Rattle.std.proofs.Common.{◌≡◌, ◌⊎◌, inl, inr, ⊎_elim, ℕ, zero, suc, ◌+◌, ◌-◌, ◌<◌, ◌≤◌, List, [], ◌∷◌, length, take, drop, get_or, min, true, false, true≢false, IsTrue, refl, sym, ap, subst, ◌∙◌, arith, rules, append-nil, length-append}
use Rattle.std.specs.List.{prefix_len, take_while}
use Rattle.std.specs.Str.{IsUtf8}
use Rattle.std.proofs.lemmas.List.{length-take-le, take_rest}
use Rattle.std.proofs.lemmas.List.Elements.{All-cons, All-nil}
use Rattle.std.proofs.lemmas.List.Folds.{length-prefix_len}
use Rattle.std.proofs.lemmas.List.Sums.{prefix_len-le-length}
use Rattle.cm_names.specs.Name.{IsName, begins_name, continues_name}
use Rattle.cm_names.specs.Prefixes.{HasCompletion}
use Rattle.cm_command.specs.Counts.{CountsPrefixes}
use Rattle.cm_command.proofs.lemmas.bytes.Runs.{ascii_text, run_passes, run_stops, least}

-- The empty text can be completed to a name.
pub name_begins : HasCompletion IsName []
name_begins = (97 ∷ [], (omega arith, refl, All-nil (λ c. IsTrue (continues_name c))))

-- A byte that begins a name is below 128.
begins_low : (b : ℕ) → IsTrue (begins_name b) → b < 128
begins_low b h = grind (arith, rules)

-- A byte that continues a name is below 128.
continues_low : (b : ℕ) → IsTrue (continues_name b) → b < 128
continues_low b h = grind (arith, rules)

-- A name is UTF-8.
pub name_utf8 : (t : List ℕ) → IsName t → IsUtf8 t
name_utf8 [] h = absurd h
name_utf8 (b ∷ bs) h =
    ascii_text (b ∷ bs) (All-cons (λ c. c < 128) b bs (begins_low b h.1) (λ k d lt. continues_low _ (h.2 k d lt)))

-- Of an empty word the one prefix begins a name.
pub no_byte : CountsPrefixes IsName [] 1
no_byte = record {
  within = omega arith;
  begins = λ i e. let none : 0 ≡ i = omega arith in subst (λ j. HasCompletion IsName (take j [])) none name_begins;
  stops = λ le more. absurd (omega arith);
}

-- a first byte that begins no name
pub bad_first : (b : ℕ) (bs : List ℕ) → begins_name b ≡ false → CountsPrefixes IsName (b ∷ bs) 1
bad_first b bs e = record {
  within = omega arith;
  begins = λ i f. let none : 0 ≡ i = omega arith in subst (λ j. HasCompletion IsName (take j (b ∷ bs))) none name_begins;
  stops = λ le more. true≢false (sym more.1.1 ∙ e);
}

-- The first bytes that may stand in a name, 255 at most, begin some name.
name_prefix : (b : ℕ) (bs : List ℕ) (i : ℕ) → IsTrue (begins_name b) → i ≤ prefix_len continues_name bs + 1 → i ≤ 255 → HasCompletion IsName (take i (b ∷ bs))
name_prefix b bs zero h le short = name_begins
name_prefix b bs (suc i) h le short =
    let bound : prefix_len continues_name bs ≤ length bs = prefix_len-le-length continues_name bs in
    let len : length (take i bs) ≡ i = length-take-le i bs (omega arith) in
    ([], subst IsName (sym (append-nil (b ∷ take i bs))) (omega arith, h, run_passes continues_name bs i (omega arith)))

-- What begins a name has neither 256 bytes nor a byte that doesn't continue one.
name_stops : (b : ℕ) (bs : List ℕ) (n : ℕ) → suc n ≤ length (b ∷ bs) → HasCompletion IsName (take (suc n) (b ∷ bs)) → (suc n ≡ 256) ⊎ (suc n ≡ prefix_len continues_name bs + 2) → ⊥
name_stops b bs n le more (inl full) =
    let len : length (take n bs) ≡ n = length-take-le n bs (omega arith) in
    absurd (omega (arith, more.1.0, length-append (take n bs) more.0))
name_stops b bs n le more (inr past) = run_stops continues_name bs more.0 n (omega arith) (omega arith) more.1.2

-- What isn't empty and begins a name has neither 256 bytes nor one that doesn't continue it.
stops_at : (b : ℕ) (bs : List ℕ) (n : ℕ) → 1 ≤ n → n ≤ length (b ∷ bs) → HasCompletion IsName (take n (b ∷ bs)) → (n ≡ 256) ⊎ (n ≡ prefix_len continues_name bs + 2) → ⊥
stops_at b bs zero some le more at = absurd (omega arith)
stops_at b bs (suc n) some le more at = name_stops b bs n le more at

-- A text that begins as a name has a prefix for each byte that goes on, up to 255, and the empty one.
pub good_first : (b : ℕ) (bs : List ℕ) (m n : ℕ) → begins_name b ≡ true → m ≡ length (take_while continues_name bs) → n ≡ min (m + 2) 256 → CountsPrefixes IsName (b ∷ bs) n
good_first b bs m n h e f =
    let same : m ≡ prefix_len continues_name bs = e ∙ length-prefix_len continues_name bs in
    let bound : prefix_len continues_name bs ≤ length bs = prefix_len-le-length continues_name bs in
    record {
      within = omega arith;
      begins = λ i g. name_prefix b bs i h (omega arith) (omega arith);
      stops = λ le more. stops_at b bs n (omega arith) le more (⊎_elim (λ x. inl x) (λ x. inr (x ∙ ap (λ k. k + 2) same)) (least (m + 2) 256 n f));
    }

-- the first byte and the rest, as a slice pattern has them
pub split_first : (w : List ℕ) → 1 ≤ length w → w ≡ get_or w 0 0 ∷ take (length w - 1) (drop 1 w)
split_first [] h = absurd (omega arith)
split_first (b ∷ bs) h = rw (take_rest (b ∷ bs) 1) refl
