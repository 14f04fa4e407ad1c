-- A string in single quotes, character by character.
use Rattle.std.proofs.Common.{◌≡◌, ℕ, suc, ◌<◌, ◌≤◌, List, [], ◌∷◌, ◌++◌, map, length, Bool, true, false, ◌==◌, refl, sym, ap, ◌∙◌, arith, rules, get_or, ◌⊎◌, inl, inr, eqb-true}
use Rattle.std.proofs.lemmas.Bool.{false_from_ne_true}
use Rattle.std.specs.List.{list_all, flat_map}
use Rattle.std.specs.Char.{encode_utf8}
use Rattle.std.proofs.lemmas.List.{append-nil, append_assoc}
use Rattle.std.proofs.lemmas.Str.{encode_ascii, inside_one, len_utf8_bounds, length-encode}
use Rattle.std.proofs.lemmas.Bool.Decides.{leb_tells}
use Rattle.std.proofs.lemmas.Grind.{flat_map-append}
use Rattle.std.proofs.lemmas.List.Folds.{list_all-append}
use Rattle.std.specs.Cmp.{second_so}
use Rattle.cm_facts.proofs.Numbers.{eq_high}
use Rattle.cm_text.specs.Token.{Char, plain, taken}
use Rattle.cm_text.specs.Split.{is_char}
use Rattle.cm_text.specs.Json.{char_json}
use Rattle.cm_text.specs.Scan.{within}
use Rattle.cm_text.specs.Spelling.{char_text, chars_json, are_chars}
use Rattle.cm_text.proofs.lemmas.found.String.{within_plain}

-- the characters of one encoded character
items_of : Bool → List ℕ → List Char
items_of e [] = []
items_of true (b ∷ bs) = taken b ∷ map (λ x. plain x) bs
items_of false (b ∷ bs) = map (λ x. plain x) (b ∷ bs)

-- ---- bytes above ASCII

-- All bytes are 128 or above.
abbrev AreHigh : List ℕ → Type 0
AreHigh bs = (k : ℕ) → k < length bs → 128 ≤ get_or bs k 0

-- Bytes that are all high are so without the first.
high_tail : (b : ℕ) (bs : List ℕ) → AreHigh (b ∷ bs) → AreHigh bs
high_tail b bs h k lt = h (suc k) (omega arith)

-- High bytes between quotes are plain characters, before those of the rest.
high_within : (bs rest : List ℕ) → AreHigh bs → within false (bs ++ rest) ≡ map (λ x. plain x) bs ++ within false rest
high_within [] rest h = refl
high_within (b ∷ bs) rest h =
    let first : 128 ≤ b = h 0 (omega arith) in
    within_plain b (bs ++ rest) (eq_high b 92 first (omega arith)) ∙ ap (λ cs. plain b ∷ cs) (high_within bs rest (high_tail b bs h))

-- High bytes behind a backslash are the items of one taken character, before those of the rest.
high_taken : (bs rest : List ℕ) → 0 < length bs → AreHigh bs → within true (bs ++ rest) ≡ items_of true bs ++ within false rest
unfolding items_of
high_taken [] rest l h = absurd (omega arith)
high_taken (b ∷ bs) rest l h = ap (λ cs. taken b ∷ cs) (high_within bs rest (high_tail b bs h))

-- The items of bytes without a backslash before them are plain characters.
high_items : (bs : List ℕ) → items_of false bs ≡ map (λ x. plain x) bs
unfolding items_of
high_items [] = refl
high_items (b ∷ bs) = refl

-- A plain byte that is no double quote is itself in JSON.
plain_json : (b : ℕ) → (b == 34) ≡ false → char_json (plain b) ≡ b ∷ []
plain_json b e = rw e refl

-- A byte behind a backslash that is no single quote keeps its backslash in JSON.
taken_json : (b : ℕ) → (b == 39) ≡ false → char_json (taken b) ≡ 92 ∷ b ∷ []
taken_json b e = rw e refl

-- High bytes as plain characters are themselves in JSON.
high_json : (bs : List ℕ) → AreHigh bs → flat_map char_json (map (λ x. plain x) bs) ≡ bs
high_json [] h = refl
high_json (b ∷ bs) h =
    let first : 128 ≤ b = h 0 (omega arith) in
    ap (λ xs. xs ++ flat_map char_json (map (λ x. plain x) bs)) (plain_json b (eq_high b 34 first (omega arith))) ∙ ap (λ xs. b ∷ xs) (high_json bs (high_tail b bs h))

-- High bytes behind a backslash are a backslash and themselves in JSON.
high_taken_json : (bs : List ℕ) → 0 < length bs → AreHigh bs → flat_map char_json (items_of true bs) ≡ 92 ∷ bs
unfolding items_of
high_taken_json [] l h = absurd (omega arith)
high_taken_json (b ∷ bs) l h =
    let first : 128 ≤ b = h 0 (omega arith) in
    ap (λ xs. xs ++ flat_map char_json (map (λ x. plain x) bs)) (taken_json b (eq_high b 39 first (omega arith))) ∙ ap (λ xs. 92 ∷ b ∷ xs) (high_json bs (high_tail b bs h))

-- ---- one character

-- Each character has bytes in UTF-8.
some_bytes : (c : ℕ) → 0 < length (encode_utf8 c)
some_bytes c = let h = (len_utf8_bounds c).0 in rw (length-encode c) h

-- A character of 128 or above has high bytes only, in UTF-8.
encode_high : (c : ℕ) → 128 ≤ c → AreHigh (encode_utf8 c)
encode_high c h k lt = elim (leb_tells 128 (get_or (encode_utf8 c) k 0)) [
  | inl t ↦ t.1
  | inr t ↦ let same : c ≡ get_or (encode_utf8 c) k 0 = inside_one c [] (encode_utf8 c) k (sym (append-nil (encode_utf8 c))) lt t.1 in absurd (let u = t.1 in omega arith)
]

-- A byte that a backslash precedes, or that is none, is its own items between quotes.
ascii_within : (e : Bool) (c : ℕ) (rest : List ℕ) → (e ≡ true) ⊎ ((c == 92) ≡ false) → within e (c ∷ rest) ≡ items_of e (c ∷ []) ++ within false rest
unfolding items_of
ascii_within true c rest h = refl
ascii_within false c rest (inl h) = absurd (grind (arith, rules))
ascii_within false c rest (inr h) = within_plain c rest h

-- The bytes of a high character are its items between quotes, before those of the rest.
high_char_within : (e : Bool) (c : ℕ) (rest : List ℕ) → 128 ≤ c → within e (encode_utf8 c ++ rest) ≡ items_of e (encode_utf8 c) ++ within false rest
high_char_within true c rest h = high_taken (encode_utf8 c) rest (some_bytes c) (encode_high c h)
high_char_within false c rest h = high_within (encode_utf8 c) rest (encode_high c h) ∙ ap (λ cs. cs ++ within false rest) (sym (high_items (encode_utf8 c)))

-- The bytes of a character are its items between quotes, where no backslash begins with it.
char_within : (e : Bool) (c : ℕ) (rest : List ℕ) → (e ≡ true) ⊎ ((c == 92) ≡ false) → within e (encode_utf8 c ++ rest) ≡ items_of e (encode_utf8 c) ++ within false rest
char_within e c rest h = elim (leb_tells 128 c) [
  | inl t ↦ high_char_within e c rest t.1
  | inr t ↦ rw (encode_ascii c t.1) (ascii_within e c rest h)
]

-- The items of a character below 128 are in JSON what it is in double quotes.
ascii_json : (e : Bool) (c : ℕ) → c < 128 → flat_map char_json (items_of e (c ∷ [])) ≡ char_text e c
unfolding items_of
ascii_json true c h = append-nil (char_json (taken c)) ∙ rw (encode_ascii c h) refl
ascii_json false c h = append-nil (char_json (plain c)) ∙ rw (encode_ascii c h) refl

-- A taken character that is no single quote keeps its backslash in double quotes.
taken_text : (c : ℕ) → (c == 39) ≡ false → char_text true c ≡ 92 ∷ encode_utf8 c
taken_text c e = rw e refl

-- A plain character that is no double quote stands for itself in double quotes.
plain_text : (c : ℕ) → (c == 34) ≡ false → char_text false c ≡ encode_utf8 c
plain_text c e = rw e refl

-- The items of a high character are in JSON what it is in double quotes.
high_char_json : (e : Bool) (c : ℕ) → 128 ≤ c → flat_map char_json (items_of e (encode_utf8 c)) ≡ char_text e c
high_char_json true c h = high_taken_json (encode_utf8 c) (some_bytes c) (encode_high c h) ∙ sym (taken_text c (eq_high c 39 h (omega arith)))
high_char_json false c h = ap (flat_map char_json) (high_items (encode_utf8 c)) ∙ high_json (encode_utf8 c) (encode_high c h) ∙ sym (plain_text c (eq_high c 34 h (omega arith)))

-- The items of any character are in JSON what it is in double quotes.
item_json : (e : Bool) (c : ℕ) → flat_map char_json (items_of e (encode_utf8 c)) ≡ char_text e c
item_json e c = elim (leb_tells 128 c) [
  | inl t ↦ high_char_json e c t.1
  | inr t ↦ ap (λ xs. flat_map char_json (items_of e xs)) (encode_ascii c t.1) ∙ ascii_json e c t.1
]

-- ---- a step of the loop

-- A character and a rest in double quotes are each in turn, unless it is the backslash of another.
pub char_step : (e : Bool) (c : ℕ) (rest : List ℕ) → (e ≡ true) ⊎ ((c == 92) ≡ false) → chars_json e (encode_utf8 c ++ rest) ≡ char_text e c ++ chars_json false rest
char_step e c rest h =
    ap (flat_map char_json) (char_within e c rest h)
    ∙ flat_map-append char_json (items_of e (encode_utf8 c)) (within false rest)
    ∙ ap (λ xs. xs ++ chars_json false rest) (item_json e c)

-- Where no single backslash ends a string, none ends what is left behind its first character.
pub char_left : (e : Bool) (c : ℕ) (rest : List ℕ) → (e ≡ true) ⊎ ((c == 92) ≡ false) → are_chars e (encode_utf8 c ++ rest) ≡ true → are_chars false rest ≡ true
char_left e c rest h left =
    second_so (list_all (is_char 39) (items_of e (encode_utf8 c))) (are_chars false rest)
    (sym (list_all-append (is_char 39) (items_of e (encode_utf8 c)) (within false rest)) ∙ ap (list_all (is_char 39)) (sym (char_within e c rest h)) ∙ left)

-- With the first character written, what is written and the rest of a string make the same whole.
pub passed_char : (e : Bool) (c : ℕ) (text rest json written whole : List ℕ) → text ≡ encode_utf8 c ++ rest → ((c ≡ 92) × (e ≡ true)) ⊎ (c ≡ 92 → ⊥) → written ≡ json ++ char_text e c → are_chars e text ≡ true → json ++ chars_json e text ≡ whole → (are_chars false rest ≡ true) × (written ++ chars_json false rest ≡ whole)
passed_char e c text rest json written whole bytes other here left before =
    let fits : (e ≡ true) ⊎ ((c == 92) ≡ false) = elim other [ inl h ↦ inl h.1 | inr h ↦ inr (false_from_ne_true (c == 92) (λ same. h (eqb-true c 92 same))) ] in
    let there : chars_json e text ≡ char_text e c ++ chars_json false rest = ap (chars_json e) bytes ∙ char_step e c rest fits in (
      char_left e c rest fits (ap (are_chars e) (sym bytes) ∙ left),
      ap (λ xs. xs ++ chars_json false rest) here ∙ append_assoc json (char_text e c) (chars_json false rest) ∙ ap (λ xs. json ++ xs) (sym there) ∙ before,
    )
