-- A fragment that is joined to a base stands in the place of the base's own.
use Rattle.std.proofs.Common.{◌≡◌, ℕ, zero, suc, ◌-◌, ◌<◌, List, [], ◌∷◌, ◌++◌, length, take, drop, get_or}
use Rattle.std.proofs.Common.{Bool, true, false, not, cond, ◌&&◌, ◌==◌, Option, Some, None, Ok, Err, take_while}
use Rattle.std.proofs.Common.{refl, sym, ap, ap₂, ◌∙◌, subst, arith, rules, take_all}
use Rattle.std.specs.Prelude.{reverse, nat_le}
use Rattle.std.specs.List.{list_all, prefix_len}
use Rattle.std.specs.Str.{IsCharBoundary}
use Rattle.std.proofs.lemmas.Bool.{and_parts, or_parts, not-true, eqb-true, cond-false, lt-leb}
use Rattle.std.proofs.lemmas.List.{take-append-drop, get_or-reverse, length-reverse, take_rest}
use Rattle.std.proofs.lemmas.List.Sums.{take_while-cons}
use Rattle.std.proofs.lemmas.Str.{IsCharBoundary-before_ascii}
use Rattle.std.proofs.Math.Nat.{sub-zero}
use Rattle.url.specs.Input.{is_c0_control_or_space, is_tab_or_new_line, trim_c0_control_and_space}
use Rattle.url.specs.Input.{strip_tabs_and_new_lines, split_once}
use Rattle.url.specs.Scheme.{scheme_len}
use Rattle.url.specs.Parts.{Parts, cannot_be_a_base}
use Rattle.url.specs.Parser.{Parsed, and_then, parse_body, with_tail, before_tail, parse_parts, split_scheme}
use Rattle.url.specs.Parser.{parse_by_scheme, parse_without_scheme, parse_url}
use Rattle.cm_names.specs.Urls.{is_url_byte, is_url_text}
use Rattle.cm_names.specs.Steps.{◌>>=◌}
use Rattle.cm_facts.proofs.Booleans.{and_false}
use Rattle.cm_repo.specs.Urls.{accepted, url_on, text_of, key_of, begins_with_hash, joined_to}
use Rattle.cm_repo.specs.UrlsInside.{in_prefix, IsUrlPrefix, IsPlainPrefix}

-- ---- the prefix

-- With a byte more in front, the leading run of a prefix's bytes has only such ones.
all_by : (x : ℕ) (xs : List ℕ) (b : Bool) → in_prefix x ≡ b
    → list_all in_prefix (take (length (take_while in_prefix xs)) xs) ≡ true
    → list_all in_prefix (take (length (cond b (x ∷ take_while in_prefix xs) [])) (x ∷ xs)) ≡ true
all_by x xs true e h = rw e h
all_by x xs false e h = refl

-- The leading run of a prefix's bytes has only such ones.
all_prefix : (xs : List ℕ) → list_all in_prefix (take (length (take_while in_prefix xs)) xs) ≡ true
all_prefix [] = refl
all_prefix (x ∷ xs) =
    subst (λ l. list_all in_prefix (take (length l) (x ∷ xs)) ≡ true) (sym (take_while-cons in_prefix x xs))
    (all_by x xs (in_prefix x) refl (all_prefix xs))

-- Where a hash begins what is left, it stands at that place, within the text, before the rest.
cuts : (t : List ℕ) (n : ℕ) → begins_with_hash (drop n t) ≡ true
    → (n < length t) × (get_or t n 0 ≡ 35) × (drop n t ≡ 35 ∷ drop (suc n) t)
cuts [] zero h = absurd (cc)
cuts [] (suc n) h = absurd (cc)
cuts (x ∷ xs) zero h = (omega arith, eqb-true x 35 h, ap (λ b. b ∷ xs) (eqb-true x 35 h))
cuts (x ∷ xs) (suc n) h =
    let there = cuts xs n h in
    let within = there.0 in
    (omega arith, there.1, there.2)

-- Where a hash begins what is closed by the bytes, it stands there in the text, before the rest.
cuts_at : (bytes t closed : List ℕ) (n : ℕ) → bytes ≡ t → closed ≡ take (length bytes - n) (drop n bytes)
    → begins_with_hash closed ≡ true → (n < length t) × (get_or t n 0 ≡ 35) × (drop n t ≡ 35 ∷ drop (suc n) t)
cuts_at bytes t closed n v c h =
    cuts t n (ap (λ l. begins_with_hash (drop n l)) (sym v) ∙ ap begins_with_hash (sym (take_rest bytes n) ∙ sym c) ∙ h)

-- Where what stands from a place on begins with `#`, the text may be cut at that place.
pub prefix_cut : (bytes t closed : List ℕ) (n : ℕ) → bytes ≡ t → closed ≡ take (length bytes - n) (drop n bytes)
    → begins_with_hash closed ≡ true → IsCharBoundary t n
prefix_cut bytes t closed n v c h =
    let there = cuts_at bytes t closed n v c h in
    let hash = there.1 in
    IsCharBoundary-before_ascii t n there.0 (omega arith)

-- The bytes up to the first `#` or `?` of a text are its prefix, where that byte is `#`.
pub is_prefix_of : (bytes t closed prefix : List ℕ) (n : ℕ) → bytes ≡ t
    → n ≡ length (take_while in_prefix bytes) → closed ≡ take (length bytes - n) (drop n bytes)
    → begins_with_hash closed ≡ true → prefix ≡ take n t → IsUrlPrefix prefix t
is_prefix_of bytes t closed prefix n v len c h f =
    let there = cuts_at bytes t closed n v c h in
    record {
      old = drop (suc n) t;
      parts = sym (take-append-drop n t) ∙ ap₂ (λ a b. a ++ b) (sym f) there.2;
      plain = ap (list_all in_prefix) (f ∙ ap (take n) (sym v) ∙ ap (λ k. take k bytes) len) ∙ all_prefix bytes;
    }

-- ---- nothing is trimmed or stripped

-- Each byte of a URL's text is above the space.
at_url_byte : (xs : List ℕ) (i : ℕ) → list_all is_url_byte xs ≡ true → i < length xs → 32 < get_or xs i 0
at_url_byte [] i h l = absurd (omega arith)
at_url_byte (x ∷ xs) zero h l =
    let both = and_parts (is_url_byte x) (list_all is_url_byte xs) h in
    let here : is_url_byte x ≡ true = both.0 in
    grind (arith, rules)
at_url_byte (x ∷ xs) (suc i) h l =
    let both = and_parts (is_url_byte x) (list_all is_url_byte xs) h in
    at_url_byte xs i both.1 (omega arith)

-- Where the first byte is above the space, no leading byte is a control or a space.
none_at_prefix : (xs : List ℕ) → (0 < length xs → 32 < get_or xs 0 0) → prefix_len is_c0_control_or_space xs ≡ 0
none_at_prefix [] first = refl
none_at_prefix (x ∷ xs) first = cond-false _ _ _ (lt-leb x 32 (first (omega arith)))

-- A URL's bytes have no control or space to trim.
untrimmed : (xs : List ℕ) → list_all is_url_byte xs ≡ true → trim_c0_control_and_space xs ≡ xs
unfolding trim_c0_control_and_space
untrimmed xs h =
    let start = none_at_prefix xs (λ inside. at_url_byte xs 0 h inside) in
    let len = length-reverse xs in
    let end = none_at_prefix (reverse xs)
    (λ inside. rw (get_or-reverse xs 0 0 (omega arith), sub-zero) (at_url_byte xs (length xs - 1) h (omega arith))) in
    rw (start, end) (take_all _ xs (omega arith))

-- A URL's bytes have no tab or new line to strip.
unstripped : (xs : List ℕ) → list_all is_url_byte xs ≡ true → strip_tabs_and_new_lines xs ≡ xs
unfolding strip_tabs_and_new_lines
unstripped [] h = refl
unstripped (x ∷ xs) h =
    let both = and_parts (is_url_byte x) (list_all is_url_byte xs) h in
    let here : is_url_byte x ≡ true = both.0 in
    let stays : not (is_tab_or_new_line x) ≡ true = grind (arith, rules) in
    rw stays (ap (λ l. x ∷ l) (unstripped xs both.1))

-- ---- the parts

-- A prefix, a hash and a rest are split at that hash.
hash_after : (prefix ys : List ℕ) → list_all in_prefix prefix ≡ true → split_once 35 (prefix ++ 35 ∷ ys) ≡ (prefix, Some ys)
unfolding split_once
hash_after [] ys h = refl
hash_after (x ∷ xs) ys h =
    let both = and_parts (in_prefix x) (list_all in_prefix xs) h in
    let tests = or_parts (x == 35) (x == 63) (not-true _ both.0) in
    rw tests.0 (ap (λ r. (x ∷ r.0, r.1)) (hash_after xs ys both.1))

-- A prefix has no question mark to be split at.
no_question : (prefix : List ℕ) → list_all in_prefix prefix ≡ true → split_once 63 prefix ≡ (prefix, None)
unfolding split_once
no_question [] h = refl
no_question (x ∷ xs) h =
    let both = and_parts (in_prefix x) (list_all in_prefix xs) h in
    let tests = or_parts (x == 35) (x == 63) (not-true _ both.0) in
    rw tests.1 (ap (λ r. (x ∷ r.0, r.1)) (no_question xs both.1))

-- a whole text is parsed by its prefix
pub parsed_by_prefix : (base : Option Parts) (prefix ys : List ℕ) → list_all is_url_byte (prefix ++ 35 ∷ ys) ≡ true
    → list_all in_prefix prefix ≡ true
    → parse_url base (prefix ++ 35 ∷ ys) ≡ parse_by_scheme (split_scheme prefix) base prefix None (Some ys)
unfolding parse_url
parsed_by_prefix base prefix ys h all =
    let clean : strip_tabs_and_new_lines (trim_c0_control_and_space (prefix ++ 35 ∷ ys)) ≡ prefix ++ 35 ∷ ys =
    ap strip_tabs_and_new_lines (untrimmed (prefix ++ 35 ∷ ys) h) ∙ unstripped (prefix ++ 35 ∷ ys) h in
    rw (clean, hash_after prefix ys all, no_question prefix all)

-- The empty text has no scheme.
no_scheme : split_scheme [] ≡ None
unfolding split_scheme scheme_len
no_scheme = refl

-- a fragment alone changes the fragment alone
fragment_joined : (whole : Parts) (ys : List ℕ)
    → parse_without_scheme (Some whole) [] None (Some ys) ≡ Ok (with_tail whole whole.query (Some ys))
unfolding parse_parts
fragment_joined whole ys = rw (and_false (cannot_be_a_base whole))

-- A fragment joined to whole parts is these parts with that fragment.
joined_fragment : (whole : Parts) (ys : List ℕ) → list_all is_url_byte (35 ∷ ys) ≡ true
    → parse_url (Some whole) (35 ∷ ys) ≡ Ok (with_tail whole whole.query (Some ys))
joined_fragment whole ys h =
    parsed_by_prefix (Some whole) [] ys h refl
    ∙ ap (λ s. parse_by_scheme s (Some whole) [] None (Some ys)) no_scheme ∙ fragment_joined whole ys

-- ---- both ways

-- The parts that were read, with their fragment.
abbrev pub whole_of : Parsed Parts → List ℕ → Parsed Parts
whole_of r ys = and_then r (λ u. Ok (with_tail (before_tail u None (Some ys)) None (Some ys)))

-- A fragment joined to a URL read with another one gives the text of that URL read with it.
by_body : (r : Parsed Parts) (old ys : List ℕ) → list_all is_url_byte (35 ∷ ys) ≡ true
    → (accepted (whole_of r old) >>= λ whole. url_on (Some whole) (35 ∷ ys) >>= text_of)
    ≡ (accepted (whole_of r ys) >>= text_of)
by_body (Err e) old ys h = refl
by_body (Ok u) old ys h =
    ap (λ p. accepted p >>= text_of)
    (joined_fragment (with_tail (before_tail u None (Some old)) None (Some old)) ys h)

-- However a scheme is split off, a fragment joined takes the place of the base's own.
by_scheme : (split : Option (List ℕ × List ℕ)) (prefix old ys : List ℕ) → list_all is_url_byte (35 ∷ ys) ≡ true
    → (accepted (parse_by_scheme split None prefix None (Some old)) >>= λ whole. url_on (Some whole) (35 ∷ ys) >>= text_of)
    ≡ (accepted (parse_by_scheme split None prefix None (Some ys)) >>= text_of)
unfolding parse_parts
by_scheme None prefix old ys h = refl
by_scheme (Some split) prefix old ys h = by_body (parse_body _ None split.1) old ys h

-- The bytes of a URL's text are all a URL's.
pub bytes_of : (t : List ℕ) → is_url_text t ≡ true → list_all is_url_byte t ≡ true
bytes_of t h = (and_parts (not (length t == 0) && nat_le (length t) 4096) (list_all is_url_byte t) h).1

-- Where bytes and more are all a URL's, the first ones are.
all_append : (xs ys : List ℕ) → list_all is_url_byte (xs ++ ys) ≡ true → list_all is_url_byte xs ≡ true
all_append [] ys h = refl
all_append (x ∷ xs) ys h =
    let both = and_parts (is_url_byte x) (list_all is_url_byte (xs ++ ys)) h in
    rw both.0 (all_append xs ys both.1)

-- Where a prefix, a hash and more are all a URL's bytes, what is behind the hash is.
pub all_rest : (xs ys : List ℕ) → list_all is_url_byte (xs ++ 35 ∷ ys) ≡ true → list_all is_url_byte ys ≡ true
all_rest [] ys h = (and_parts (is_url_byte 35) (list_all is_url_byte ys) h).1
all_rest (x ∷ xs) ys h = all_rest xs ys (and_parts (is_url_byte x) (list_all is_url_byte (xs ++ 35 ∷ ys)) h).1

-- Bytes of a URL and further ones are all a URL's.
appended : (xs ys : List ℕ) → list_all is_url_byte xs ≡ true → list_all is_url_byte ys ≡ true
    → list_all is_url_byte (xs ++ ys) ≡ true
appended [] ys h k = k
appended (x ∷ xs) ys h k =
    let both = and_parts (is_url_byte x) (list_all is_url_byte xs) h in
    rw both.0 (appended xs ys both.1 k)

-- A URL that begins with a hash is a hash and what is behind it.
hash_first : (url : List ℕ) → begins_with_hash url ≡ true → url ≡ 35 ∷ drop 1 url
hash_first [] h = absurd (cc)
hash_first (x ∷ xs) h = ap (λ b. b ∷ xs) (eqb-true x 35 h)

-- A fragment joined to a base gives what prefix and fragment give as a URL that stands alone.
pub joined_is_key : (prefix base url : List ℕ) → IsPlainPrefix prefix base url → begins_with_hash url ≡ true
    → joined_to base url ≡ key_of (prefix ++ url)
unfolding key_of
joined_is_key prefix base url is h =
    let ys = drop 1 url in
    let first : url ≡ 35 ∷ ys = hash_first url h in
    let urls : list_all is_url_byte (35 ∷ ys) ≡ true = ap (list_all is_url_byte) (sym first) ∙ bytes_of url is.url_text in
    let old = is.parted.old in
    let bases : list_all is_url_byte (prefix ++ 35 ∷ old) ≡ true =
    ap (list_all is_url_byte) (sym is.parted.parts) ∙ bytes_of base is.base_text in
    let whole : list_all is_url_byte (prefix ++ 35 ∷ ys) ≡ true =
    appended prefix (35 ∷ ys) (all_append prefix (35 ∷ old) bases) urls in
    ap₂ joined_to is.parted.parts first
    ∙ ap (λ p. accepted p >>= λ whole. url_on (Some whole) (35 ∷ ys) >>= text_of)
    (parsed_by_prefix None prefix old bases is.parted.plain)
    ∙ by_scheme (split_scheme prefix) prefix old ys urls
    ∙ ap (λ p. accepted p >>= text_of) (sym (parsed_by_prefix None prefix ys whole is.parted.plain))
    ∙ ap (λ u. key_of (prefix ++ u)) (sym first)

-- The prefix of a base is a plain one, where both the base and the other text may be URLs.
pub plain : (prefix base url : List ℕ) → IsUrlPrefix prefix base → is_url_text base ≡ true → is_url_text url ≡ true
    → IsPlainPrefix prefix base url
plain prefix base url is b u = record { parted = is; base_text = b; url_text = u }
