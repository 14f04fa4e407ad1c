-- The text of a URL is told by another one, where both are a prefix and a fragment of which nothing is escaped.
use Rattle.std.proofs.Common.{◌≡◌, ℕ, zero, suc, ◌+◌, ◌-◌, ◌<◌, List, [], ◌∷◌, ◌++◌, length, take, drop, get_or, Bool, true, false, ◌&&◌, Option, Some, None, Ok, Err, All}
use Rattle.std.proofs.Common.{refl, sym, ap, ap₂, ◌∙◌, subst, arith, rules, if◌then◌else◌}
use Rattle.std.specs.List.{list_all}
use Rattle.std.proofs.lemmas.Bool.{and_parts, agree_below, agree_below_at}
use Rattle.std.proofs.lemmas.List.{append_cancel_right, append-nil, take-append-drop, take_rest}
use Rattle.std.proofs.lemmas.List.Elements.{All-nil, All-cons}
use Rattle.percent_encoding.specs.AsciiSet.{contains}
use Rattle.percent_encoding.specs.Percent.{IsKept, percent_encode}
use Rattle.percent_encoding.proofs.AsciiSetLemmas.{kept_from_outside}
use Rattle.percent_encoding.proofs.PercentLemmas.{percent_encode_unchanged}
use Rattle.url.specs.declared.sets.TheConstants.{FRAGMENT}
use Rattle.url.specs.Parts.{Parts, serialize, text_before}
use Rattle.url.specs.declared.slicing.Position.TheVariants.{AfterQuery}
use Rattle.url.specs.Parser.{Parsed, parse_body, with_tail, before_tail, parse_parts, split_scheme, parse_by_scheme}
use Rattle.url.proofs.RoundTrip.{fragment_text}
use Rattle.cm_names.specs.Urls.{is_url_byte, is_url_text}
use Rattle.cm_names.specs.Steps.{◌>>=◌}
use Rattle.cm_repo.specs.Urls.{accepted, has_fragment, text_of, key_of}
use Rattle.cm_repo.specs.declared.fault.UrlFault.TheVariants.{BadUrl, NoFragment}
use Rattle.cm_repo.specs.UrlsInside.{in_prefix, is_unescaped, IsPlainPrefix, HasPlainFragment}
use Rattle.cm_repo.proofs.lemmas.Url.{parsed_by_prefix, whole_of, bytes_of, all_rest}

-- ---- the fragment

-- What is left from a place within a text begins with the byte there.
drop_at : (t : List ℕ) (n : ℕ) → n < length t → drop n t ≡ get_or t n 0 ∷ drop (suc n) t
drop_at [] n l = absurd (omega arith)
drop_at (x ∷ xs) zero l = refl
drop_at (x ∷ xs) (suc n) l = drop_at xs n (omega arith)

-- A text that begins with a prefix and a hash is these and what stands behind.
pub behind : (bytes t prefix : List ℕ) → bytes ≡ t → length prefix < length bytes → get_or bytes (length prefix) 0 ≡ 35
    → take (length prefix) bytes ≡ prefix
    → t ≡ prefix ++ 35 ∷ take (length bytes - (length prefix + 1)) (drop (length prefix + 1) bytes)
behind bytes t prefix same l hash lead =
    let next : suc (length prefix) ≡ length prefix + 1 = omega arith in
    sym same ∙ sym (take-append-drop (length prefix) bytes)
    ∙ ap₂ (λ a b. a ++ b) lead
    (drop_at bytes (length prefix) l ∙ ap₂ (λ x xs. x ∷ xs) hash (ap (λ k. drop k bytes) next ∙ sym (take_rest bytes (length prefix + 1))))

-- ---- nothing is escaped

-- No byte of ASCII that a URL may have, and that isn't one of four, is escaped in a fragment.
none_escaped : agree_below (λ b. is_url_byte b && (is_unescaped b && contains FRAGMENT b)) (λ b. false) 128 ≡ true
none_escaped = refl

-- A byte that a URL may have is one of ASCII.
url_byte_ascii : (b : ℕ) → is_url_byte b ≡ true → b < 128
url_byte_ascii b h = grind (arith, rules)

-- A byte that a URL may have, and that isn't one of four, is kept in a fragment.
kept : (b : ℕ) → is_url_byte b ≡ true → is_unescaped b ≡ true → IsKept FRAGMENT b
kept b h k =
    let low : b < 128 = url_byte_ascii b h in
    let all : (is_url_byte b && (is_unescaped b && contains FRAGMENT b)) ≡ false = agree_below_at
    (λ x. is_url_byte x && (is_unescaped x && contains FRAGMENT x)) (λ x. false) 128 b none_escaped low in
    kept_from_outside FRAGMENT b low
    (ap₂ (λ x y. x && (y && contains FRAGMENT b)) (sym h) (sym k) ∙ all)

-- Of such bytes all are kept in a fragment.
all_kept : (xs : List ℕ) → list_all is_url_byte xs ≡ true → list_all is_unescaped xs ≡ true → All (IsKept FRAGMENT) xs
all_kept [] h k = All-nil (IsKept FRAGMENT)
all_kept (x ∷ xs) h k =
    let one = and_parts (is_url_byte x) (list_all is_url_byte xs) h in
    let two = and_parts (is_unescaped x) (list_all is_unescaped xs) k in
    All-cons (IsKept FRAGMENT) x xs (kept x one.0 two.0) (all_kept xs one.1 two.1)

-- ---- the text

-- The parts that were read, with a fragment.
abbrev with_fragment : Parts → List ℕ → Parts
with_fragment u ys = with_tail (before_tail u None (Some ys)) None (Some ys)

-- What stands before a fragment doesn't depend on it.
abbrev lead : Parts → List ℕ
lead u = text_before (with_fragment u []) AfterQuery

-- Parts with a fragment of which nothing is escaped are written as what stands before it, a hash, and it.
written : (u : Parts) (ys : List ℕ) → All (IsKept FRAGMENT) ys → serialize (with_fragment u ys) ≡ lead u ++ 35 ∷ ys
written u ys h =
    fragment_text (with_fragment u ys)
    ∙ ap (λ zs. lead u ++ 35 ∷ zs) (append-nil (percent_encode FRAGMENT ys) ∙ percent_encode_unchanged FRAGMENT ys h)

-- A text that the parts come to is the one that they are written as.
text_is : (u : Parts) (t : List ℕ) → text_of u ≡ Ok t → serialize u ≡ t
text_is u t h = by (is_url_text (serialize u)) (has_fragment u.fragment) h
  where
    by : (x y : Bool) → (if x then (if y then Ok (serialize u) else Err NoFragment) else Err BadUrl) ≡ Ok t → serialize u ≡ t
    by true true e = cc e
    by true false e = absurd (cc e)
    by false y e = absurd (cc e)

-- Parts that are written as a URL's text, with a fragment, come to that text.
text_from : (u : Parts) (t : List ℕ) → serialize u ≡ t → is_url_text t ≡ true → has_fragment u.fragment ≡ true → text_of u ≡ Ok t
text_from u t same is some = rw (same, is, some) refl

-- ---- another fragment

-- Parts that come to their own text with one fragment do so with another.
by_parts : (u : Parts) (prefix old ys : List ℕ) → All (IsKept FRAGMENT) old → All (IsKept FRAGMENT) ys
    → is_url_text (prefix ++ 35 ∷ ys) ≡ true → has_fragment (Some ys) ≡ true
    → text_of (with_fragment u old) ≡ Ok (prefix ++ 35 ∷ old) → text_of (with_fragment u ys) ≡ Ok (prefix ++ 35 ∷ ys)
by_parts u prefix old ys kept_old kept_new is some h =
    let same : lead u ≡ prefix =
    append_cancel_right (lead u) prefix (35 ∷ old) (sym (written u old kept_old) ∙ text_is (with_fragment u old) _ h) in
    text_from (with_fragment u ys) _ (written u ys kept_new ∙ ap (λ p. p ++ 35 ∷ ys) same) is
    (ap (λ f. has_fragment (Some f)) (percent_encode_unchanged FRAGMENT ys kept_new) ∙ some)

-- So do URLs whose bodies are read alike.
by_read : (r : Parsed Parts) (prefix old ys : List ℕ) → All (IsKept FRAGMENT) old → All (IsKept FRAGMENT) ys
    → is_url_text (prefix ++ 35 ∷ ys) ≡ true → has_fragment (Some ys) ≡ true
    → (accepted (whole_of r old) >>= text_of) ≡ Ok (prefix ++ 35 ∷ old)
    → (accepted (whole_of r ys) >>= text_of) ≡ Ok (prefix ++ 35 ∷ ys)
by_read (Err e) prefix old ys a b is some h = absurd (cc h)
by_read (Ok u) prefix old ys a b is some h = by_parts u prefix old ys a b is some h

-- However a scheme is split off, what comes to its own text with one fragment does so with another.
by_split : (split : Option (List ℕ × List ℕ)) (prefix old ys : List ℕ) → All (IsKept FRAGMENT) old → All (IsKept FRAGMENT) ys
    → is_url_text (prefix ++ 35 ∷ ys) ≡ true → has_fragment (Some ys) ≡ true
    → (accepted (parse_by_scheme split None prefix None (Some old)) >>= text_of) ≡ Ok (prefix ++ 35 ∷ old)
    → (accepted (parse_by_scheme split None prefix None (Some ys)) >>= text_of) ≡ Ok (prefix ++ 35 ∷ ys)
unfolding parse_parts
by_split None prefix old ys a b is some h = absurd (cc h)
by_split (Some split) prefix old ys a b is some h = by_read (parse_body _ None split.1) prefix old ys a b is some h

-- The key of a prefix and a fragment is that of what stands in the text.
key_is : (prefix ys : List ℕ) → is_url_text (prefix ++ 35 ∷ ys) ≡ true → list_all in_prefix prefix ≡ true
    → key_of (prefix ++ 35 ∷ ys) ≡ (accepted (parse_by_scheme (split_scheme prefix) None prefix None (Some ys)) >>= text_of)
unfolding key_of
key_is prefix ys is plain = ap (λ p. accepted p >>= text_of) (parsed_by_prefix None prefix ys (bytes_of (prefix ++ 35 ∷ ys) is) plain)

-- A URL whose prefix is that of one that is its own text, and nothing of whose fragment is escaped, is its own.
pub is_alike_lem : (prefix known url : List ℕ) → IsPlainPrefix prefix known url → HasPlainFragment prefix known
    → HasPlainFragment prefix url → key_of known ≡ Ok known → key_of url ≡ Ok url
is_alike_lem prefix known url is first second own =
    let old = first.fragment in
    let ys = second.fragment in
    let known_text : is_url_text (prefix ++ 35 ∷ old) ≡ true = ap is_url_text (sym first.parts) ∙ is.base_text in
    let url_text : is_url_text (prefix ++ 35 ∷ ys) ≡ true = ap is_url_text (sym second.parts) ∙ is.url_text in
    let here : key_of (prefix ++ 35 ∷ old) ≡ Ok (prefix ++ 35 ∷ old) = subst (λ t. key_of t ≡ Ok t) first.parts own in
    subst (λ t. key_of t ≡ Ok t) (sym second.parts)
    (key_is prefix ys url_text is.parted.plain
    ∙ by_split (split_scheme prefix) prefix old ys
    (all_kept old (all_rest prefix old (bytes_of (prefix ++ 35 ∷ old) known_text)) first.plain)
    (all_kept ys (all_rest prefix ys (bytes_of (prefix ++ 35 ∷ ys) url_text)) second.plain)
    url_text second.some (sym (key_is prefix old known_text is.parted.plain) ∙ here))
