-- What a writer has written, and the JSON of the whole text.
use Rattle.std.proofs.Common.{◌≡◌, ℕ, List, [], ◌∷◌, ◌++◌, Bool, true, false, not, ◌&&◌, ◌||◌, ◌==◌, Option, Some, None, option_map, refl, sym, ap, ◌∙◌, arith, rules}
use Rattle.std.specs.List.{list_all, flat_map, join_with_byte}
use Rattle.std.proofs.lemmas.Bool.{and_parts, or_parts, not-true}
use Rattle.std.proofs.lemmas.List.{append-nil, append_assoc}
use Rattle.std.proofs.lemmas.Grind.{flat_map-append}
use Rattle.std.specs.Cmp.{first_so}
use Rattle.cm_text.specs.Bytes.{is_quote}
use Rattle.cm_text.specs.Token.{Token, quoted}
use Rattle.cm_text.specs.Split.{is_char, is_token}
use Rattle.cm_text.specs.Json.{in_quotes, token_json, is_mark_of, is_comma, is_colon, is_closing, is_needless, spelling, spellings, head_of, json_of_tokens}
use Rattle.cm_text.specs.Scan.{token_of, within}
use Rattle.cm_text.specs.Spelling.{spelling_behind_space, is_pending, is_same, chars_json}
use Rattle.cm_text.specs.Writing.{json_behind, json_pending, pending_spelling}
use Rattle.cm_text.specs.declared.token.Token.{Token as CodeToken}
use Rattle.cm_text.proofs.lemmas.found.String.{within_spells}

-- ---- strings in double quotes

-- A quote that isn't the single one is the double one.
double_quote : (q : ℕ) → is_quote q ≡ true → (q ≡ 39 → ⊥) → q ≡ 34
double_quote q h other = grind (arith, rules)

-- The JSON of a string that isn't in single quotes is its bytes in double quotes.
pub quoted_json : (q : ℕ) (bs : List ℕ) → is_token (quoted q (within false bs)) ≡ true → (q ≡ 39 → ⊥) → in_quotes bs ≡ token_json false (quoted q (within false bs))
quoted_json q bs h other =
    let double : q ≡ 34 = double_quote q (first_so (is_quote q) (list_all (is_char q) (within false bs)) h) other in
    rw double (ap (λ xs. 34 ∷ (xs ++ 34 ∷ [])) (sym (within_spells false bs)))

-- ---- strings in single quotes

-- Bytes that all stand for themselves are what they are between double quotes.
same_json : (bs : List ℕ) → list_all is_same bs ≡ true → bs ≡ chars_json false bs
same_json [] h = refl
same_json (b ∷ bs) h =
    let both = and_parts (is_same b) (list_all is_same bs) h in
    let tests = or_parts (b == 34) (b == 92) (not-true _ both.0) in
    rw (tests.1, tests.0) (ap (λ l. b ∷ l) (same_json bs both.1))

-- bytes that stand for themselves are written as they are
pub same_written : (old new bytes inside : List ℕ) → bytes ≡ inside → list_all is_same bytes ≡ true
    → new ≡ old ++ inside → new ≡ old ++ chars_json false inside
same_written old new bytes inside e h w =
    w ∙ ap (λ l. old ++ l) (same_json inside (ap (list_all is_same) (sym e) ∙ h))

-- ---- spaces between spellings

-- Texts one behind another, each behind a space.
with_spaces : List (List ℕ) → List ℕ
with_spaces ss = flat_map (λ s. 32 ∷ s) ss

-- Texts joined by spaces are the first one, and the others each behind a space.
joined : (s : List ℕ) (ss : List (List ℕ)) → join_with_byte 32 (s ∷ ss) ≡ s ++ with_spaces ss
unfolding with_spaces
joined s [] = sym (append-nil s)
joined s (r ∷ ss) = ap (λ xs. s ++ 32 ∷ xs) (joined r ss)

-- A token's spelling behind a space is what is spelled behind another token, if it is needed.
spaced_by_need : (before : Token) (t : Token) (after : Option Token) (n : Bool) → is_needless (Some before) t after ≡ n → with_spaces (spelling (Some before) t after) ≡ spelling_behind_space (Some before) t after
unfolding with_spaces
spaced_by_need before t after true e = rw e refl
spaced_by_need before t after false e = rw e (ap (λ xs. 32 ∷ xs) (append-nil (token_json (is_mark_of is_colon after) t)))

-- The spellings behind a token, each behind a space, are the JSON behind it.
behind_token : (before : Token) (ts : List Token) → with_spaces (spellings (Some before) ts) ≡ json_behind (Some before) ts
unfolding with_spaces
behind_token before [] = refl
behind_token before (t ∷ ts) =
    flat_map-append (λ s. 32 ∷ s) (spelling (Some before) t (head_of ts)) (spellings (Some t) ts)
    ∙ ap (λ xs. xs ++ with_spaces (spellings (Some t) ts)) (spaced_by_need before t (head_of ts) (is_needless (Some before) t (head_of ts)) refl)
    ∙ ap (λ xs. spelling_behind_space (Some before) t (head_of ts) ++ xs) (behind_token t ts)

-- Four tests of which the third never passes don't all pass.
first_needed : (a b : Bool) → (a && b && false && true) ≡ false
first_needed true true = refl
first_needed true false = refl
first_needed false true = refl
first_needed false false = refl

-- the JSON of a text's tokens is what is written behind nothing
pub behind_nothing : (ts : List Token) → json_behind None ts ≡ json_of_tokens ts
behind_nothing [] = refl
behind_nothing (t ∷ ts) =
    let needed : is_needless None t (head_of ts) ≡ false = first_needed (is_mark_of is_comma (Some t)) (is_mark_of is_closing (head_of ts)) in
    rw needed (sym (joined (token_json (is_mark_of is_colon (head_of ts)) t) (spellings (Some t) ts) ∙ ap (λ xs. token_json (is_mark_of is_colon (head_of ts)) t ++ xs) (behind_token t ts)))

-- ---- the next token

-- Where the pending token is written, and the next one is pending then, the whole JSON is the same.
pub pushed : (old new : List ℕ) (before pending : Option CodeToken) (t : Token) (ts : List Token) → is_pending before pending ≡ true → new ≡ old ++ pending_spelling (option_map token_of before) (option_map token_of pending) (Some t) → new ++ json_pending (option_map token_of pending) (Some t) ts ≡ old ++ json_pending (option_map token_of before) (option_map token_of pending) (t ∷ ts)
pushed old new before (Some p) t ts h e =
    ap (λ xs. xs ++ json_behind (Some (token_of p)) (t ∷ ts)) e ∙ append_assoc old (spelling_behind_space (option_map token_of before) (token_of p) (Some t)) (json_behind (Some (token_of p)) (t ∷ ts))
pushed old new None None t ts h e = ap (λ xs. xs ++ json_behind None (t ∷ ts)) (e ∙ append-nil old)
pushed old new (Some b) None t ts h e = absurd (grind (arith, rules))
