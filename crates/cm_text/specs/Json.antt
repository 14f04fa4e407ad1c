-- Promised.
-- The JSON spelling of tokens.
use Rattle.std.specs.Prelude.{ℕ, List, [], ◌∷◌, ◌++◌, Bool, true, false, not, ◌&&◌, ◌||◌, ◌==◌, if◌then◌else◌}
use Rattle.std.specs.Prelude.{Option, Some, None, Result, Ok, Err}
use Rattle.std.specs.List.{list_all, flat_map, join_with_byte}
use Rattle.cm_text.specs.Bytes.{begins_key, continues_key, begins_with}
use Rattle.cm_text.specs.Token.{Char, plain, taken, Token, mark, quoted, word, token_bytes}
use Rattle.cm_text.specs.Pieces.{tokens}
use Rattle.cm_text.specs.declared.fault.TextFault.{TextFault}

-- ---- one token

-- a character of a string in single quotes, as strings in double quotes have it: a double quote gets a
-- backslash, and a single one loses it
abbrev pub char_json : Char → List ℕ
char_json (plain b) = if b == 34 then 92 ∷ 34 ∷ [] else b ∷ []
char_json (taken b) = if b == 39 then 39 ∷ [] else 92 ∷ b ∷ []

-- the bytes between double quotes
abbrev pub in_quotes : List ℕ → List ℕ
in_quotes bs = 34 ∷ (bs ++ 34 ∷ [])

-- whether a word may be a key without quotes
abbrev pub is_bare_key : List ℕ → Bool
is_bare_key bs = begins_with begins_key bs && list_all continues_key bs

-- a token in JSON; a word gets quotes where it is a key, which a colon follows
abbrev pub token_json : Bool → Token → List ℕ
token_json before_colon (mark b) = b ∷ []
token_json before_colon (quoted q cs) =
    if q == 39 then in_quotes (flat_map char_json cs) else token_bytes (quoted q cs)
token_json before_colon (word bs) = if before_colon && is_bare_key bs then in_quotes bs else bs

-- ---- a token between its neighbours

-- whether a mark is a comma
abbrev pub is_comma : ℕ → Bool
is_comma b = b == 44

-- whether a mark is a colon
abbrev pub is_colon : ℕ → Bool
is_colon b = b == 58

-- whether a mark closes an object or a list
abbrev pub is_closing : ℕ → Bool
is_closing b = (b == 125) || (b == 93)

-- whether a comma after this mark stays, as it is wrong there
abbrev pub keeps_comma : ℕ → Bool
keeps_comma b = (b == 123) || (b == 91) || (b == 44)

-- whether a token is there, and is a mark that passes the test
abbrev pub is_mark_of : (ℕ → Bool) → Option Token → Bool
is_mark_of p None = false
is_mark_of p (Some (mark b)) = p b
is_mark_of p (Some (quoted q cs)) = false
is_mark_of p (Some (word bs)) = false

-- whether there is a token at all
abbrev pub is_some_token : Option Token → Bool
is_some_token None = false
is_some_token (Some t) = true

-- whether a token is a trailing comma, which JSON doesn't have
abbrev pub is_needless : Option Token → Token → Option Token → Bool
is_needless before t after =
    is_mark_of is_comma (Some t) && is_mark_of is_closing after && is_some_token before
    && not (is_mark_of keeps_comma before)

-- the JSON of a token between its neighbours; none for a trailing comma
abbrev pub spelling : Option Token → Token → Option Token → List (List ℕ)
spelling before t after =
    if is_needless before t after then [] else token_json (is_mark_of is_colon after) t ∷ []

-- the first of some tokens, if there is one
abbrev pub head_of : List Token → Option Token
head_of [] = None
head_of (t ∷ ts) = Some t

-- the JSON of tokens that follow a token
abbrev pub spellings : Option Token → List Token → List (List ℕ)
spellings before [] = []
spellings before (t ∷ ts) = spelling before t (head_of ts) ++ spellings (Some t) ts

-- ---- the whole text

-- the JSON of all tokens, with one space between them
abbrev pub json_of_tokens : List Token → List ℕ
json_of_tokens ts = join_with_byte 32 (spellings None ts)

-- the JSON of tokens, or the fault that there was
abbrev pub json_result : Result (List Token) TextFault → Result (List ℕ) TextFault
json_result (Ok ts) = Ok (json_of_tokens ts)
json_result (Err e) = Err e

-- the strict JSON of a text in the relaxed spelling, or the text's first fault
abbrev pub json_of : List ℕ → Result (List ℕ) TextFault
json_of text = json_result (tokens text)
