-- Inside.
-- The JSON of tokens as the writer puts it down, character by character.
use Rattle.std.specs.Prelude.{ℕ, List, [], ◌∷◌, ◌++◌, Bool, true, false, ◌==◌, if◌then◌else◌, Option, Some}
use Rattle.std.specs.Prelude.{None, not, ◌||◌}
use Rattle.std.specs.Char.{encode_utf8}
use Rattle.std.specs.List.{list_all, flat_map}
use Rattle.cm_text.specs.Token.{Token}
use Rattle.cm_text.specs.Split.{is_char, is_token}
use Rattle.cm_text.specs.Json.{char_json, is_needless, is_some_token, token_json, is_mark_of, is_colon}
use Rattle.cm_text.specs.Scan.{within, token_of}
use Rattle.cm_text.specs.declared.token.Token.{Token as CodeToken}

-- a character of a string in single quotes, as it stands in double quotes; the flag says whether a
-- backslash came before
abbrev pub char_text : Bool → ℕ → List ℕ
char_text true c = if c == 39 then 39 ∷ [] else 92 ∷ encode_utf8 c
char_text false c = if c == 34 then 92 ∷ 34 ∷ [] else encode_utf8 c

-- what the bytes between single quotes are in double quotes
abbrev pub chars_json : Bool → List ℕ → List ℕ
chars_json behind bs = flat_map char_json (within behind bs)

-- whether a byte stands for itself between quotes of either kind
abbrev pub is_same : ℕ → Bool
is_same b = not ((b == 34) || (b == 92))

-- whether no single backslash ends the bytes between single quotes
abbrev pub are_chars : Bool → List ℕ → Bool
are_chars behind bs = list_all (is_char 39) (within behind bs)

-- the JSON of a token between its neighbours, after a space unless it is the first
abbrev pub spelling_behind_space : Option Token → Token → Option Token → List ℕ
spelling_behind_space before t after =
    if is_needless before t after then []
    else (if is_some_token before then 32 ∷ [] else []) ++ token_json (is_mark_of is_colon after) t

-- the writer's last token is a proper one; where it has none, none was written before
abbrev pub is_pending : Option CodeToken → Option CodeToken → Bool
is_pending before (Some t) = is_token (token_of t)
is_pending None None = true
is_pending (Some b) None = false
