-- Inside.
-- Reading a JSON text without escapes, numbers or words directly, which most manifests are; it gives
-- what the full reader gives.
use Rattle.std.specs.Prelude.{◌≡◌, ℕ, List, [], ◌∷◌, ◌++◌, length, Bool, true, false, not, ◌||◌, ◌&&◌}
use Rattle.std.specs.Prelude.{◌==◌, nat_lt, if◌then◌else◌, Option, Some, None, option_and_then, Ok}
use Rattle.std.specs.List.{list_all}
use Rattle.json.specs.Token.{Token, string}
use Rattle.json.specs.Json.{items, members, value}
use Rattle.json.specs.Lex.{token, colon, lex, between, Place, fresh, after_value, may_begin}
use Rattle.json.specs.Lex.{begins_colon, punctuate}
use Rattle.cm_text.specs.Bytes.{is_mark, is_space}
use Rattle.cm_text.specs.Token.{Char, plain, taken, mark, quoted, word, Piece, space, line_comment}
use Rattle.cm_text.specs.Token.{block_comment}
use Rattle.cm_text.specs.TokenInside.{bytes_of}
use Rattle.cm_text.specs.Token.{token as piece}
use Rattle.cm_text.specs.Json.{json_of, is_comma, is_closing}
use Rattle.serde_json.specs.Data.{Data, Items, Members, no_members, put}
use Rattle.serde_json.specs.Read.{of_json, of_items, of_members, converted, read}
use Rattle.cm_plain.specs.JsonTree.{view}
use Rattle.cm_plain.specs.declared.tree.JsonTree.{JsonTree}

-- whether a byte stands for itself in a string with this quote
abbrev pub is_inside : ℕ → ℕ → Bool
is_inside q b = not ((b == q) || (b == 92) || nat_lt b 32)

-- whether a byte stands for itself in a string of JSON
abbrev pub is_plain : ℕ → Bool
is_plain b = is_inside 34 b

-- whether the text begins with this byte
abbrev pub begins : ℕ → List ℕ → Bool
begins c [] = false
begins c (b ∷ bs) = b == c

-- the tokens of the rest of a text, where the reader stands at this place
abbrev pub left : Place → List ℕ → List Token
left p text = punctuate p (lex between text)

-- no colon comes next, so what was read isn't a key
abbrev pub NoColon : List ℕ → Type 0
NoColon text = begins_colon (lex between text) ≡ false

-- the text begins with this value, and this rest follows; depth is how deep values may still lie in
-- each other
abbrev pub HasValue : ℕ → List ℕ → Data → List ℕ → Type 0
HasValue depth text d rest =
    (p : Place) → may_begin p ≡ true → NoColon rest
    → converted of_json (value depth (left p text)) ≡ Some (d, left after_value rest)

-- the text begins with these items of a list, up to its closing bracket, and this rest follows
abbrev pub HasItems : ℕ → List ℕ → Items → List ℕ → Type 0
HasItems depth text ds rest =
    converted of_items (items (value depth) (length (left fresh text)) (left fresh text))
    ≡ Some (ds, left after_value rest)

-- the text begins with these members of an object, up to its closing brace, and this rest follows
abbrev pub HasMembers : ℕ → List ℕ → Members → List ℕ → Type 0
HasMembers depth text ms rest =
    converted (λ found. of_members found no_members)
    (members (value depth) (length (left fresh text)) (left fresh text))
    ≡ Some (ms, left after_value rest)

-- the reader has taken one more item of a list
pub record AddsItem (depth : ℕ) (text : List ℕ) (old new : List JsonTree) (rest : List ℕ) : Type 0 where
  pub added : JsonTree
  pub grows : new ≡ old ++ added ∷ []
  pub reads : HasValue depth text (view added) rest

-- the reader has taken one more member of an object
pub record AddsMember (depth : ℕ) (text : List ℕ) (old new : Members) (rest : List ℕ) : Type 0 where
  pub key : List ℕ
  pub behind : List ℕ
  pub added : Data
  pub named : lex between text ≡ token (string key) ∷ colon ∷ lex between behind
  pub grows : new ≡ put key added old
  pub reads : HasValue depth behind added rest

-- ---- texts whose JSON has the same lexemes

-- whether a character stands for itself
abbrev pub is_plain_char : Char → Bool
is_plain_char (plain b) = is_plain b
is_plain_char (taken b) = false

-- whether the last token is a comma after one more piece, by whether it was one before; none where the
-- piece isn't a mark, a plain string or a space, or closes something after a comma
abbrev pub comma_behind : Bool → Piece → Option Bool
comma_behind c (piece (mark b)) = if is_mark b && not (c && is_closing b) then Some (is_comma b) else None
comma_behind c (piece (quoted q cs)) = if (q == 34) && list_all is_plain_char cs then Some false else None
comma_behind c (piece (word bs)) = None
comma_behind c (space b) = if is_space b then Some c else None
comma_behind c (line_comment bs) = None
comma_behind c (block_comment bs) = None

-- whether the last token is a comma after all of these pieces
abbrev pub comma_behind_all : Bool → List Piece → Option Bool
comma_behind_all c [] = Some c
comma_behind_all c (p ∷ ps) = option_and_then (λ d. comma_behind_all d ps) (comma_behind c p)

-- some pieces were passed, and this rest follows; c and d say whether a comma was the last token before
-- and after them
pub record PassesPieces (c : Bool) (text : List ℕ) (d : Bool) (rest : List ℕ) : Type 0 where
  pub passed : List Piece
  pub bytes : bytes_of passed ++ rest ≡ text
  pub comma : comma_behind_all c passed ≡ Some d

-- the text in the relaxed spelling can be read as if it were JSON: both read the same
pub record ReadsAsJson (text : List ℕ) : Type 0 where
  pub json : List ℕ
  pub is_json : json_of text ≡ Ok json
  pub same : read json ≡ read text
