-- Inside.
-- Reading a text in the relaxed spelling directly, token by token; it gives what the full reader gives of
-- the text's JSON.
use Rattle.std.specs.Prelude.{◌≡◌, ℕ, List, [], ◌∷◌, ◌++◌, Bool, true, false, not, ◌||◌, ◌&&◌, ◌==◌, nat_lt}
use Rattle.std.specs.Prelude.{if◌then◌else◌, Option, Some, Ok}
use Rattle.json.specs.Token.{string}
use Rattle.json.specs.Lex.{token, lex, between}
use Rattle.serde_json.specs.Data.{Data, Items, Members}
use Rattle.serde_json.specs.Read.{read}
use Rattle.cm_text.specs.Token.{Token, mark, Piece, tokens_of}
use Rattle.cm_text.specs.Split.{SplitsInto}
use Rattle.cm_text.specs.Json.{json_of, token_json, is_comma, is_colon, is_closing, keeps_comma, is_mark_of}
use Rattle.cm_text.specs.Json.{head_of}
use Rattle.cm_plain.specs.Plain.{HasValue, HasItems, HasMembers, AddsItem, AddsMember}
use Rattle.cm_plain.specs.declared.tree.JsonTree.{JsonTree}

-- ---- the JSON of tokens

-- whether this is a comma before a closing mark that isn't written, where v says that it may be one
abbrev pub is_trailing : Bool → Token → Option Token → Bool
is_trailing v t after = is_mark_of is_comma (Some t) && is_mark_of is_closing after && v

-- the JSON of a token before this one, behind a space
abbrev pub shown_one : Bool → Token → Option Token → List ℕ
shown_one v t after =
    if is_trailing v t after then [] else 32 ∷ token_json (is_mark_of is_colon after) t

-- the JSON of tokens, each behind a space; v says whether a comma that comes first may be a trailing one
abbrev pub shown : Bool → List Token → List ℕ
shown v [] = []
shown v (t ∷ ts) = shown_one v t (head_of ts) ++ shown (not (is_mark_of keeps_comma (Some t))) ts

-- whether the first token isn't a mark that closes something
abbrev pub NoClosing : List Token → Type 0
NoClosing ts = is_mark_of is_closing (head_of ts) ≡ false

-- ---- what was read

-- these tokens were passed, with the spaces and comments around them, and this rest follows
pub record PassesTokens (text : List ℕ) (ts : List Token) (rest : List ℕ) : Type 0 where
  pub passed : List Piece
  pub splits : SplitsInto text passed rest
  pub tokens : tokens_of passed ≡ ts

-- the text begins with this string, and this rest follows
pub record HasString (text s rest : List ℕ) : Type 0 where
  pub spelled : Token
  pub passes : PassesTokens text (spelled ∷ []) rest
  pub opens : NoClosing (spelled ∷ [])
  pub lexed : (v : Bool) (more : List Token)
      → lex between (shown v (spelled ∷ more)) ≡ token (string s) ∷ lex between (shown true more)

-- the text begins with this key, if a colon is next in the rest that follows
pub record HasKey (text s rest : List ℕ) : Type 0 where
  pub spelled : Token
  pub passes : PassesTokens text (spelled ∷ []) rest
  pub opens : NoClosing (spelled ∷ [])
  pub lexed : (v : Bool) (more : List Token)
      → lex between (shown v (spelled ∷ mark 58 ∷ more))
      ≡ token (string s) ∷ lex between (shown true (mark 58 ∷ more))

-- the text begins with tokens whose JSON is this value, and this rest follows; depth is how deep values may
-- still lie in each other
pub record GivesValue (depth : ℕ) (text : List ℕ) (d : Data) (rest : List ℕ) : Type 0 where
  pub ts : List Token
  pub passes : PassesTokens text ts rest
  pub opens : (more : List Token) → NoClosing (ts ++ more)
  pub gives : (v : Bool) (more : List Token) → HasValue depth (shown v (ts ++ more)) d (shown true more)

-- the text begins with the tokens of these items of a list, up to its closing bracket
pub record GivesItems (depth : ℕ) (text : List ℕ) (ds : Items) (rest : List ℕ) : Type 0 where
  pub ts : List Token
  pub passes : PassesTokens text ts rest
  pub gives : (v : Bool) (more : List Token) → HasItems depth (shown v (ts ++ more)) ds (shown true more)

-- the text begins with the tokens of these members of an object, up to its closing brace
pub record GivesMembers (depth : ℕ) (text : List ℕ) (ms : Members) (rest : List ℕ) : Type 0 where
  pub ts : List Token
  pub passes : PassesTokens text ts rest
  pub gives : (v : Bool) (more : List Token) → HasMembers depth (shown v (ts ++ more)) ms (shown true more)

-- the reader has taken the tokens of one more item of a list
pub record TakesItem (depth : ℕ) (text : List ℕ) (old new : List JsonTree) (rest : List ℕ) : Type 0 where
  pub ts : List Token
  pub passes : PassesTokens text ts rest
  pub opens : (more : List Token) → NoClosing (ts ++ more)
  pub adds : (v : Bool) (more : List Token) → AddsItem depth (shown v (ts ++ more)) old new (shown true more)

-- the reader has taken the tokens of one more member of an object
pub record TakesMember (depth : ℕ) (text : List ℕ) (old new : Members) (rest : List ℕ) : Type 0 where
  pub ts : List Token
  pub passes : PassesTokens text ts rest
  pub opens : (more : List Token) → NoClosing (ts ++ more)
  pub adds : (v : Bool) (more : List Token)
      → AddsMember depth (shown v (ts ++ more)) old new (shown true more)

-- the text in the relaxed spelling has a JSON text, which reads as this value
pub record JsonReads (text : List ℕ) (d : Data) : Type 0 where
  pub json : List ℕ
  pub is_json : json_of text ≡ Ok json
  pub reads : read json ≡ Some d
