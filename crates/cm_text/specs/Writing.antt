-- Inside.
-- What the writer of JSON has written, and what is still to come.
use Rattle.std.specs.Prelude.{◌≡◌, List, [], ◌∷◌, ◌++◌, ℕ, Option, Some, None, option_map, string_bytes}
use Rattle.std.specs.Prelude.{Result, Ok, Err}
use Rattle.cm_text.specs.Token.{Token}
use Rattle.cm_text.specs.Json.{head_of}
use Rattle.cm_text.specs.Scan.{token_of}
use Rattle.cm_text.specs.Spelling.{spelling_behind_space}
use Rattle.cm_text.specs.declared.fault.TextFault.{TextFault}
use Rattle.cm_text.specs.declared.writer.JsonWriter.{JsonWriter}

-- the JSON of tokens that follow a token
abbrev pub json_behind : Option Token → List Token → List ℕ
json_behind before [] = []
json_behind before (t ∷ ts) = spelling_behind_space before t (head_of ts) ++ json_behind (Some t) ts

-- the JSON of tokens that follow a token and one which isn't written yet
abbrev pub json_pending : Option Token → Option Token → List Token → List ℕ
json_pending before None ts = json_behind before ts
json_pending before (Some t) ts = json_behind before (t ∷ ts)

-- the whole JSON, where these tokens are still to come
abbrev pub json_then : JsonWriter → List Token → List ℕ
json_then w ts =
    string_bytes w.json ++ json_pending (option_map token_of w.before) (option_map token_of w.pending) ts

-- the whole JSON, where these tokens are still to come, or a fault is
abbrev pub json_left : JsonWriter → Result (List Token) TextFault → Result (List ℕ) TextFault
json_left w (Ok ts) = Ok (json_then w ts)
json_left w (Err e) = Err e

-- the JSON of the token that isn't written yet, if there is one
abbrev pub pending_spelling : Option Token → Option Token → Option Token → List ℕ
pending_spelling before None after = []
pending_spelling before (Some t) after = spelling_behind_space before t after

-- the token that wasn't written yet is written now, before the one that follows it
pub record IsWritten (old new : JsonWriter) (after : Option Token) : Type 0 where
  pub before : new.before ≡ old.before
  pub pending : new.pending ≡ old.pending
  pub json : string_bytes new.json
      ≡ string_bytes old.json
      ++ pending_spelling (option_map token_of old.before) (option_map token_of old.pending) after
