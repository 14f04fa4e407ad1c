-- Inside.
-- Laws of tokens and faults, as statements: the grammar and the computed reader agree.
use Rattle.std.specs.Prelude.{◌≡◌, ◌⊎◌, ℕ, List, Ok, Err}
use Rattle.cm_text.specs.Token.{Token}
use Rattle.cm_text.specs.Split.{AreTokensOf, IsTextFault}
use Rattle.cm_text.specs.Pieces.{tokens}
use Rattle.cm_text.specs.Json.{json_of_tokens}
use Rattle.cm_text.specs.declared.fault.TextFault.{TextFault}

-- this is the JSON of the tokens that the text has by the grammar
abbrev pub IsJsonOf : List ℕ → List ℕ → Type 0
IsJsonOf text json = (ts : List Token) × AreTokensOf text ts × (json ≡ json_of_tokens ts)

-- a text has one list of tokens at most
abbrev pub TokensAreUnique : Type 0
TokensAreUnique = (text : List ℕ) (ts us : List Token) → AreTokensOf text ts → AreTokensOf text us → ts ≡ us

-- the tokens that a text has by the grammar are the computed ones
abbrev pub TokensAreComputed : Type 0
TokensAreComputed = (text : List ℕ) (ts : List Token) → AreTokensOf text ts → tokens text ≡ Ok ts

-- the fault that a text has by the grammar is the computed one
abbrev pub FaultsAreComputed : Type 0
FaultsAreComputed = (text : List ℕ) (e : TextFault) → IsTextFault text e → tokens text ≡ Err e

-- a text has one fault at most
abbrev pub FaultsAreUnique : Type 0
FaultsAreUnique = (text : List ℕ) (e f : TextFault) → IsTextFault text e → IsTextFault text f → e ≡ f

-- a text with tokens has no fault
abbrev pub TokensExcludeFaults : Type 0
TokensExcludeFaults =
    (text : List ℕ) (ts : List Token) (e : TextFault) → AreTokensOf text ts → IsTextFault text e → ⊥

-- each text has tokens or a fault
abbrev pub TextsAreCovered : Type 0
TextsAreCovered =
    (text : List ℕ) → ((ts : List Token) × AreTokensOf text ts) ⊎ ((e : TextFault) × IsTextFault text e)
