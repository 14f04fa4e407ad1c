-- Inside.
-- What functions that read lines and write replies say of the order.
use Rattle.std.specs.Prelude.{◌≡◌, ℕ, ◌+◌, Option}
use Rattle.std.specs.Prelude.{List, [], ◌∷◌, ◌++◌, length, take, map}
use Rattle.cm_io.specs.LinesInside.{IsUnbroken}
use Rattle.cm_io.specs.declared.output.Put.{Put}
use Rattle.cm_io.specs.declared.output.Put.TheVariants as put
use Rattle.cm_io.specs.Orders.{Move, MovesCame, joined, given_in, written_in, ends_in, InStep, gave, wrote}
use Rattle.cm_io.specs.Orders.{made}

-- before each of these pieces was read, no line had ended in what was there
abbrev pub ReadsUnbroken : List ℕ → List (List ℕ) → Type 0
ReadsUnbroken taken [] = Unit {0}
ReadsUnbroken taken (piece ∷ pieces) = IsUnbroken taken × ReadsUnbroken (taken ++ piece) pieces

-- these bytes were read, each piece only while no line had ended in what was held and read before
pub record Pulled (old new : Option (List Move)) (held given : List ℕ) : Type 0 where
  pub pieces : List (List ℕ)
  pub all : given ≡ joined pieces
  pub came : MovesCame old new (map gave pieces)
  pub no_further : ReadsUnbroken held pieces

-- these pieces of a text were written: all of it, or what came before a fault
abbrev pub WritesPieces : List ℕ → List (List ℕ) → Put → Type 0
WritesPieces bytes pieces put.Done = joined pieces ≡ bytes
WritesPieces bytes pieces (put.WriteFault n) = joined pieces ≡ take n bytes

-- a text was written in pieces, and no other move was made
pub record PutsInOrder (old new : Option (List Move)) (bytes : List ℕ) (answer : Put) : Type 0 where
  pub pieces : List (List ℕ)
  pub came : MovesCame old new (map wrote pieces)
  pub are : WritesPieces bytes pieces answer

-- all replies that were made are written, and only the lines in what is held still wait for one
pub record AnsweredInOrder (replies : List (List ℕ)) (moves : List Move) (held : List ℕ) : Type 0 where
  pub in_step : InStep replies moves
  pub written : written_in moves ≡ joined replies
  pub lines : ends_in (given_in moves) ≡ length replies + ends_in held
