-- Promised.
-- In which order bytes go in and out of a link.
use Rattle.std.specs.Prelude.{◌≡◌, ℕ, suc, ◌+◌, cond, nat_eq, Option, Some, None}
use Rattle.std.specs.Prelude.{List, [], ◌∷◌, ◌++◌, length, take, flat_map}
use Rattle.cm_io.specs.declared.source.Got.{Got}
use Rattle.cm_io.specs.declared.source.Got.TheVariants as got
use Rattle.cm_io.specs.declared.sink.Took.{Took}
use Rattle.cm_io.specs.declared.sink.Took.TheVariants as took

-- one move of a link: a read, with the bytes that it gave, none where it failed or came to the end; a
-- write, with those that it took, none where it failed; or hanging up
pub data Move : Type 0 where
  gave : List ℕ → Move
  wrote : List ℕ → Move
  hung_up : Move

-- the bytes that a read gave
abbrev pub got_bytes : List ℕ → Got → List ℕ
got_bytes into (got.Bytes n) = take n into
got_bytes into got.End = []
got_bytes into got.Failed = []

-- the bytes that a write took
abbrev pub took_bytes : List ℕ → Took → List ℕ
took_bytes bytes (took.Bytes n) = take n bytes
took_bytes bytes took.Failed = []

-- these moves were made, as far as the order is told; it isn't told again once it wasn't
abbrev pub MovesCame : Option (List Move) → Option (List Move) → List Move → Type 0
MovesCame old None moves = Unit {0}
MovesCame None (Some new) moves = ⊥
MovesCame (Some old) (Some new) moves = new ≡ old ++ moves

-- all these pieces as one text
abbrev pub joined : List (List ℕ) → List ℕ
joined pieces = flat_map (λ piece. piece) pieces

-- the bytes that the reads among these moves gave
abbrev pub given_in : List Move → List ℕ
given_in [] = []
given_in (gave piece ∷ moves) = piece ++ given_in moves
given_in (wrote bytes ∷ moves) = given_in moves
given_in (hung_up ∷ moves) = given_in moves

-- the bytes that the writes among these moves took
abbrev pub written_in : List Move → List ℕ
written_in [] = []
written_in (gave piece ∷ moves) = written_in moves
written_in (wrote bytes ∷ moves) = bytes ++ written_in moves
written_in (hung_up ∷ moves) = written_in moves

-- how many lines end in these bytes
abbrev pub ends_in : List ℕ → ℕ
ends_in [] = 0
ends_in (byte ∷ bytes) = cond (nat_eq byte 10) (suc (ends_in bytes)) (ends_in bytes)

-- replies and reads take turns: these replies were made so far, one for each line; a read came only
-- when each line that had ended had its reply written, and nothing else was written
pub data InStep : List (List ℕ) → List Move → Type 0 where
  begun : InStep [] []
  made : {replies : List (List ℕ)} {moves : List Move} (reply : List ℕ)
      → InStep replies moves → InStep (replies ++ reply ∷ []) moves
  wrote_on : {replies : List (List ℕ)} {moves : List Move} (bytes : List ℕ)
      → InStep replies moves → InStep replies (moves ++ wrote bytes ∷ [])
  read_on : {replies : List (List ℕ)} {moves : List Move} (piece : List ℕ)
      → InStep replies moves → written_in moves ≡ joined replies
      → ends_in (given_in moves) ≡ length replies → InStep replies (moves ++ gave piece ∷ [])
