-- What a call does behind calls that a signal cut short.
use Rattle.std.proofs.Common.{ℕ, List, ◌++◌, take, Option, Some, None, Result, Ok, Err, ◌∙◌, sym, ap}
use Rattle.std.specs.Io.KnownBytes.{Appends, Consumes, Keeps, ReadConsumes, WriteAppends}
use Rattle.std.proofs.KnownBytes.{Keeps-trans}

-- A call that consumes bytes behind one that keeps the source consumes them from the beginning.
kept-consumes : (a b c : Option (List ℕ)) (bs : List ℕ) → Keeps a b → Consumes b c bs → Consumes a c bs
kept-consumes None b c bs kept consumed = tt
kept-consumes (Some x) None c bs kept consumed = absurd kept
kept-consumes (Some x) (Some y) None bs kept consumed = absurd consumed
kept-consumes (Some x) (Some y) (Some z) bs kept consumed = sym kept ∙ consumed

-- A call that appends bytes behind one that keeps what is there appends them from the beginning.
kept-appends : (a b c : Option (List ℕ)) (bs : List ℕ) → Keeps a b → Appends b c bs → Appends a c bs
kept-appends None b c bs kept grown = tt
kept-appends (Some x) None c bs kept grown = absurd kept
kept-appends (Some x) (Some y) None bs kept grown = absurd grown
kept-appends (Some x) (Some y) (Some z) bs kept grown = grown ∙ ap (λ l. l ++ bs) kept

-- What a read consumes behind calls that kept the bytes, it consumes from before these calls.
pub kept-read : {E : Type 0} (a b c : Option (List ℕ)) (r : Result ℕ E) (into : List ℕ)
    → Keeps a b → ReadConsumes b c r into → ReadConsumes a c r into
kept-read a b c (Ok n) into kept read = (kept-consumes a b c (take n into) kept read.0, read.1)
kept-read a b c (Err e) into kept read = Keeps-trans a b c kept read

-- What a write appends behind calls that kept the bytes, it appends from before these calls.
pub kept-write : {E : Type 0} (a b c : Option (List ℕ)) (r : Result ℕ E) (bytes : List ℕ)
    → Keeps a b → WriteAppends b c r bytes → WriteAppends a c r bytes
kept-write a b c (Ok n) bytes kept written = kept-appends a b c (take n bytes) kept written
kept-write a b c (Err e) bytes kept written = Keeps-trans a b c kept written
