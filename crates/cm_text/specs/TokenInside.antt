-- Inside.
-- The bytes of several pieces.
use Rattle.std.specs.Prelude.{ℕ, List}
use Rattle.std.specs.List.{flat_map}
use Rattle.cm_text.specs.Token.{Piece, piece_bytes}

-- the bytes of these pieces, one after another
abbrev pub bytes_of : List Piece → List ℕ
bytes_of ps = flat_map piece_bytes ps
