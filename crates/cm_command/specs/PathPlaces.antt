-- Inside.
-- Where the reader of a path stands after some of its bytes.
use Rattle.std.specs.Prelude.{ℕ, List, codes}
use Rattle.cm_command.specs.declared.tokens.PathState.{PathState}
use Rattle.cm_command.specs.declared.tokens.PathState.TheVariants.{Slash, Dot, Dots, Inside}

-- bytes that bring the reader to this state; what may follow them may follow all bytes that bring it
-- there
abbrev pub path_prefix : PathState → List ℕ
path_prefix Slash = codes ""
path_prefix Dot = codes "."
path_prefix Dots = codes ".."
path_prefix Inside = codes "a"
