-- Inside.
-- That every legal history keeps all laws, as one statement.
use Rattle.std.specs.Prelude.{List}
use Rattle.cm_world.specs.declared.frame.Frame.{Frame}
use Rattle.cm_world.specs.declared.reply.Entry.{Entry}
use Rattle.cm_world.specs.World.{start}
use Rattle.cm_world.specs.Legal.{Legal}
use Rattle.cm_laws.specs.Histories.{KeepsLaws}

-- every legal history keeps all laws
abbrev pub HistoriesKeepLaws : Type 0
HistoriesKeepLaws = (f : Frame) (es : List Entry) → Legal (start f) es → KeepsLaws f es
