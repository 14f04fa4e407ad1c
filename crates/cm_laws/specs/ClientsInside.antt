-- Inside.
-- The law of clients, as a statement of every legal history.
use Rattle.std.specs.Prelude.{List}
use Rattle.cm_world.specs.declared.frame.Frame.{Frame}
use Rattle.cm_world.specs.declared.reply.Entry.{Entry}
use Rattle.cm_world.specs.World.{start}
use Rattle.cm_world.specs.Legal.{Legal}
use Rattle.cm_laws.specs.Clients.{PicksClientsFirst}

-- in every legal history clients stop before what they depend on
abbrev pub ClientsStopFirst : Type 0
ClientsStopFirst = (f : Frame) (es : List Entry) → Legal (start f) es → PicksClientsFirst f es
