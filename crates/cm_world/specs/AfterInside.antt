-- Inside.
-- Which entries change more than the count of entries.
use Rattle.std.specs.Prelude.{Bool, true, false}
use Rattle.cm_world.specs.declared.reply.Reply.{Reply}
use Rattle.cm_world.specs.declared.reply.Reply.TheVariants as reply
use Rattle.cm_world.specs.declared.event.Event.{Event}
use Rattle.cm_world.specs.declared.event.Event.TheVariants.{Begin, End, Await, Create, Mark, Pick, Purge}
use Rattle.cm_world.specs.declared.event.Event.TheVariants.{Exited}

-- whether an event with this reply may change the rows, the actions or the joins, and not only the
-- count of entries
abbrev pub moves : Event → Reply → Bool
moves (Begin kind i) (reply.Begun work) = true
moves (Begin kind i) (reply.Joined a) = true
moves (End a finish) (reply.Ended o) = true
moves (Await a) (reply.Ended o) = true
moves (Create p child) (reply.Created i) = true
moves (Mark doom i) reply.Marked = true
moves (Pick t) (reply.Stopping work) = true
moves (Pick t) (reply.ShutDown i) = true
moves (Purge i) (reply.Purged lost) = true
moves (Exited i) (reply.Left m) = true
moves event r = false
