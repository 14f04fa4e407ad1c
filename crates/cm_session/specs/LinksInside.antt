-- Inside.
-- What writing changes of a link, and prefixes of what was written to it.
use Rattle.std.specs.Prelude.{ℕ, List, take, Option}
use Rattle.std.specs.Io.KnownBytes.{Appends}
use Rattle.cm_io.specs.Orders.{Move}
use Rattle.cm_io.specs.declared.sink.Sink as sink
use Rattle.cm_io.specs.declared.source.Source as source
use Rattle.cm_reply.specs.Lists.{TextBytes}
use Rattle.cm_session.specs.Links.{LinkView, view_of}

-- what a link tells of what is written to it: the bytes, how often a write failed, and the order of
-- its moves
pub record Side : Type 0 where
  pub written : Option TextBytes
  pub faults : ℕ
  pub order : Option (List Move)

-- the written side of a link, with this order in the place of its own
abbrev pub side_with : LinkView → Option (List Move) → Side
side_with l order = record { written = l.sink.written; faults = l.sink.faults; order = order }

-- the written side of a link
abbrev pub side_of : LinkView → Side
side_of l = side_with l l.order

-- the written side of a link itself, through its ghost members
abbrev pub side_view : {L : Type 0} → source.Ghosts L → sink.Ghosts L → L → Side
side_view as_source as_sink l = side_of (view_of as_source as_sink l)

-- what was written grew by a prefix of this text, as far as it is known
abbrev pub GrowsByPrefix : Option TextBytes → Option TextBytes → TextBytes → Type 0
GrowsByPrefix old new text = (n : ℕ) × Appends old new (take n text)
