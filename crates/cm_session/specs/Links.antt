-- Promised.
-- What contracts see of a link, and prefixes of what it gave and of what was written to it.
use Rattle.std.specs.Prelude.{◌≡◌, ℕ, List, [], ◌∷◌, ◌++◌, cond, nat_eq, Option}
use Rattle.cm_io.specs.Orders.{Move}
use Rattle.cm_io.specs.Outside.{AsSink, AsSource}
use Rattle.cm_io.specs.declared.sink.Sink as sink
use Rattle.cm_io.specs.declared.source.Source as source
use Rattle.cm_reply.specs.Lists.{TextBytes}

-- a link, a connection to one peer, as contracts see it: what it tells as a source of bytes, as a sink
-- of bytes, and, where it tells that, the order in which it was read, written and hung up on
pub record LinkView : Type 0 where
  pub source : AsSource
  pub sink : AsSink
  pub order : Option (List Move)

-- what a link tells as a source
abbrev pub source_view : {L : Type 0} → source.Ghosts L → L → AsSource
source_view as_source l = record {
  left = as_source.left l;
  given = as_source.given l;
  faults = as_source.faults l;
}

-- what a link tells as a sink
abbrev pub sink_view : {L : Type 0} → sink.Ghosts L → L → AsSink
sink_view as_sink l = record { written = as_sink.written l; faults = as_sink.faults l }

-- all that a link tells
abbrev pub view_of : {L : Type 0} → source.Ghosts L → sink.Ghosts L → L → LinkView
view_of as_source as_sink l = record {
  source = source_view as_source l;
  sink = sink_view as_sink l;
  order = as_source.order l;
}

-- the second list is a prefix of the first
abbrev pub BeginsWithBytes : {A : Type 0} → List A → List A → Type 0
BeginsWithBytes all prefix = (rest : List _) × (all ≡ prefix ++ rest)

-- the lines with one more byte at the start of the first; a byte without a line is dropped
abbrev pub in_prefix_of_some : ℕ → List TextBytes → List TextBytes
in_prefix_of_some byte [] = []
in_prefix_of_some byte (line ∷ others) = (byte ∷ line) ∷ others

-- the lines of these bytes that a line feed ended; bytes after the last line feed count as none
unfoldable pub whole_lines : TextBytes → List TextBytes
whole_lines [] = []
whole_lines (byte ∷ bytes) =
    cond (nat_eq byte 10) ([] ∷ whole_lines bytes) (in_prefix_of_some byte (whole_lines bytes))
