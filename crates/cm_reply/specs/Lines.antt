-- Promised.
-- How a line of a journal is read.
use Rattle.std.specs.Prelude.{◌≡◌, ℕ, ◌<◌, ◌≤◌, ◌^◌, ◌++◌, length, codes, decimal}
use Rattle.std.specs.Str.{IsUtf8}
use Rattle.cm_world.specs.declared.event.Event.{Event}
use Rattle.cm_reply.specs.Lists.{TextBytes}
use Rattle.cm_reply.specs.Events.{event_text}
use Rattle.cm_reply.specs.Legible.{IsLegible}

-- what stands between an event and its reply in a line
abbrev pub arrow : TextBytes
arrow = codes " => "

-- what stands before the arrow in a line: a number, a caller and an event
abbrev pub asked_text : ℕ → ℕ → Event → TextBytes
asked_text number caller event =
    decimal number ++ (codes " " ++ (decimal caller ++ (codes " " ++ event_text event)))

-- the line tells of an entry: a number of 64 bits, a caller of 32, a legible event, and after its last
-- arrow the text of a reply, which may be empty
pub record IsEntryLine (t : TextBytes) (number caller : ℕ) (event : Event) (reply : TextBytes) : Type 0 where
  pub of_64_bits : number < 2 ^ 64
  pub of_32_bits : caller < 2 ^ 32
  pub legible : IsLegible event
  pub utf8 : IsUtf8 reply
  pub whole : t ≡ asked_text number caller event ++ (arrow ++ reply)
  -- no arrow begins further after
  pub last : (prefix rest : TextBytes) → t ≡ prefix ++ (arrow ++ rest)
      → length prefix ≤ length (asked_text number caller event)
