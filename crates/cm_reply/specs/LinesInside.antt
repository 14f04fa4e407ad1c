-- Inside.
-- That the lines of a journal are read back, and in one way only.
use Rattle.std.specs.Prelude.{◌≡◌, ℕ, ◌<◌, ◌≤◌, ◌^◌, ◌++◌, length}
use Rattle.cm_world.specs.declared.event.Event.{Event}
use Rattle.cm_world.specs.declared.reply.Entry.{Entry}
use Rattle.cm_reply.specs.Lists.{TextBytes}
use Rattle.cm_reply.specs.Replies.{replied_text}
use Rattle.cm_reply.specs.Journal.{entry_text}
use Rattle.cm_reply.specs.LegibleInside.{IsLegibleEntry}
use Rattle.cm_reply.specs.Lines.{arrow, IsEntryLine}

-- the text is a prefix, an arrow and a rest, and it has no later arrow
pub record IsCutAtLast (t prefix rest : TextBytes) : Type 0 where
  pub whole : t ≡ prefix ++ (arrow ++ rest)
  pub last : (a r : TextBytes) → t ≡ a ++ (arrow ++ r) → length a ≤ length prefix

-- the line tells of some entry
abbrev pub IsSomeEntryLine : TextBytes → Type 0
IsSomeEntryLine t =
    (number : ℕ) × (caller : ℕ) × (event : Event) × (reply : TextBytes)
    × IsEntryLine t number caller event reply

-- the line of a legible entry is read as its number, its caller, its event and the text of its reply
abbrev pub EntriesAreReadBack : Type 0
EntriesAreReadBack =
    (number : ℕ) (e : Entry) → number < 2 ^ 64 → IsLegibleEntry e
    → IsEntryLine (entry_text number e) number e.caller e.event (replied_text e.reply)

-- two readings of a line are the same
pub record AreSame (n c : ℕ) (e : Event) (r : TextBytes) (m d : ℕ) (f : Event) (s : TextBytes) : Type 0 where
  pub numbers : n ≡ m
  pub callers : c ≡ d
  pub events : e ≡ f
  pub replies : r ≡ s

-- a line is read in one way at most
abbrev pub EntriesReadOneWay : Type 0
EntriesReadOneWay =
    (t : TextBytes) (n m c d : ℕ) (e f : Event) (r s : TextBytes) → IsEntryLine t n c e r
    → IsEntryLine t m d f s
    → AreSame n c e r m d f s
