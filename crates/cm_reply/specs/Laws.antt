-- Inside.
-- How a journal grows.
use Rattle.std.specs.Prelude.{◌≡◌, ◌+◌, List, [], ◌∷◌, ◌++◌, length}
use Rattle.cm_world.specs.declared.frame.Frame.{Frame}
use Rattle.cm_world.specs.declared.reply.Entry.{Entry}
use Rattle.cm_reply.specs.Journal.{entry_text, header_text, journal_text, line}

-- a journal without entries is its header
abbrev pub JournalBegins : Type 0
JournalBegins = (f : Frame) → journal_text f [] ≡ header_text f

-- an entry more is a line more, with the next number
abbrev pub JournalGrows : Type 0
JournalGrows =
    (f : Frame) (es : List Entry) (e : Entry)
    → journal_text f (es ++ e ∷ []) ≡ journal_text f es ++ line (entry_text (length es + 1) e)
