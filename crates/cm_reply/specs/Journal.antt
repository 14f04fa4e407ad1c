-- Promised.
-- The journal: what a tree was made with, and each entry of its history, on a line of its own.
use Rattle.std.specs.Prelude.{ℕ, ◌+◌, List, [], ◌∷◌, ◌++◌, flat_map, codes, decimal}
use Rattle.cm_decl.specs.declared.kind.Kind.{Kind}
use Rattle.cm_decl.specs.declared.kind.Kind.TheVariants as kind
use Rattle.cm_names.specs.Rights.{RightSet, text_of}
use Rattle.cm_world.specs.declared.frame.Builtin.{Builtin}
use Rattle.cm_world.specs.declared.frame.Frame.{Frame}
use Rattle.cm_world.specs.declared.reply.Entry.{Entry}
use Rattle.cm_reply.specs.Lists.{TextBytes, when_some}
use Rattle.cm_reply.specs.Events.{event_text}
use Rattle.cm_reply.specs.Replies.{replied_text}

-- an entry as a line of the journal: its number, its caller, its event and its reply
abbrev pub entry_text : ℕ → Entry → TextBytes
entry_text number e =
    decimal number ++ (codes " " ++ (decimal e.caller ++ (codes " " ++ (event_text e.event
    ++ (codes " => " ++ replied_text e.reply)))))

-- the rights of a builtin directory, after a space
abbrev pub provided_rights : RightSet → TextBytes
provided_rights rights = codes " " ++ text_of rights

-- a builtin, in words; the path of a protocol isn't written, since its name tells it
abbrev pub builtin_words : Kind → Builtin → TextBytes
builtin_words kind.Protocol b = codes "protocol " ++ b.name
builtin_words kind.Directory b =
    codes "directory " ++ (b.name ++ (codes " " ++ (b.path ++ when_some provided_rights b.rights)))

-- a builtin as a line of the journal's head
abbrev pub builtin_text : Builtin → TextBytes
builtin_text b = codes "builtin " ++ builtin_words b.kind b

-- a text as a line, which a line feed ends
abbrev pub line : TextBytes → TextBytes
line text = text ++ codes "\n"

-- the line of a builtin capability
abbrev pub builtin_line : Builtin → TextBytes
builtin_line b = line (builtin_text b)

-- the lines of a journal before its entries: the builtins and the URL of the root
abbrev pub header_text : Frame → TextBytes
header_text f = line (codes "journal") ++ (flat_map builtin_line f.builtins ++ line (codes "root " ++ f.root))

-- the lines of these entries, the first of which has that number
abbrev pub entries_text : ℕ → List Entry → TextBytes
entries_text number [] = []
entries_text number (e ∷ es) = line (entry_text number e) ++ entries_text (number + 1) es

-- the journal of a realm that was made so and has these entries
abbrev pub journal_text : Frame → List Entry → TextBytes
journal_text f es = header_text f ++ entries_text 1 es
