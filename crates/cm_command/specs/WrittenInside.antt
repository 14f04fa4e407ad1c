-- Inside.
-- The line that a command is written as.
use Rattle.std.specs.Prelude.{◌<◌, ◌^◌, List, [], ◌∷◌, codes, decimal, flat_map}
use Rattle.std.specs.Prelude.{All, IsTrue}
use Rattle.std.specs.List.{join_with_byte}
use Rattle.cm_names.specs.Name.{IsName}
use Rattle.cm_names.specs.Path.{is_path}
use Rattle.cm_command.specs.declared.command.Command.{Command}
use Rattle.cm_command.specs.declared.command.Command.TheVariants as command
use Rattle.cm_command.specs.Words.{IsUrlText}
use Rattle.cm_command.specs.Grammar.{LineBytes, CommandText}
use Rattle.cm_command.specs.Written.{target_text, give_words, IsTarget, IsWritableGive}

-- the words that a command is written as, of which its line is made
abbrev pub command_words : Command → List LineBytes
command_words (command.Resolve a) = codes "resolve" ∷ target_text a ∷ []
command_words (command.Start a) = codes "start" ∷ target_text a ∷ []
command_words (command.Stop a) = codes "stop" ∷ target_text a ∷ []
command_words (command.Shutdown a) = codes "shutdown" ∷ target_text a ∷ []
command_words (command.Create a coll name url gives) =
    codes "create" ∷ target_text a ∷ coll ∷ name ∷ url ∷ flat_map give_words gives
command_words (command.Destroy a) = codes "destroy" ∷ target_text a ∷ []
command_words (command.ListChildren a coll) = codes "list" ∷ target_text a ∷ coll ∷ []
command_words (command.OpenUse a path) = codes "open" ∷ target_text a ∷ path ∷ []
command_words (command.OpenExposed a name) = codes "open-exposed" ∷ target_text a ∷ name ∷ []
command_words (command.RouteOf a path) = codes "route" ∷ target_text a ∷ path ∷ []
command_words (command.Doctor a) = codes "doctor" ∷ target_text a ∷ []
command_words (command.Show a) = codes "show" ∷ target_text a ∷ []
command_words (command.Survey a) = codes "survey" ∷ target_text a ∷ []
command_words (command.Exited a) = codes "exited" ∷ target_text a ∷ []
command_words (command.Events a n) = codes "events" ∷ target_text a ∷ decimal n ∷ []

-- the line that a command is written as: its words, with one space between them
abbrev pub command_text : Command → LineBytes
command_text c = join_with_byte 32 (command_words c)

-- a command that a line can ask for: its names, monikers, paths, URL and offers are in the grammar
abbrev pub IsWritable : Command → Type 0
IsWritable (command.Resolve a) = IsTarget a
IsWritable (command.Start a) = IsTarget a
IsWritable (command.Stop a) = IsTarget a
IsWritable (command.Shutdown a) = IsTarget a
IsWritable (command.Create a coll name url gives) =
    IsTarget a × IsName coll × IsName name × IsUrlText url × All IsWritableGive gives
IsWritable (command.Destroy a) = IsTarget a
IsWritable (command.ListChildren a coll) = IsTarget a × IsName coll
IsWritable (command.OpenUse a path) = IsTarget a × IsTrue (is_path path)
IsWritable (command.OpenExposed a name) = IsTarget a × IsName name
IsWritable (command.RouteOf a path) = IsTarget a × IsTrue (is_path path)
IsWritable (command.Doctor a) = IsTarget a
IsWritable (command.Show a) = IsTarget a
IsWritable (command.Survey a) = IsTarget a
IsWritable (command.Exited a) = IsTarget a
IsWritable (command.Events a n) = IsTarget a × (n < 2 ^ 64)

-- the line that is written of a command asks for it
abbrev pub WritesItsLine : Type 0
WritesItsLine = (c : Command) → IsWritable c → CommandText (command_text c) c

-- what a line asks for can be written
abbrev pub WhatIsReadIsWritable : Type 0
WhatIsReadIsWritable = (t : LineBytes) (c : Command) → CommandText t c → IsWritable c
