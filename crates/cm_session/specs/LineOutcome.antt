-- Promised.
-- What a session makes of the lines that its link gives.
use Rattle.std.specs.Prelude.{◌≢◌, ◌<◌, ◌≤◌, ℕ, List, [], ◌∷◌, ◌++◌, length, flat_map, codes, decimal, Err, ⊤}
use Rattle.cm_world.specs.declared.answer.Refusal.TheVariants as refusal
use Rattle.cm_command.specs.declared.command.CommandFault.TheVariants.{BadCommand}
use Rattle.cm_command.specs.Grammar.{CommandText, IsCommandFault}
use Rattle.cm_reply.specs.Lists.{TextBytes}
use Rattle.cm_reply.specs.Answers.{reply_text}
use Rattle.cm_reply.specs.Journal.{line}
use Rattle.cm_manager.specs.Done.{Done}

-- what a session made of one line: it performed its command; or the line is no command, and so many of
-- its bytes begin some command; or the line is too long
pub data LineOutcome : Type 0 where
  performed : Done → LineOutcome
  bad : ℕ → LineOutcome
  too_long : LineOutcome

-- this is what a session has to make of the line: a command within 65,536 bytes is performed, all else
-- is refused
abbrev pub ReadsLine : TextBytes → LineOutcome → Type 0
ReadsLine t (performed d) = (length t ≤ 65536) × CommandText t d.command
ReadsLine t (bad at) = (length t ≤ 65536) × IsCommandFault t (BadCommand at)
ReadsLine t too_long = 65536 < length t

-- the reply that is written for a line, with a line feed
abbrev pub reply_line : LineOutcome → TextBytes
reply_line (performed d) = line (reply_text d.command d.result)
reply_line (bad at) = line (codes "refused 70 bad-command at " ++ decimal at)
reply_line too_long = line (codes "refused 75 line-too-long")

-- all replies that are written for these lines, one after another
abbrev pub replies : List LineOutcome → TextBytes
replies told = flat_map reply_line told

-- the commands that were performed among these lines, with their answers
abbrev pub done_of : List LineOutcome → List Done
done_of [] = []
done_of (performed d ∷ told) = d ∷ done_of told
done_of (bad at ∷ told) = done_of told
done_of (too_long ∷ told) = done_of told

-- the line's answer isn't one for lack of memory
abbrev pub HadMemory : LineOutcome → Type 0
HadMemory (performed d) = d.result ≢ Err refusal.Memory
HadMemory (bad at) = ⊤
HadMemory too_long = ⊤
