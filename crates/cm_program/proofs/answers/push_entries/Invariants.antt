use Rattle.std.proofs.Common.{string_bytes, ◌≡◌, ◌+◌, ◌++◌, drop}
use Rattle.cm_reply.specs.Journal.{entries_text}
use Rattle.cm_program.proofs.answers.push_entries.Given as goal

-- what is still to be put behind the text makes the whole
abbrev pub invariant-loop-index : goal.invariant-loop-index
invariant-loop-index l = string_bytes l.text ++ entries_text (l.index + 1) (drop l.index l.entries) ≡ string_bytes l.fn.text ++ entries_text 1 l.entries
