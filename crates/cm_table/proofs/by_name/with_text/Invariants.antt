use Rattle.std.proofs.Common.{◌≡◌, take}
use Rattle.cm_table.specs.ByName.{with_text}
use Rattle.cm_table.proofs.by_name.with_text.Given as goal

-- the bytes so far are in the word
abbrev pub invariant-loop-byte : goal.invariant-loop-byte
invariant-loop-byte l = l.mixed ≡ with_text l.word (take l.byte-index l.text)
