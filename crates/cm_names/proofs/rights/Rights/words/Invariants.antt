use Rattle.std.proofs.Common.{◌≡◌, take, map, filter}
use Rattle.cm_names.specs.Rights.{has, word_of, all_rights}
use Rattle.cm_names.proofs.rights.Rights.words.Given as goal

-- the names of those of the rights so far that are in the set
abbrev pub invariant-loop-right : goal.invariant-loop-right
invariant-loop-right l = l.words ≡ map word_of (filter (has l.self) (take l.right-index all_rights))
