use Rattle.std.proofs.Common.{◌≡◌, take, drop, []}
use Rattle.cm_names.specs.Rights.{with_rights, rights_behind}
use Rattle.cm_names.proofs.rights.Rights.read_words.Given as goal

-- the words before, and the words that are left
abbrev pub invariant-loop-i : goal.invariant-loop-i
invariant-loop-i l =
    with_rights l.rights (rights_behind (take l.i l.words) (drop l.i l.words)) ≡ rights_behind [] l.words
