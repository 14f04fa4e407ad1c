use Rattle.std.proofs.Common.{◌≡◌, map, take}
use Rattle.cm_names.proofs.chain.all_of.Given as goal

-- the names so far were found
abbrev pub invariant-loop-name : goal.invariant-loop-name
invariant-loop-name l = map (λ x. x.now) l.found.items ≡ take l.name-index l.names
