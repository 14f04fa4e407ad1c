use Rattle.std.proofs.Common.{◌≡◌, ◌++◌, map, reverse}
use Rattle.cm_names.specs.Chains.{names_of}
use Rattle.cm_names.proofs.link.NameLink.names.Given as goal

-- the names up to a link and then those seen, the last one first, are all names
abbrev pub invariant-loop-at : goal.invariant-loop-at
invariant-loop-at l = names_of l.at ++ reverse (map (λ x. x.now) l.found.items) ≡ names_of l.self
