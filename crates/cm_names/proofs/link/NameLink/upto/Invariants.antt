use Rattle.std.proofs.Common.{◌≡◌, ◌≤◌, length, take}
use Rattle.cm_names.specs.Chains.{names_of, IsDeep}
use Rattle.cm_names.proofs.link.NameLink.upto.Given as goal

-- the names wanted are all up to this link
abbrev pub invariant-loop-at : goal.invariant-loop-at
invariant-loop-at l = record {
  deep : IsDeep l.at;
  long : l.count ≤ length (names_of l.at);
  same : take l.count (names_of l.at) ≡ take l.count (names_of l.self);
}
