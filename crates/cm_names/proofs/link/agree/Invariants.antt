use Rattle.std.proofs.Common.{◌≡◌, ◌≤◌, length, take}
use Rattle.std.specs.Cmp.Lexicographic.{pointwise}
use Rattle.cm_names.specs.Chains.{names_of, IsDeep}
use Rattle.cm_names.specs.ChainsInside.{is_same}
use Rattle.cm_names.proofs.link.agree.Given as goal

-- what is left of the list is as long as what is left of the links
abbrev pub invariant-loop-at : goal.invariant-loop-at
invariant-loop-at l = record {
  deep : IsDeep l.at;
  long : l.left ≡ length (names_of l.at);
  within : l.left ≤ length l.names;
  same : pointwise is_same l.names (names_of l.link)
      ≡ pointwise is_same (take l.left l.names) (names_of l.at);
}
