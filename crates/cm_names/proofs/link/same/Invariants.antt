use Rattle.std.proofs.Common.{◌≡◌, length}
use Rattle.std.specs.Cmp.Lexicographic.{pointwise}
use Rattle.cm_names.specs.Chains.{names_of, IsDeep}
use Rattle.cm_names.specs.ChainsInside.{is_same}
use Rattle.cm_names.proofs.link.same.Given as goal

-- both are as long, and what was seen of them is the same
abbrev pub invariant-loop-at : goal.invariant-loop-at
invariant-loop-at l = record {
  deep : IsDeep l.at;
  other : IsDeep l.beside;
  long : length (names_of l.at) ≡ length (names_of l.beside);
  same : pointwise is_same (names_of l.link) (names_of l.other)
      ≡ pointwise is_same (names_of l.at) (names_of l.beside);
}
