use Rattle.std.proofs.Common.{◌≡◌, drop}
use Rattle.std.specs.Ordering.{nat_cmp}
use Rattle.std.specs.Cmp.Lexicographic.{slice_cmp}
use Rattle.cm_names.specs.Child.{child_text}
use Rattle.cm_decl.proofs.node.cmp_texts.Given as goal

-- the bytes before the index are the same, so what is left decides
abbrev pub invariant-loop-index : goal.invariant-loop-index
invariant-loop-index l =
    slice_cmp nat_cmp (child_text l.a) (child_text l.b) ≡ slice_cmp nat_cmp (drop l.index (child_text l.a)) (drop l.index (child_text l.b))
