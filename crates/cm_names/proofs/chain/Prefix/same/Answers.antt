use Rattle.std.proofs.Common.{sym, ap, ◌∙◌}
use Rattle.std.specs.Cmp.{partial_equiv_from_equiv}
use Rattle.std.specs.Cmp.Lexicographic.{pointwise, lists_per}
use Rattle.cm_names.specs.Chains.{names_of}
use Rattle.cm_names.specs.ChainsInside.{names_in, is_same, same_equiv}
use Rattle.cm_names.proofs.chain.Prefix.same.Goals as goal

pub returns-in-Linked-Listed : goal.returns-in-Linked-Listed
returns-in-Linked-Listed c =
    c.agree-in-Linked-Listed.ensures
    ∙ (lists_per (partial_equiv_from_equiv same_equiv)).symm c.in-Linked-Listed.other.now (names_of c.in-Linked-Listed.one.now)
    ∙ sym (ap (λ s. pointwise is_same (names_in s) (names_in c.args.other)) c.in-Linked-Listed.is-0 ∙ ap (λ s. pointwise is_same (names_of c.in-Linked-Listed.one.now) (names_in s)) c.in-Linked-Listed.is-1)
