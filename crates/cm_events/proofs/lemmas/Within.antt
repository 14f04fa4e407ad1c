-- A moniker is within a scope where it begins with it, name by name.
use Rattle.std.proofs.Common.{◌≡◌, List, [], ◌∷◌, ◌++◌, Bool, true, refl, sym, ◌∙◌, ap, subst, IsTrue, ◌↔◌}
use Rattle.std.specs.List.{starts_with}
use Rattle.std.specs.Cmp.{both_ways, first_so, second_so}
use Rattle.cm_names.specs.declared.child.ChildName.{ChildName}
use Rattle.cm_names.specs.MonikerInside.{MonikerStartsWith}
use Rattle.cm_decl.specs.Same.{same_child}
use Rattle.cm_decl.specs.declared.node.Node.TheVariants.{Child}
use Rattle.cm_decl.proofs.lemmas.Sameness.{never, same_child_exact, same_node-refl}

-- Names with others behind them begin with themselves.
starts : (prefix rest : List ChildName) → starts_with same_child (prefix ++ rest) prefix ≡ true
starts [] rest = refl
starts (c ∷ cs) rest = rw (same_node-refl (Child c)) (starts cs rest)

-- Names that begin with others still do with the same name before both.
begins_on : (c d : ChildName) (cs ds : List ChildName) → c ≡ d → MonikerStartsWith ds cs → MonikerStartsWith (d ∷ ds) (c ∷ cs)
begins_on c d cs ds same below = (below.0, ap (λ x. d ∷ x) below.1 ∙ ap (λ x. x ∷ (cs ++ below.0)) (sym same))

-- Names that test as beginning with others begin with them.
begins : (parts prefix : List ChildName) → starts_with same_child parts prefix ≡ true → MonikerStartsWith parts prefix
begins parts [] h = (parts, refl)
begins [] (c ∷ cs) h = never h
begins (d ∷ ds) (c ∷ cs) h =
    begins_on c d cs ds
    (same_child_exact c d (first_so (same_child c d) (starts_with same_child ds cs) h))
    (begins ds cs (second_so (same_child c d) (starts_with same_child ds cs) h))

-- What tells whether one moniker begins with another is the comparison name by name.
pub within : (r : Bool) (parts prefix : List ChildName) → (IsTrue r ↔ MonikerStartsWith parts prefix) → r ≡ starts_with same_child parts prefix
within r parts prefix both =
    both_ways r (starts_with same_child parts prefix)
    (λ t. let begun : MonikerStartsWith parts prefix = both.0 t in subst (λ x. starts_with same_child x prefix ≡ true) (sym begun.1) (starts prefix begun.0))
    (λ s. both.1 (begins parts prefix s))
