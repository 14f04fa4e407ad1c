-- The prefix of what a file has left, when it is cut once more.
use Rattle.std.proofs.Common.{◌≡◌, ℕ, List, [], ◌++◌, take, Option, Some, None, ap, subst, ◌∙◌, le_refl, take-take}
use Rattle.std.specs.Prelude.{IfSome}
use Rattle.std.specs.Option.{option_map}
use Rattle.cm_gate.specs.Reads.{IsPrefix}

-- What is kept of a prefix of a file, cut once more by the same limit, is that prefix.
cut_again : (limit : ℕ) (left : Option (List ℕ)) (read kept : List ℕ) →
    IfSome (option_map (take limit) left) (λ prefix. read ≡ [] ++ prefix) → kept ≡ take limit read →
    IsPrefix limit left kept
cut_again limit None read kept reads cut = tt
cut_again limit (Some left) read kept reads cut =
    cut ∙ ap (take limit) reads ∙ take-take limit limit left (le_refl limit)

-- what was read up to a limit into an empty list and then cut behind that limit
pub prefix_is_kept : (limit most : ℕ) (left had : Option (List ℕ)) (start read kept : List ℕ) →
    most ≡ limit → had ≡ left → start ≡ [] →
    IfSome (option_map (take most) had) (λ prefix. read ≡ start ++ prefix) → kept ≡ take limit read →
    IsPrefix limit left kept
prefix_is_kept limit most left had start read kept same holds empty reads cut =
    cut_again limit left read kept
    (subst (λ m. IfSome (option_map (take m) left) (λ prefix. read ≡ [] ++ prefix)) same
    (subst (λ h. IfSome (option_map (take most) h) (λ prefix. read ≡ [] ++ prefix)) holds
    (subst (λ s. IfSome (option_map (take most) had) (λ prefix. read ≡ s ++ prefix)) empty reads)))
    cut
