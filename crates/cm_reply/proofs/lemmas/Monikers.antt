-- How monikers are written, part by part.
use Rattle.std.proofs.Common.{◌≡◌, List, [], ◌∷◌, ◌++◌, refl, ap, ◌∙◌, append-nil}
use Rattle.cm_names.specs.declared.child.ChildName.{ChildName}
use Rattle.cm_names.specs.declared.moniker.Moniker.{Moniker}
use Rattle.cm_names.specs.Child.{child_text}
use Rattle.cm_names.specs.Moniker.{text_of_parts, moniker_text}
use Rattle.cm_reply.specs.ListsInside.{parts_text}

-- The text of a child's parts, one or more, is these parts joined.
parts_joined : (c : ChildName) (cs : List ChildName) → parts_text (c ∷ cs) ≡ text_of_parts (c ∷ cs)
parts_joined c [] = append-nil (child_text c)
parts_joined c (d ∷ ds) = ap (λ t. child_text c ++ 47 ∷ t) (parts_joined d ds)

-- The text of parts, one after the other, is the parts joined.
all_joined : (cs : List ChildName) → parts_text cs ≡ text_of_parts cs
all_joined [] = refl
all_joined (c ∷ cs) = parts_joined c cs

-- these names are written as the moniker that has them
pub moniker_so : (cs : List ChildName) (m : Moniker) → cs ≡ m.parts → parts_text cs ≡ moniker_text m
moniker_so cs m same = all_joined cs ∙ ap text_of_parts same
