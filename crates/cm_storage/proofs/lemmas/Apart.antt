-- Lists of names have folders of their own.
use Rattle.std.proofs.Common.{◌≡◌, ◌≢◌, ℕ, List, [], ◌∷◌, ◌++◌, length, refl, sym, ◌∙◌, ap, arith}
use Rattle.std.specs.Prelude.{codes, All}
use Rattle.cm_names.specs.declared.child.ChildName.{ChildName}
use Rattle.cm_names.specs.Child.{child_text}
use Rattle.cm_names.specs.Moniker.{IsChildName}
use Rattle.cm_names.proofs.lemmas.prefixes.MonikerGrammar.{AreChildren, are_children}
use Rattle.cm_names.proofs.lemmas.texts.MonikerParts.{same_child}
use Rattle.cm_storage.specs.Parts.{parts_of}
use Rattle.cm_storage.specs.PartsInside.{IsPrefixOf}
use Rattle.cm_storage.specs.Laws.{PartsAreApart}

-- the two words are two, by their lengths
four_eight : (a b : ℕ) → a ≡ 4 → b ≡ 8 → a ≡ b → ⊥
four_eight a b four eight same = absurd (omega arith)

-- The words `data` and `children` aren't the same.
no_data : codes "data" ≡ codes "children" → ⊥
no_data e = four_eight (length (codes "data")) (length (codes "children")) refl refl (ap length e)

-- the words stand at every second place, whatever the names between them are
prefix_by : (c d : ChildName) (cs ds : List ChildName) → AreChildren (c ∷ cs) → AreChildren (d ∷ ds) → (rest : List (List ℕ)) → parts_of (d ∷ ds) ≡ parts_of (c ∷ cs) ++ rest → c ∷ cs ≡ d ∷ ds
prefix_by c d [] [] h k rest e =
    let first : child_text d ≡ child_text c = cc in
    ap (λ x. x ∷ []) (same_child c d h.0 k.0 (sym first))
prefix_by c d [] (y ∷ ys) h k rest e =
    let second : codes "children" ≡ codes "data" = cc in absurd (no_data (sym second))
prefix_by c d (x ∷ xs) [] h k rest e =
    let second : codes "data" ≡ codes "children" = cc in absurd (no_data second)
prefix_by c d (x ∷ xs) (y ∷ ys) h k rest e =
    let first : child_text d ≡ child_text c = cc in
    let others : parts_of (y ∷ ys) ≡ parts_of (x ∷ xs) ++ rest = cc in
    ap (λ z. z ∷ x ∷ xs) (same_child c d h.0 k.0 (sym first)) ∙ ap (λ zs. d ∷ zs) (prefix_by x y xs ys h.1 k.1 rest others)

-- Different instances have different folders, and neither lies inside the other.
pub parts_apart : PartsAreApart
parts_apart [] ds some other h k prefix = absurd (some refl)
parts_apart (c ∷ cs) [] some other h k prefix = absurd (other refl)
parts_apart (c ∷ cs) (d ∷ ds) some other h k prefix =
    prefix_by c d cs ds (are_children (c ∷ cs) h) (are_children (d ∷ ds) k) prefix.0 prefix.1
