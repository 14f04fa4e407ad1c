-- Rows one after another, as a loop reads them and as it puts them into lists of their own.
use Rattle.std.proofs.Common.{◌≡◌, List, [], ◌∷◌, ◌++◌, Option, Ok, ap, sym, ◌∙◌}
use Rattle.std.specs.Prelude.{filter_map}
use Rattle.std.proofs.lemmas.List.{append_assoc, append-nil}
use Rattle.std.proofs.lemmas.List.Elements.{filter_map-append}
use Rattle.cm_names.specs.Steps.{◌>>=◌}
use Rattle.cm_read.specs.Reading.{ReadResult}

-- what was read before, and what is still read
abbrev pub with_prefix : {A : Type 0} → List A → ReadResult (List A) → ReadResult (List A)
with_prefix prefix read = read >>= λ x. Ok (prefix ++ x)

-- With what f takes of the next row put behind the prefix, prefix and rest make the same list.
pub part_more : {A B : Type 0} (f : A → Option B) (prefix more all : List B) (x : A) (xs rest : List A) → rest ≡ x ∷ xs
    → more ≡ prefix ++ filter_map f (x ∷ []) → prefix ++ filter_map f rest ≡ all → more ++ filter_map f xs ≡ all
part_more f prefix more all x xs rest r e h =
    ap (λ m. m ++ filter_map f xs) e ∙ append_assoc prefix (filter_map f (x ∷ [])) (filter_map f xs)
    ∙ ap (λ t. prefix ++ t) (sym (filter_map-append f (x ∷ []) xs)) ∙ ap (λ t. prefix ++ filter_map f t) (sym r) ∙ h

-- Where no row is left, what was taken is all.
pub part_all : {A B : Type 0} (f : A → Option B) (prefix all : List B) (rest : List A) → rest ≡ []
    → prefix ++ filter_map f rest ≡ all → prefix ≡ all
part_all f prefix all rest r h = sym (append-nil prefix) ∙ ap (λ t. prefix ++ filter_map f t) (sym r) ∙ h
