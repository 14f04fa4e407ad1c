-- The folders of names, one by one.
use Rattle.std.proofs.Common.{◌≡◌, ℕ, ◌+◌, ◌<◌, ◌≤◌, List, [], ◌∷◌, ◌++◌, Bool, true, false, cond, ◌==◌, length, map, drop, get_or, refl, sym, ◌∙◌, ap, arith, append_assoc, append-nil, length-drop, true≢false}
use Rattle.std.specs.Prelude.{codes}
use Rattle.std.specs.Cmp.{unsigned_Decides}
use Rattle.std.proofs.lemmas.List.{drop_more, get_or-map, length-map}
use Rattle.cm_names.specs.declared.child.ChildName.{ChildName}
use Rattle.cm_names.specs.Child.{child_text}
use Rattle.cm_storage.specs.Parts.{parts_of}

-- The folders of a name and more are its own, `data` or `children` behind it, and the others'.
one_and_more : (c : ChildName) (rest : List ChildName) (t : Bool) (folder word : List ℕ) → folder ≡ child_text c → word ≡ cond t (codes "data") (codes "children") → (rest ≡ [] → t ≡ true) → (t ≡ true → length rest ≡ 0) → parts_of (c ∷ rest) ≡ folder ∷ word ∷ parts_of rest
one_and_more c [] t folder word is said last more =
    ap (λ f. f ∷ codes "data" ∷ []) (sym is) ∙ ap (λ w. folder ∷ w ∷ []) (sym (said ∙ ap (λ b. cond b (codes "data") (codes "children")) (last refl)))
one_and_more c (d ∷ ds) true folder word is said last more = absurd (omega (arith, more refl))
one_and_more c (d ∷ ds) false folder word is said last more =
    ap (λ f. f ∷ codes "children" ∷ parts_of (d ∷ ds)) (sym is) ∙ ap (λ w. folder ∷ w ∷ parts_of (d ∷ ds)) (sym said)

-- An empty list of names has no length.
empty_length : (xs : List ChildName) → xs ≡ [] → length xs ≡ 0
empty_length xs e = ap length e

-- a name more has its folder and a word behind it
pub folders_more : (names : List ChildName) (i : ℕ) (c : ChildName) (so_far one two all : List (List ℕ)) (folder word : List ℕ) → i < length names → c ≡ get_or names i c → folder ≡ child_text c → word ≡ cond (i + 1 == length names) (codes "data") (codes "children") → one ≡ so_far ++ folder ∷ [] → two ≡ one ++ word ∷ [] → so_far ++ parts_of (drop i names) ≡ all → two ++ parts_of (drop (i + 1) names) ≡ all
folders_more names i c so_far one two all folder word below at is said first second before =
    let size : length (drop (i + 1) names) + (i + 1) ≡ length names = size_by in
    let here : drop i names ≡ c ∷ drop (i + 1) names = drop_more names i c below ∙ ap (λ x. x ∷ drop (i + 1) names) (sym at) in
    let parts : parts_of (drop i names) ≡ folder ∷ word ∷ parts_of (drop (i + 1) names) =
    ap parts_of here ∙ one_and_more c (drop (i + 1) names) (i + 1 == length names) folder word is said
    (λ none. (unsigned_Decides (i + 1) (length names)).1 (omega (arith, size, empty_length (drop (i + 1) names) none)))
    (λ same. omega (arith, size, (unsigned_Decides (i + 1) (length names)).0 same)) in
    ap (λ l. l ++ parts_of (drop (i + 1) names)) (second ∙ ap (λ l. l ++ word ∷ []) first)
    ∙ append_assoc (so_far ++ folder ∷ []) (word ∷ []) (parts_of (drop (i + 1) names))
    ∙ append_assoc so_far (folder ∷ []) (word ∷ parts_of (drop (i + 1) names))
    ∙ ap (λ l. so_far ++ l) (sym parts)
    ∙ before
  where
    size_by : length (drop (i + 1) names) + (i + 1) ≡ length names
    size_by = omega (arith, length-drop (i + 1) names)

-- The folders of names that are seen of other values, one by one, are those of the names.
pub folders_seen : {X : Type 0} (f : X → ChildName) (xs : List X) (i : ℕ) (x : X) (so_far one two all : List (List ℕ)) (folder word : List ℕ) → i < length xs → x ≡ get_or xs i x → folder ≡ child_text (f x) → word ≡ cond (i + 1 == length xs) (codes "data") (codes "children") → one ≡ so_far ++ folder ∷ [] → two ≡ one ++ word ∷ [] → so_far ++ parts_of (drop i (map f xs)) ≡ all → two ++ parts_of (drop (i + 1) (map f xs)) ≡ all
folders_seen f xs i x so_far one two all folder word below at is said first second before =
    folders_more (map f xs) i (f x) so_far one two all folder word
    (omega (arith, below, length-map xs f))
    (ap f at ∙ sym (get_or-map f xs i x (f x) below))
    is
    (said ∙ ap (λ n. cond (i + 1 == n) (codes "data") (codes "children")) (sym (length-map xs f)))
    first
    second
    before
