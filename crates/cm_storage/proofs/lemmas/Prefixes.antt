-- Texts of names, and of the folders of a place, with one name more.
use Rattle.std.proofs.Common.{◌≡◌, ℕ, List, [], ◌∷◌, ◌++◌, map, refl, sym, ◌∙◌, ap, append_assoc, append-nil}
use Rattle.std.specs.Prelude.{codes, flat_map}
use Rattle.std.specs.List.{join_with_byte}
use Rattle.cm_names.specs.declared.child.ChildName.{ChildName}
use Rattle.cm_names.specs.Child.{child_text}
use Rattle.cm_names.specs.Moniker.{text_of_parts}
use Rattle.cm_reply.specs.Lists.{TextBytes, each_behind}
use Rattle.cm_storage.specs.Parts.{parts_of}
use Rattle.cm_storage.specs.KnownPlace.{folders_text}
use Rattle.cm_storage.specs.ParentAtHand.{names_text}

-- The texts of items with one more at the end are theirs, and then its own.
flat_more : {A : Type 0} (f : A → TextBytes) (xs : List A) (x : A) → flat_map f (xs ++ x ∷ []) ≡ flat_map f xs ++ f x
flat_more f [] x = append-nil (f x)
flat_more f (y ∷ ys) x = ap (λ t. f y ++ t) (flat_more f ys x) ∙ sym (append_assoc (f y) (flat_map f ys) (f x))

-- The text of names with one more is that of the names, and that of the one with a slash after it.
pub names_more : (ps : List ChildName) (c : ChildName) → names_text (ps ++ c ∷ []) ≡ names_text ps ++ (child_text c ++ codes "/")
names_more ps c = flat_more (λ d. child_text d ++ codes "/") ps c

-- The text of folders with one more is theirs, and the folder of the one and of its children.
pub folders_more : (cs : List ChildName) (c : ChildName) → folders_text (cs ++ c ∷ []) ≡ folders_text cs ++ (child_text c ++ codes "/children/")
folders_more cs c = flat_more (λ d. child_text d ++ codes "/children/") cs c

-- Names with one more, joined by slashes, are the text of the names and that of the one.
joined_more : (d : ChildName) (ds : List ChildName) (c : ChildName) → join_with_byte 47 (map child_text (d ∷ (ds ++ c ∷ []))) ≡ names_text (d ∷ ds) ++ child_text c
joined_more d [] c =
    sym (append_assoc (child_text d ++ codes "/") [] (child_text c) ∙ append_assoc (child_text d) (codes "/") (child_text c))
joined_more d (e ∷ es) c =
    ap (λ t. child_text d ++ (47 ∷ t)) (joined_more e es c)
    ∙ sym (append_assoc (child_text d ++ codes "/") (names_text (e ∷ es)) (child_text c) ∙ append_assoc (child_text d) (codes "/") (names_text (e ∷ es) ++ child_text c))

-- a child's moniker is its name behind its parent's prefix
pub moniker_more : (ps : List ChildName) (c : ChildName) → text_of_parts (ps ++ c ∷ []) ≡ names_text ps ++ child_text c
moniker_more [] c = refl
moniker_more (d ∷ ds) c = joined_more d ds c

-- The folders of names, of which there are more behind the first, are its own, `children`, and the others'.
parts_step : (d : ChildName) (ds : List ChildName) (c : ChildName) → parts_of (d ∷ (ds ++ c ∷ [])) ≡ child_text d ∷ codes "children" ∷ parts_of (ds ++ c ∷ [])
parts_step d [] c = refl
parts_step d (e ∷ es) c = refl

-- the folders of a place, whose last name is a child's
pub parts_more : (cs : List ChildName) (c : ChildName) → each_behind (codes "/") (λ part. part) (parts_of (cs ++ c ∷ [])) ≡ codes "/" ++ (folders_text cs ++ (child_text c ++ codes "/data"))
parts_more [] c = refl
parts_more (d ∷ ds) c =
    ap (each_behind (codes "/") (λ part. part)) (parts_step d ds c)
    ∙ ap (λ t. (codes "/" ++ child_text d) ++ ((codes "/" ++ codes "children") ++ t)) (parts_more ds c)
    ∙ ap (λ t. codes "/" ++ t)
    (sym (append_assoc (child_text d ++ codes "/children/") (folders_text ds) (child_text c ++ codes "/data")
    ∙ append_assoc (child_text d) (codes "/children/") (folders_text ds ++ (child_text c ++ codes "/data"))))

-- a head, a name, the last folder and a tail make one text
pub place_more : (base folders name tail : TextBytes) → (codes " at " ++ (base ++ (codes "/" ++ folders))) ++ (name ++ (codes "/data" ++ tail)) ≡ codes " at " ++ (base ++ ((codes "/" ++ (folders ++ (name ++ codes "/data"))) ++ tail))
place_more base folders name tail =
    append_assoc (codes " at ") (base ++ (codes "/" ++ folders)) (name ++ (codes "/data" ++ tail))
    ∙ ap (λ t. codes " at " ++ t)
    (append_assoc base (codes "/" ++ folders) (name ++ (codes "/data" ++ tail))
    ∙ ap (λ t. base ++ t)
    (append_assoc (codes "/") folders (name ++ (codes "/data" ++ tail))
    ∙ ap (λ t. codes "/" ++ t) (sym (append_assoc folders (name ++ codes "/data") tail ∙ ap (λ t. folders ++ t) (append_assoc name (codes "/data") tail)))
    ∙ sym (append_assoc (codes "/") (folders ++ (name ++ codes "/data")) tail)))

-- A head with folders more at its end is the head of the longer place.
pub head_more : (base folders more : TextBytes) → (codes " at " ++ (base ++ (codes "/" ++ folders))) ++ more ≡ codes " at " ++ (base ++ (codes "/" ++ (folders ++ more)))
head_more base folders more =
    append_assoc (codes " at ") (base ++ (codes "/" ++ folders)) more
    ∙ ap (λ t. codes " at " ++ t) (append_assoc base (codes "/" ++ folders) more ∙ ap (λ t. base ++ t) (append_assoc (codes "/") folders more))

-- a child's line: its moniker, the path, and what comes of the use
pub line_more : (prefix name path placed : TextBytes) → ((prefix ++ (name ++ (codes " storage " ++ path))) ++ placed) ++ codes "\n" ≡ (prefix ++ name) ++ (codes " storage " ++ (path ++ (placed ++ codes "\n")))
line_more prefix name path placed =
    append_assoc (prefix ++ (name ++ (codes " storage " ++ path))) placed (codes "\n")
    ∙ append_assoc prefix (name ++ (codes " storage " ++ path)) (placed ++ codes "\n")
    ∙ ap (λ t. prefix ++ t) (append_assoc name (codes " storage " ++ path) (placed ++ codes "\n") ∙ ap (λ t. name ++ t) (append_assoc (codes " storage ") path (placed ++ codes "\n")))
    ∙ sym (append_assoc prefix name (codes " storage " ++ (path ++ (placed ++ codes "\n"))))
