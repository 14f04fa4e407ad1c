-- The names of a set's rights are read as that set.
use Rattle.std.proofs.Common.{◌≡◌, ◌≢◌, ℕ, List, [], ◌∷◌, ◌++◌, map, filter, cond, append-nil, Bool, true, false, not, ◌||◌, ◌&&◌, Some, Ok, refl, sym, ap, ◌∙◌}
use Rattle.std.specs.List.{list_any}
use Rattle.std.specs.Str.{bytes_eq}
use Rattle.std.proofs.Math.Bool.{or-false}
use Rattle.std.proofs.lemmas.Bool.{and_parts, or_parts, not-true}
use Rattle.std.proofs.lemmas.List.{map-append}
use Rattle.std.proofs.lemmas.List.Elements.{filter-append}
use Rattle.cm_names.specs.declared.rights.Right.{Right}
use Rattle.cm_names.specs.declared.rights.Right.TheVariants.{Connect, Enumerate, Execute, GetAttributes, ModifyDirectory, ReadBytes, Traverse, UpdateAttributes, WriteBytes}
use Rattle.cm_names.specs.Rights.{RightSet, no_rights, union, has, only, only_if, all_rights, word_of, rights_of_word, with_rights, rights_behind, rights_of, words_of}
use Rattle.cm_names.specs.RightsInside.{WordsAreReadBack}

-- each name is read as its right
named : (x : Right) → rights_of_word (word_of x) ≡ Some (only x)
unfolding rights_of_word
named Connect = refl
named Enumerate = refl
named Execute = refl
named GetAttributes = refl
named ModifyDirectory = refl
named ReadBytes = refl
named Traverse = refl
named UpdateAttributes = refl
named WriteBytes = refl

-- A right that isn't kept makes no rights.
none_at : (x : Right) → only_if false x ≡ no_rights
none_at Connect = refl
none_at Enumerate = refl
none_at Execute = refl
none_at GetAttributes = refl
none_at ModifyDirectory = refl
none_at ReadBytes = refl
none_at Traverse = refl
none_at UpdateAttributes = refl
none_at WriteBytes = refl

-- Where a right isn't kept, its union with rights is those rights.
nothing_more : (x : Right) (r : RightSet) → r ≡ union (only_if false x) r
nothing_more x r = rw (none_at x) refl

-- the names of those rights that pass the test
abbrev names : (Right → Bool) → List Right → List (List ℕ)
names p xs = map word_of (filter p xs)

-- the set of those rights
abbrev collected : (Right → Bool) → List Right → RightSet
collected p [] = no_rights
collected p (x ∷ xs) = union (only_if (p x) x) (collected p xs)

-- no right of the second list has the name of one before it
abbrev fresh : List Right → List Right → Bool
fresh earlier [] = true
fresh earlier (x ∷ xs) = not (list_any (bytes_eq (word_of x)) (map word_of earlier)) && fresh (earlier ++ x ∷ []) xs

-- Where neither of two holds and a third fails with the second, neither first nor third holds.
none_of_both : (a b c : Bool) → (a || b) ≡ false → (b ≡ false → c ≡ false) → (a || c) ≡ false
none_of_both true b c h f = h
none_of_both false b c h f = f h

-- what none of a list equals, none of those equals that pass the test
absent_kept : (p : Right → Bool) (w : List ℕ) (xs : List Right) → list_any (bytes_eq w) (map word_of xs) ≡ false → list_any (bytes_eq w) (names p xs) ≡ false
absent_kept p w [] h = refl
absent_kept p w (x ∷ xs) h =
    elim (p x) as (λ b. list_any (bytes_eq w) (map word_of (cond b (x ∷ filter p xs) (filter p xs))) ≡ false) [
      | true ↦ none_of_both (bytes_eq w (word_of x)) (list_any (bytes_eq w) (map word_of xs)) (list_any (bytes_eq w) (names p xs)) h (absent_kept p w xs)
      | false ↦ absent_kept p w xs (or_parts (bytes_eq w (word_of x)) (list_any (bytes_eq w) (map word_of xs)) h).1
    ]

-- The names of those rights that pass, behind those of earlier ones, are read as these rights.
read_names : (p : Right → Bool) (earlier xs : List Right) → fresh earlier xs ≡ true → rights_behind (names p earlier) (names p xs) ≡ Ok (collected p xs)
read_names p earlier [] h = refl
read_names p earlier (x ∷ xs) h =
    let parts = and_parts (not (list_any (bytes_eq (word_of x)) (map word_of earlier))) (fresh (earlier ++ x ∷ []) xs) h in
    let absent : list_any (bytes_eq (word_of x)) (names p earlier) ≡ false = absent_kept p (word_of x) earlier (not-true (list_any (bytes_eq (word_of x)) (map word_of earlier)) parts.0) in
    let rest : rights_behind (names p (earlier ++ x ∷ [])) (names p xs) ≡ Ok (collected p xs) = read_names p (earlier ++ x ∷ []) xs parts.1 in
    let grown : names p (earlier ++ x ∷ []) ≡ names p earlier ++ names p (x ∷ []) = ap (map word_of) (filter-append p earlier (x ∷ [])) ∙ map-append word_of (filter p earlier) (filter p (x ∷ [])) in
    let rest' : rights_behind (names p earlier ++ names p (x ∷ [])) (names p xs) ≡ Ok (collected p xs) = sym (ap (λ ys. rights_behind ys (names p xs)) grown) ∙ rest in
    elim (p x) as (λ b. rights_behind (names p earlier ++ map word_of (cond b (x ∷ []) [])) (names p xs) ≡ Ok (collected p xs) → rights_behind (names p earlier) (map word_of (cond b (x ∷ filter p xs) (filter p xs))) ≡ Ok (union (only_if b x) (collected p xs))) [
      | true ↦ λ e. rw (named x) (rw absent (ap (with_rights (only x)) e))
      | false ↦ λ e. sym (ap (λ ys. rights_behind ys (names p xs)) (append-nil (names p earlier))) ∙ e ∙ ap Ok (nothing_more x (collected p xs))
    ] rest'

-- The rights collected of a set from the list of all rights are the set.
all_of_it : (r : RightSet) → collected (has r) all_rights ≡ r
all_of_it r =
    rw (or-false r.connect, or-false r.enumerate, or-false r.execute, or-false r.get_attributes, or-false r.modify_directory, or-false r.read_bytes, or-false r.traverse, or-false r.update_attributes, or-false r.write_bytes) refl

-- Words that are read as some rights, with none before them, are read so as a whole.
not_empty : (ws : List (List ℕ)) (r : RightSet) → r ≢ no_rights → rights_behind [] ws ≡ Ok r → rights_of ws ≡ Ok r
unfolding rights_of
not_empty [] r some h = absurd (some (cc))
not_empty (w ∷ ws) r some h = h

-- The words that are written for some rights are read as these.
pub words_are_read_back_lem : WordsAreReadBack
words_are_read_back_lem r some =
    not_empty (words_of r) r some (read_names (has r) [] all_rights refl ∙ ap Ok (all_of_it r))
