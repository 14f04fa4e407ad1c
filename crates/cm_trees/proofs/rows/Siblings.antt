-- The children of a valid declaration have names that differ.
use Rattle.std.proofs.Common.{◌≡◌, ℕ, suc, ◌+◌, ◌<◌, List, [], ◌∷◌, ◌++◌, Bool, true, false, cond, not, Option, Some, None, is_some, length, refl, sym, ◌∙◌, ap, subst, arith, append_assoc}
use Rattle.std.specs.Prelude.{position, take, slice_get, option_map, option_and_then}
use Rattle.std.specs.List.{position_or_len}
use Rattle.std.specs.Str.{bytes_eq}
use Rattle.std.specs.Cmp.Lexicographic.{bytes_decides}
use Rattle.std.proofs.Math.Seq.{take-append_seam}
use Rattle.std.proofs.lemmas.Option.{slice_get-get_or}
use Rattle.std.proofs.lemmas.Bool.{lt-ltb}
use Rattle.std.proofs.lemmas.List.{get_or_at, length-append}
use Rattle.cm_decl.specs.declared.decl.Decl.{Decl}
use Rattle.cm_decl.specs.declared.rows.Child.{Child}
use Rattle.cm_decl.specs.declared.section.Section.TheVariants.{Children}
use Rattle.cm_decl.specs.Rules.{RepeatedName}
use Rattle.cm_decl.specs.Clashes.{clash, first_row, first_before, same_child_name}
use Rattle.cm_decl.specs.Valid.{IsValid}

-- a name is none of these children's
abbrev pub IsFresh : List ℕ → List Child → Type 0
IsFresh name [] = Unit {0}
IsFresh name (k ∷ ks) = (name ≡ k.name → ⊥) × IsFresh name ks

-- no two of them have one name
abbrev pub AreApart : List Child → Type 0
AreApart [] = Unit {0}
AreApart (k ∷ ks) = IsFresh k.name ks × AreApart ks

-- ---- a place that is found

-- A place within the rest of a list is within the list, one further on.
reach_by : (t : Bool) (rest n : ℕ) → rest < n → cond t (1 + rest) 0 < suc n
reach_by true rest n less = omega arith
reach_by false rest n less = omega arith

-- The place of the first child that passes is within the list, where some child passes.
reaches : (passes : Child → Bool) (xs : List Child) (k : Child) (ys : List Child) → passes k ≡ true → position_or_len passes (xs ++ k ∷ ys) < length (xs ++ k ∷ ys)
reaches passes [] k ys here = rw here (omega arith)
reaches passes (x ∷ xs) k ys here = reach_by (not (passes x)) (position_or_len passes (xs ++ k ∷ ys)) (length (xs ++ k ∷ ys)) (reaches passes xs k ys here)

-- where a child passes, a place is found
found : (passes : Child → Bool) (xs : List Child) (k : Child) (ys : List Child) → passes k ≡ true → is_some (position passes (xs ++ k ∷ ys)) ≡ true
found passes xs k ys here = rw (lt-ltb (position_or_len passes (xs ++ k ∷ ys)) (length (xs ++ k ∷ ys)) (reaches passes xs k ys here)) refl

-- Where something is there, so is what is made of it.
some_mapped : {A B : Type 0} (f : A → B) (o : Option A) → is_some o ≡ true → is_some (option_map f o) ≡ true
some_mapped f None h = h
some_mapped f (Some x) h = refl

-- ---- children of one name

-- No child of the list has the name of one before it.
abbrev IsClashFree : List Child → Type 0
IsClashFree ks = (i : ℕ) → is_some (first_before Children same_child_name ks i) ≡ true → ⊥

-- Whether a child that may be there clashes with one of those before it.
clash_by : List Child → Option Child → Bool
clash_by earlier o = is_some (option_and_then (λ row. first_row Children (λ e. same_child_name e row) earlier) o)

-- the second of two children of one name clashes with the first
clash_at : (prefix mid : List Child) (k x : Child) (xs : List Child) → k.name ≡ x.name → is_some (first_before Children same_child_name ((prefix ++ k ∷ mid) ++ x ∷ xs) (length (prefix ++ k ∷ mid))) ≡ true
unfolding clash_by
clash_at prefix mid k x xs same =
    let before : List Child = prefix ++ k ∷ mid in
    let all : List Child = before ++ x ∷ xs in
    let within : length before < length all = omega (arith, length-append before (x ∷ xs)) in
    let here : slice_get all (length before) ≡ Some x = slice_get-get_or all (length before) x within ∙ ap Some (get_or_at before x xs x (length before) refl) in
    let seam : take (length before) all ≡ before = take-append_seam before (x ∷ xs) in
    let named : bytes_eq k.name x.name ≡ true = (bytes_decides k.name x.name).1 same in
    subst (λ o. clash_by (take (length before) all) o ≡ true) (sym here)
    (subst (λ ys. clash_by ys (Some x) ≡ true) (sym seam) (some_mapped _ (position (λ e. same_child_name e x) before) (found (λ e. same_child_name e x) prefix k mid named)))

-- Where no names clash, those behind a child don't have its name.
fresh_behind : (prefix mid : List Child) (k : Child) (ks : List Child) → IsClashFree ((prefix ++ k ∷ mid) ++ ks) → IsFresh k.name ks
fresh_behind prefix mid k [] free = tt
fresh_behind prefix mid k (x ∷ xs) free =
    let moved : (prefix ++ k ∷ mid) ++ x ∷ xs ≡ (prefix ++ k ∷ (mid ++ x ∷ [])) ++ xs = simp append_assoc in (
      (λ e. free (length (prefix ++ k ∷ mid)) (clash_at prefix mid k x xs e)),
      fresh_behind prefix (mid ++ x ∷ []) k xs (subst IsClashFree moved free),
    )

-- Where no names clash, the children behind some have names that differ.
apart_behind : (prefix ks : List Child) → IsClashFree (prefix ++ ks) → AreApart ks
apart_behind prefix [] free = tt
apart_behind prefix (k ∷ ks) free =
    let moved : prefix ++ k ∷ ks ≡ (prefix ++ k ∷ []) ++ ks = simp append_assoc in
    (fresh_behind prefix [] k ks (subst IsClashFree moved free), apart_behind (prefix ++ k ∷ []) ks (subst IsClashFree moved free))

-- The children of a valid declaration have names that differ.
pub valid_apart : (d : Decl) → IsValid d → AreApart d.children
valid_apart d valid =
    apart_behind [] d.children
    (λ i clashing. valid.faultless (record { number = 50; section = Children; index = i; against = clash d RepeatedName Children i; cycle = [] })
    (record { rule = RepeatedName; broken = clashing; numbered = refl; clashing = refl; no_cycle = refl }))
