use Rattle.std.proofs.Common.{◌≡◌, ℕ, ◌<◌, List, [], ◌∷◌, ◌++◌, length, take, get_or, Bool, true, false, ◌&&◌, ◌||◌, true≢false, Option, Some, None, refl, sym, ◌∙◌, ap, subst, inl, inr, arith, bytes_eq}
use Rattle.std.specs.Prelude.{slice_get, position, ◌==◌, if◌then◌else◌}
use Rattle.std.specs.Bool.{Decides}
use Rattle.std.specs.Cmp.Lexicographic.{bytes_decides}
use Rattle.std.proofs.lemmas.Bool.{eqb-true, eq-eqb, or_cases}
use Rattle.std.proofs.lemmas.List.{get_or-take, length-take}
use Rattle.std.proofs.lemmas.List.Quantifiers.{position-Some}
use Rattle.std.proofs.lemmas.Option.{slice_get_within, slice_get-get_or}
use Rattle.std.specs.Cmp.{first_so, second_so}
use Rattle.cm_decl.specs.Rules.{is_inside}
use Rattle.cm_decl.specs.declared.rows.Usage.{Usage}
use Rattle.cm_decl.specs.declared.rows.Offer.{Offer}
use Rattle.cm_decl.specs.Clashes.{same_path, are_paths_nested, same_target}
use Rattle.cm_valid.specs.Keys.{zeroed, usage_key, offer_key}
use Rattle.cm_valid.specs.Near.{covers, near, KeysAreApart}

-- ---- texts that are near

-- A text covers itself.
pub covers_itself : (a : List ℕ) → covers a a ≡ true
covers_itself [] = refl
covers_itself (x ∷ a) = rw (eq-eqb x x refl) (covers_itself a)

-- the same text is near
pub same_near : (a b : List ℕ) → bytes_eq a b ≡ true → near a b ≡ true
same_near a b e =
    let same : a ≡ b = (bytes_decides a b).0 e in
    subst (λ t. near a t ≡ true) same (ap (λ v. v || covers a a) (covers_itself a))

-- A text that covers another is near it.
left_near : (a b : List ℕ) → covers a b ≡ true → near a b ≡ true
left_near a b e = ap (λ v. v || covers b a) e

-- A text that another covers is near that one.
right_near : (a b : List ℕ) → covers b a ≡ true → near a b ≡ true
right_near a b e = by (covers a b)
  where
    by : (v : Bool) → (v || covers b a) ≡ true
    by true = refl
    by false = e

-- a path covers what lies inside it, with zeros for their slashes
pub inside_covered : (path outer : List ℕ) → is_inside path outer ≡ true → covers (zeroed outer) (zeroed path) ≡ true
inside_covered [] [] e = absurd (true≢false (sym e))
inside_covered (b ∷ path) [] e =
    let slash : 47 ≡ b = eqb-true 47 b (first_so (47 == b) _ e) in
    subst (λ c. ((if c == 47 then 0 else c) == 0) ≡ true) slash refl
inside_covered [] (x ∷ outer) e = absurd (true≢false (sym e))
inside_covered (b ∷ path) (x ∷ outer) e =
    let same : x ≡ b = eqb-true x b (first_so (x == b) (is_inside path outer) e) in
    subst (λ c. (((if x == 47 then 0 else x) == (if c == 47 then 0 else c)) && covers (zeroed outer) (zeroed path)) ≡ true) same
    (rw (eq-eqb (if x == 47 then 0 else x) (if x == 47 then 0 else x) refl) (inside_covered path outer (second_so (x == b) (is_inside path outer) e)))

-- ---- rows that stand apart

-- among rows that stand apart none clashes with an earlier one
pub none_before : {A : Type 0} (key : A → List ℕ) (clashes : A → A → Bool) → ((a b : A) → clashes a b ≡ true → near (key a) (key b) ≡ true) → (rows : List A) (n row : ℕ) (this : A) → KeysAreApart key rows n → row < n → slice_get rows row ≡ Some this → position (λ e. clashes e this) (take row rows) ≡ None
none_before {A} key clashes close rows n row this apart bound here = by (position (λ e. clashes e this) (take row rows)) refl
  where
    by : (o : Option ℕ) → position (λ e. clashes e this) (take row rows) ≡ o → o ≡ None
    by None e = refl
    by (Some i) e =
        let found : (i < length (take row rows)) × (clashes (get_or (take row rows) i this) this ≡ true) × ((k : ℕ) → k < i → clashes (get_or (take row rows) k this) this ≡ false) = position-Some (λ e. clashes e this) (take row rows) i this e in
        let within : row < length rows = slice_get_within rows row this here in
        let lower : i < row = omega (arith, length-take row rows) in
        let at : slice_get rows i ≡ Some (get_or rows i this) = slice_get-get_or rows i this (omega arith) in
        let clash : clashes (get_or rows i this) this ≡ true = subst (λ r. clashes r this ≡ true) (get_or-take row rows i this lower) found.1 in
        absurd (true≢false (sym (close (get_or rows i this) this clash) ∙ apart i row (get_or rows i this) this at here lower bound))

-- ---- the test of paths

-- A path is another one, a slash and some rest.
abbrev Inside : List ℕ → List ℕ → Type 0
Inside path outer = (rest : List ℕ) × (path ≡ outer ++ 47 ∷ rest)

-- A path that is found inside another is that one, a slash and some rest.
tells : (path outer : List ℕ) → is_inside path outer ≡ true → Inside path outer
tells [] [] e = absurd (true≢false (sym e))
tells (b ∷ path) [] e = (path, ap (λ x. x ∷ path) (sym (eqb-true 47 b (first_so (47 == b) true e))))
tells [] (x ∷ outer) e = absurd (true≢false (sym e))
tells (b ∷ path) (x ∷ outer) e =
    let later : Inside path outer = tells path outer (second_so (x == b) (is_inside path outer) e) in
    (later.0, ap (λ y. y ∷ path) (sym (eqb-true x b (first_so (x == b) (is_inside path outer) e))) ∙ ap (λ l. x ∷ l) later.1)

-- A path behind another one and a slash is found inside that one.
shows : (outer rest : List ℕ) → is_inside (outer ++ 47 ∷ rest) outer ≡ true
shows [] [] = refl
shows [] (b ∷ rest) = refl
shows (x ∷ outer) rest = rw (eq-eqb x x refl) (shows outer rest)

-- the test tells what lies inside
pub inside_decides : (path outer : List ℕ) → Decides (is_inside path outer) (Inside path outer)
inside_decides path outer = (tells path outer, λ inside. subst (λ p. is_inside p outer ≡ true) (sym inside.1) (shows outer inside.0))

-- ---- rows that clash are near

-- a path is near one that it is the same as
pub path_near : (a b : Usage) → same_path a b ≡ true → near (usage_key a) (usage_key b) ≡ true
path_near a b e =
    let same : a.path ≡ b.path = (bytes_decides a.path b.path).0 e in
    subst (λ t. near (zeroed a.path) (zeroed t) ≡ true) same (left_near (zeroed a.path) (zeroed a.path) (covers_itself (zeroed a.path)))

-- Two uses of which one's path lies inside the other's are near.
pub nested_near : (a b : Usage) → are_paths_nested a b ≡ true → near (usage_key a) (usage_key b) ≡ true
nested_near a b e = elim (or_cases (is_inside a.path b.path) (is_inside b.path a.path) e) as (λ _. near (zeroed a.path) (zeroed b.path) ≡ true) [
  | inl one ↦ right_near (zeroed a.path) (zeroed b.path) (inside_covered a.path b.path one)
  | inr other ↦ left_near (zeroed a.path) (zeroed b.path) (inside_covered b.path a.path other)
]

-- an offer is near one of its target and target name
pub target_near : (a b : Offer) → same_target a b ≡ true → near (offer_key a) (offer_key b) ≡ true
target_near a b e =
    let to : a.to ≡ b.to = (bytes_decides a.to b.to).0 (first_so (bytes_eq a.to b.to) (bytes_eq a.give.target_name b.give.target_name) e) in
    let name : a.give.target_name ≡ b.give.target_name = (bytes_decides a.give.target_name b.give.target_name).0 (second_so (bytes_eq a.to b.to) (bytes_eq a.give.target_name b.give.target_name) e) in
    subst (λ t. near (offer_key a) (t ++ 47 ∷ b.give.target_name) ≡ true) to
    (subst (λ t. near (offer_key a) (a.to ++ 47 ∷ t) ≡ true) name (left_near (offer_key a) (offer_key a) (covers_itself (offer_key a))))
