-- What is kept behind a put.
use Rattle.std.proofs.Common.{◌≡◌, ℕ, suc, List, [], ◌∷◌, ◌++◌, Bool, true, false, cond, ◌&&◌, ◌||◌, ◌==◌, true≢false, Option, Some, None, find, is_some, length, nat_le, option_map, refl, sym, ◌∙◌, ap, subst, bytes_eq}
use Rattle.std.specs.Cmp.{unsigned_Decides, first_so, second_so}
use Rattle.std.proofs.lemmas.Slice.Eq.{bytes_eq-Decides}
use Rattle.std.proofs.lemmas.Option.{same_Some, none-some}
use Rattle.cm_facts.proofs.Options.{is_some_false}
use Rattle.cm_world.specs.declared.row.Row.{Row}
use Rattle.cm_world.specs.declared.frame.Builtin.{Builtin}
use Rattle.cm_world.specs.declared.route.Start.TheVariants.{UseAt}
use Rattle.cm_world.specs.declared.route.Walked.{Walked}
use Rattle.cm_world.specs.Edits.{edit_first}
use Rattle.cm_world.specs.Route.{IsWalked}
use Rattle.cm_cache.specs.declared.answer.CachedAnswer.{CachedAnswer}
use Rattle.cm_cache.specs.Answers.{most}
use Rattle.cm_cache.specs.AnswersInside.{answer_of, is_of, kept_at, joined_by, with_walked, put_in}
use Rattle.cm_cache.specs.Keeping.{UseKey, has_use}
use Rattle.cm_cache.specs.Right.{uses_of, AreRight}
use Rattle.cm_cache.specs.Laws.{WhatIsPutIsKept, UsesAreKept, PutsAddUses, RightAnswers, PutsStayRight, AnswersStayRight}
use Rattle.cm_cache.proofs.lemmas.trees.Staying.{walks_stay}

-- ---- one use

-- the use of a path by an instance and that of another path by another
abbrev pub same_use : ℕ → List ℕ → ℕ → List ℕ → Bool
same_use i path j other = (i == j) && bytes_eq path other

-- Uses that are the same are of one instance.
pub same_inc : (i j : ℕ) (path other : List ℕ) → same_use i path j other ≡ true → i ≡ j
same_inc i j path other is = (unsigned_Decides i j).0 (first_so (i == j) (bytes_eq path other) is)

-- Uses that are the same are of one path.
pub same_path : (i j : ℕ) (path other : List ℕ) → same_use i path j other ≡ true → path ≡ other
same_path i j path other is = (bytes_eq-Decides path other).0 (second_so (i == j) (bytes_eq path other) is)

-- A use of a path by an instance is the same as itself.
itself : (i : ℕ) (path : List ℕ) → same_use i path i path ≡ true
itself i path =
    ap (λ t. t && bytes_eq path path) ((unsigned_Decides i i).1 refl) ∙ (bytes_eq-Decides path path).1 refl

-- an answer to one use is none to another
other_by : (t : Bool) (i j : ℕ) (path other : List ℕ) (a : CachedAnswer) → same_use i path j other ≡ false → is_of i path a ≡ true → is_of j other a ≡ t → t ≡ false
other_by false i j path other a apart here is = refl
other_by true i j path other a apart here is =
    let inc : i ≡ j = sym (same_inc a.inc i a.path path here) ∙ same_inc a.inc j a.path other is in
    let same : path ≡ other = sym (same_path a.inc i a.path path here) ∙ same_path a.inc j a.path other is in
    let joint : same_use i path j other ≡ true = subst (λ k. same_use i path k other ≡ true) inc (subst (λ q. same_use i path i q ≡ true) same (itself i path)) in
    absurd (true≢false (sym joint ∙ apart))

-- ---- the answer in the place of another

-- What the walk of a kept answer came to, if there is such an answer.
abbrev walked_in : Option CachedAnswer → Option Walked
walked_in o = option_map (λ a. a.walked) o

module _ (i : ℕ) (path : List ℕ) (v : Walked) where
  -- The kept answers with what a later walk came to for the use.
  abbrev edited : List CachedAnswer → List CachedAnswer
  edited xs = edit_first (is_of i path) (with_walked v) xs

  -- What is kept for the use is what the later walk came to, answer by answer.
  here_by : (t : Bool) (x : CachedAnswer) (xs : List CachedAnswer) → is_of i path x ≡ t → (is_some (kept_at xs i path) ≡ true → kept_at (edited xs) i path ≡ Some v) → is_some (walked_in (cond t (Some x) (find (is_of i path) xs))) ≡ true → kept_at (cond t (with_walked v x ∷ xs) (x ∷ edited xs)) i path ≡ Some v
  here_by true x xs is later some = ap (λ t. walked_in (cond t (Some (with_walked v x)) (find (is_of i path) xs))) is
  here_by false x xs is later some = ap (λ t. walked_in (cond t (Some x) (find (is_of i path) (edited xs)))) is ∙ later some

  -- Once it is edited, what was kept for the use is what the later walk came to.
  edited_here : (xs : List CachedAnswer) → is_some (kept_at xs i path) ≡ true → kept_at (edited xs) i path ≡ Some v
  edited_here [] some = absurd (true≢false (sym some))
  edited_here (x ∷ xs) some = here_by (is_of i path x) x xs refl (edited_here xs) some

  module _ (j : ℕ) (other : List ℕ) (apart : same_use i path j other ≡ false) where
    -- An answer in front leaves two alike that were alike behind it.
    keeps_later : (t : Bool) (x : CachedAnswer) (o p : Option CachedAnswer) → walked_in p ≡ walked_in o → walked_in (cond t (Some x) p) ≡ walked_in (cond t (Some x) o)
    keeps_later true x o p later = refl
    keeps_later false x o p later = later

    -- What is kept for another use stays, answer by answer.
    there_by : (t : Bool) (x : CachedAnswer) (xs : List CachedAnswer) → is_of i path x ≡ t → kept_at (edited xs) j other ≡ kept_at xs j other → kept_at (cond t (with_walked v x ∷ xs) (x ∷ edited xs)) j other ≡ kept_at (x ∷ xs) j other
    there_by true x xs is later =
        let not_this : is_of j other x ≡ false = other_by (is_of j other x) i j path other x apart is refl in
        ap (λ t. walked_in (cond t (Some (with_walked v x)) (find (is_of j other) xs))) not_this
        ∙ sym (ap (λ t. walked_in (cond t (Some x) (find (is_of j other) xs))) not_this)
    there_by false x xs is later = keeps_later (is_of j other x) x (find (is_of j other) xs) (find (is_of j other) (edited xs)) later

    -- An edit for one use leaves what is kept for another.
    edited_there : (xs : List CachedAnswer) → kept_at (edited xs) j other ≡ kept_at xs j other
    edited_there [] = refl
    edited_there (x ∷ xs) = there_by (is_of i path x) x xs refl (edited_there xs)

-- ---- an answer behind the others

-- One answer that is kept under a condition is, for its use, what it came to.
alone_by : (t : Bool) (v : Walked) (a : CachedAnswer) → a.walked ≡ v → walked_in (cond t (Some a) None) ≡ cond t (Some v) None
alone_by true v a is = ap Some is
alone_by false v a is = refl

-- A new last answer counts only where none was kept before, answer by answer.
push_by : (t u : Bool) (x : CachedAnswer) (v : Walked) (o p : Option CachedAnswer) → walked_in p ≡ cond (is_some (walked_in o)) (walked_in o) (cond u (Some v) None) → walked_in (cond t (Some x) p) ≡ cond (is_some (walked_in (cond t (Some x) o))) (walked_in (cond t (Some x) o)) (cond u (Some v) None)
push_by true u x v o p later = refl
push_by false u x v o p later = later

-- what is found, else the new one
kept_push : (xs : List CachedAnswer) (i j : ℕ) (path other : List ℕ) (v : Walked) → kept_at (xs ++ answer_of i path v ∷ []) j other ≡ cond (is_some (kept_at xs j other)) (kept_at xs j other) (cond (same_use i path j other) (Some v) None)
kept_push [] i j path other v = alone_by (same_use i path j other) v (answer_of i path v) refl
kept_push (x ∷ xs) i j path other v =
    push_by (is_of j other x) (same_use i path j other) x v (find (is_of j other) xs) (find (is_of j other) (xs ++ answer_of i path v ∷ []))
    (kept_push xs i j path other v)

-- An answer where it is there, and none otherwise, is that answer.
none_by : (o : Option Walked) → cond (is_some o) o None ≡ o
none_by None = refl
none_by (Some v) = refl

-- ---- a put

-- Where an answer for the use is kept, an edit changes what is kept for that use alone.
replaced_by : (u : Bool) (xs : List CachedAnswer) (i j : ℕ) (path other : List ℕ) (v : Walked) → same_use i path j other ≡ u → is_some (kept_at xs i path) ≡ true → kept_at (edited i path v xs) j other ≡ cond u (Some v) (kept_at xs j other)
replaced_by true xs i j path other v same some =
    subst (λ k. kept_at (edited i path v xs) k other ≡ Some v) (same_inc i j path other same)
    (subst (λ q. kept_at (edited i path v xs) i q ≡ Some v) (same_path i j path other same) (edited_here i path v xs some))
replaced_by false xs i j path other v same some = edited_there i path v j other same xs

-- A new answer at the end is kept for its use, where none was, and all else stays.
added_by : (u : Bool) (xs : List CachedAnswer) (i j : ℕ) (path other : List ℕ) (v : Walked) → same_use i path j other ≡ u → kept_at xs i path ≡ None → kept_at (xs ++ answer_of i path v ∷ []) j other ≡ cond u (Some v) (kept_at xs j other)
added_by true xs i j path other v same none =
    let gone : kept_at xs j other ≡ None = subst (λ k. kept_at xs k other ≡ None) (same_inc i j path other same) (subst (λ q. kept_at xs i q ≡ None) (same_path i j path other same) none) in
    kept_push xs i j path other v
    ∙ ap (λ o. cond (is_some o) o (cond (same_use i path j other) (Some v) None)) gone
    ∙ ap (λ t. cond {A = Option Walked} t (Some v) None) same
added_by false xs i j path other v same none =
    kept_push xs i j path other v
    ∙ ap (λ t. cond (is_some (kept_at xs j other)) (kept_at xs j other) (cond t (Some v) None)) same
    ∙ none_by (kept_at xs j other)

-- A new answer is kept for its use, beside the others or, where they are full, alone.
joined_kept : (full : Bool) (xs : List CachedAnswer) (i j : ℕ) (path other : List ℕ) (v : Walked) → kept_at xs i path ≡ None → kept_at (cond full (answer_of i path v ∷ []) (xs ++ answer_of i path v ∷ [])) j other ≡ cond (same_use i path j other) (Some v) (kept_at (cond full [] xs) j other)
joined_kept true xs i j path other v none = alone_by (same_use i path j other) v (answer_of i path v) refl
joined_kept false xs i j path other v none = added_by (same_use i path j other) xs i j path other v refl none

-- After a put its use has its answer, and each other use what was left of it.
put_kept : (some : Bool) (xs : List CachedAnswer) (i j : ℕ) (path other : List ℕ) (v : Walked) → is_some (kept_at xs i path) ≡ some → kept_at (cond some (edited i path v xs) (joined_by (answer_of i path v) xs)) j other ≡ cond (same_use i path j other) (Some v) (kept_at (cond some xs (cond (nat_le most (length xs)) [] xs)) j other)
put_kept true xs i j path other v is = replaced_by (same_use i path j other) xs i j path other v refl is
put_kept false xs i j path other v is =
    joined_kept (nat_le most (length xs)) xs i j path other v (is_some_false (kept_at xs i path) is)

-- After a put its use has this answer, and each other use what was left of it.
pub what_is_put_is_kept : WhatIsPutIsKept
what_is_put_is_kept xs i j path other v = put_kept (is_some (kept_at xs i path)) xs i j path other v refl

-- a put for a use of which nothing is kept
pub put_new : (xs : List CachedAnswer) (i : ℕ) (path : List ℕ) (v : Walked) → kept_at xs i path ≡ None → put_in xs i path v ≡ joined_by (answer_of i path v) xs
put_new xs i path v none = ap (λ o. cond (is_some o) (edited i path v xs) (joined_by (answer_of i path v) xs)) none

-- a put in the place of what is kept
pub put_there : (xs : List CachedAnswer) (i : ℕ) (path : List ℕ) (v w : Walked) → kept_at xs i path ≡ Some w → put_in xs i path v ≡ edit_first (is_of i path) (with_walked v) xs
put_there xs i path v w some = ap (λ o. cond (is_some o) (edited i path v xs) (joined_by (answer_of i path v) xs)) some

-- ---- caches beside histories

-- Whether an answer is kept for a use is whether a search finds one, answer by answer.
has_by : (t : Bool) (x : CachedAnswer) (o : Option CachedAnswer) (rest : Bool) → rest ≡ is_some (walked_in o) → (t || rest) ≡ is_some (walked_in (cond t (Some x) o))
has_by true x o rest later = refl
has_by false x o rest later = later

-- A use is among those of the answers exactly where an answer is kept for it.
pub uses_are_kept : UsesAreKept
uses_are_kept [] u = refl
uses_are_kept (x ∷ xs) u = has_by (is_of u.inc u.path x) x (find (is_of u.inc u.path) xs) (has_use (uses_of xs) u) (uses_are_kept xs u)

-- The uses of answers with one more at the end are their uses with its use at the end.
uses_push : (xs : List CachedAnswer) (a : CachedAnswer) → uses_of (xs ++ a ∷ []) ≡ uses_of xs ++ record { inc = a.inc; path = a.path } ∷ []
uses_push [] a = refl
uses_push (x ∷ xs) a = ap (λ us. record { inc = x.inc; path = x.path } ∷ us) (uses_push xs a)

-- Answers have as many uses as they are.
length-uses : (xs : List CachedAnswer) → length (uses_of xs) ≡ length xs
length-uses [] = refl
length-uses (x ∷ xs) = ap suc (length-uses xs)

-- The uses of answers with one more, or of that one alone, are theirs with its use, or it alone.
uses_joined : (t : Bool) (xs : List CachedAnswer) (a : CachedAnswer) → uses_of (cond t (a ∷ []) (xs ++ a ∷ [])) ≡ cond t (record { inc = a.inc; path = a.path } ∷ []) (uses_of xs ++ record { inc = a.inc; path = a.path } ∷ [])
uses_joined true xs a = refl
uses_joined false xs a = uses_push xs a

-- A put for a new use adds it to the uses as a history does.
pub puts_add_uses : PutsAddUses
puts_add_uses xs i path v none =
    let u : UseKey = record { inc = i; path = path } in
    ap uses_of (put_new xs i path v none) ∙ uses_joined (nat_le most (length xs)) xs (answer_of i path v)
    ∙ ap (λ n. cond (nat_le most n) (u ∷ []) (uses_of xs ++ u ∷ [])) (sym (length-uses xs))

-- ---- right answers

-- What is found for a use is what its walk comes to, answer by answer.
right_by : (t : Bool) (rows : List Row) (builtins : List Builtin) (x : CachedAnswer) (o : Option CachedAnswer) (i : ℕ) (path : List ℕ) (v : Walked) → is_of i path x ≡ t → IsWalked rows builtins (UseAt x.inc x.path) x.walked → (walked_in o ≡ Some v → IsWalked rows builtins (UseAt i path) v) → walked_in (cond t (Some x) o) ≡ Some v → IsWalked rows builtins (UseAt i path) v
right_by true rows builtins x o i path v is here later e =
    subst (λ z. IsWalked rows builtins (UseAt i path) z) (same_Some x.walked v e)
    (subst (λ q. IsWalked rows builtins (UseAt i q) x.walked) (same_path x.inc i x.path path is)
    (subst (λ k. IsWalked rows builtins (UseAt k x.path) x.walked) (same_inc x.inc i x.path path is) here))
right_by false rows builtins x o i path v is here later e = later e

-- Where all answers are right, the one that is kept for a use is that of its walk.
pub right_answers : RightAnswers
right_answers rows builtins [] i path v right e = absurd (none-some v e)
right_answers rows builtins (x ∷ xs) i path v right e =
    right_by (is_of i path x) rows builtins x (find (is_of i path) xs) i path v refl right.0 (right_answers rows builtins xs i path v right.1) e

-- Answers that are right stay so with one more at the end that is right.
right_push : (rows : List Row) (builtins : List Builtin) (xs : List CachedAnswer) (a : CachedAnswer) → AreRight rows builtins xs → IsWalked rows builtins (UseAt a.inc a.path) a.walked → AreRight rows builtins (xs ++ a ∷ [])
right_push rows builtins [] a right walked = (walked, tt)
right_push rows builtins (x ∷ xs) a right walked = (right.0, right_push rows builtins xs a right.1 walked)

-- Answers that are right stay so with one more that is right, or with that one alone.
right_joined : (t : Bool) (rows : List Row) (builtins : List Builtin) (xs : List CachedAnswer) (a : CachedAnswer) → AreRight rows builtins xs → IsWalked rows builtins (UseAt a.inc a.path) a.walked → AreRight rows builtins (cond t (a ∷ []) (xs ++ a ∷ []))
right_joined true rows builtins xs a right walked = (walked, tt)
right_joined false rows builtins xs a right walked = right_push rows builtins xs a right walked

-- Putting what the walk of a new use comes to leaves the answers right.
pub puts_stay_right : PutsStayRight
puts_stay_right rows builtins xs i path v right none walked =
    subst (AreRight rows builtins) (sym (put_new xs i path v none))
    (right_joined (nat_le most (length xs)) rows builtins xs (answer_of i path v) right walked)

-- An entry that doesn't empty the cache leaves the answers right.
pub answers_stay_right : AnswersStayRight
answers_stay_right w e builtins [] up stays right = tt
answers_stay_right w e builtins (x ∷ xs) up stays right = (
  walks_stay w e builtins (UseAt x.inc x.path) x.walked up stays right.0,
  answers_stay_right w e builtins xs up stays right.1,
)
