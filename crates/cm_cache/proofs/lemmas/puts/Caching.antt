-- How a cache finds its answers, and what a put leaves.
use Rattle.std.proofs.Common.{◌≡◌, ℕ, ◌≤◌, ◌<◌, List, [], ◌∷◌, ◌++◌, Bool, true, false, cond, Option, Some, None, Result, Ok, Err, OnOk, OnErr, find, length, get_or, set, option_map, refl, sym, ◌∙◌, ap, subst}
use Rattle.std.specs.BTreeMap.{BTreeMap}
use Rattle.std.proofs.lemmas.Bool.{le-leb, lt-leb}
use Rattle.std.proofs.lemmas.List.{get_or_default}
use Rattle.std.proofs.lemmas.Result.{on_ok_weaker}
use Rattle.std.proofs.lemmas.Option.{none-some}
use Rattle.cm_decl.specs.Clashes.{or_else}
use Rattle.cm_world.specs.declared.route.Walked.{Walked}
use Rattle.cm_world.specs.Edits.{edit_first}
use Rattle.cm_cache.specs.declared.answer.CachedAnswer.{CachedAnswer}
use Rattle.cm_cache.specs.declared.places.Paths.{Paths}
use Rattle.cm_cache.specs.Answers.{most}
use Rattle.cm_cache.specs.AnswersInside.{answer_of, is_of, kept_at, with_walked, put_in}
use Rattle.cm_cache.specs.Places.{placed, place_of}
use Rattle.cm_cache.proofs.lemmas.puts.Placing.{IsAt, place_is, unplaced, unfound, place_push, place-edited, set_at_place}
use Rattle.cm_cache.proofs.lemmas.puts.Putting.{same_use, same_inc, same_path, put_new, put_there}

-- What holds in any case holds where the result is an error.
pub on_err_of : {T E P : Type 0} (r : Result T E) → P → OnErr r P
on_err_of (Ok x) it = tt
on_err_of (Err x) it = it

-- Where it isn't told what an answer came to, no answer was found.
unfound_answer : (o : Option CachedAnswer) → option_map (λ a. a.walked) o ≡ None → o ≡ None
unfound_answer None e = refl
unfound_answer (Some a) e = absurd (none-some a.walked (sym e))

-- A place or else none is that place.
or_none : (o : Option ℕ) → or_else o None ≡ o
or_none None = refl
or_none (Some n) = refl

-- each use has the number of the place of its answer
abbrev Placed : BTreeMap ℕ Paths → List CachedAnswer → Type 0
Placed places xs = (i : ℕ) (path : List ℕ) → placed places i path ≡ place_of (is_of i path) xs

-- ---- an answer that is there, or isn't

-- The place that the index tells for a use is that of the first answer for it.
pub placed_is : (places : BTreeMap ℕ Paths) (xs : List CachedAnswer) (i : ℕ) (path : List ℕ) (k : ℕ) → Placed places xs → placed places i path ≡ Some k → IsAt (is_of i path) xs k
placed_is places xs i path k each e = place_is (is_of i path) xs k (sym (each i path) ∙ e)

-- Where the index has no place for a use, no answer is kept for it.
pub kept_none : (places : BTreeMap ℕ Paths) (xs : List CachedAnswer) (i : ℕ) (path : List ℕ) → Placed places xs → placed places i path ≡ None → kept_at xs i path ≡ None
kept_none places xs i path each e = ap (option_map (λ a. a.walked)) (unplaced (is_of i path) xs (sym (each i path) ∙ e))

-- What is kept for a use is what the first answer for it says that the walk came to.
pub kept_some : (xs : List CachedAnswer) (i : ℕ) (path : List ℕ) (k : ℕ) (x : CachedAnswer) → IsAt (is_of i path) xs k → x ≡ get_or xs k x → kept_at xs i path ≡ Some x.walked
kept_some xs i path k x at read = ap (option_map (λ a. a.walked)) (at.found x ∙ ap Some (sym read))

-- ---- an answer in the place of another

-- To set the answer at the place of a use is to edit the first answer for that use.
pub rewritten : (places : BTreeMap ℕ Paths) (xs : List CachedAnswer) (i : ℕ) (path : List ℕ) (v : Walked) (k : ℕ) (x : CachedAnswer) → Placed places xs → placed places i path ≡ Some k → x ≡ get_or xs k x → set xs k (with_walked v x) ≡ edit_first (is_of i path) (with_walked v) xs
rewritten places xs i path v k x each e read =
    let at : IsAt (is_of i path) xs k = placed_is places xs i path k each e in
    set_at_place (is_of i path) (with_walked v) xs k (with_walked v x) (sym (each i path) ∙ e)
    (ap (with_walked v) (read ∙ get_or_default xs k x (with_walked v x) at.bound))

-- the places stay
pub placed_rewritten : (places : BTreeMap ℕ Paths) (xs : List CachedAnswer) (i : ℕ) (path : List ℕ) (v : Walked) (k : ℕ) (x : CachedAnswer) → Placed places xs → placed places i path ≡ Some k → x ≡ get_or xs k x → Placed places (set xs k (with_walked v x))
placed_rewritten places xs i path v k x each e read j q =
    each j q ∙ sym (place-edited (is_of j q) (is_of i path) (with_walked v) (λ a. refl) xs)
    ∙ ap (place_of (is_of j q)) (sym (rewritten places xs i path v k x each e read))

-- To set the answer at the place of a use is what a put for that use does.
pub put_rewritten : (places : BTreeMap ℕ Paths) (xs : List CachedAnswer) (i : ℕ) (path : List ℕ) (v : Walked) (k : ℕ) (x : CachedAnswer) → Placed places xs → placed places i path ≡ Some k → x ≡ get_or xs k x → set xs k (with_walked v x) ≡ put_in xs i path v
put_rewritten places xs i path v k x each e read =
    rewritten places xs i path v k x each e read
    ∙ sym (put_there xs i path v x.walked (kept_some xs i path k x (placed_is places xs i path k each e) read))

-- ---- an answer more

-- With a new last answer the place for its use is the last, and those for others stay.
joined_by : (t : Bool) (xs : List CachedAnswer) (i : ℕ) (path : List ℕ) (j : ℕ) (q : List ℕ) (k : ℕ) (o : Option ℕ) → same_use i path j q ≡ t → kept_at xs i path ≡ None → k ≡ length xs → o ≡ place_of (is_of j q) xs → cond t (Some k) o ≡ or_else (place_of (is_of j q) xs) (cond t (Some (length xs)) None)
joined_by true xs i path j q k o same none last is =
    let gone : kept_at xs j q ≡ None = subst (λ n. kept_at xs n q ≡ None) (same_inc i j path q same) (subst (λ p. kept_at xs i p ≡ None) (same_path i j path q same) none) in
    let free : place_of (is_of j q) xs ≡ None = unfound (is_of j q) xs (unfound_answer (find (is_of j q) xs) gone) in
    ap Some last ∙ sym (ap (λ p. or_else p (Some (length xs))) free)
joined_by false xs i path j q k o same none last is = is ∙ sym (or_none (place_of (is_of j q) xs))

-- With one more answer at the end, whose use gets that place, the index is still right for all uses.
pub placed_joined : (old new : BTreeMap ℕ Paths) (xs : List CachedAnswer) (i : ℕ) (path : List ℕ) (v : Walked) (k : ℕ) → Placed old xs → kept_at xs i path ≡ None → k ≡ length xs → ((j : ℕ) (q : List ℕ) → placed new j q ≡ cond (same_use i path j q) (Some k) (placed old j q)) → Placed new (xs ++ answer_of i path v ∷ [])
placed_joined old new xs i path v k each none last puts j q =
    puts j q ∙ joined_by (same_use i path j q) xs i path j q k (placed old j q) refl none last (each j q)
    ∙ sym (place_push (is_of j q) xs (answer_of i path v))

-- where the list is full, it is emptied first
pub put_full : {T E : Type 0} (r : Result T E) (xs new : List CachedAnswer) (i : ℕ) (path : List ℕ) (v : Walked) → kept_at xs i path ≡ None → most ≤ length xs → OnOk r (new ≡ answer_of i path v ∷ []) → OnOk r (new ≡ put_in xs i path v)
put_full r xs new i path v none long ok =
    let is : put_in xs i path v ≡ answer_of i path v ∷ [] =
    put_new xs i path v none ∙ ap (λ t. cond t (answer_of i path v ∷ []) (xs ++ answer_of i path v ∷ [])) (le-leb most (length xs) long) in
    on_ok_weaker r (λ (e : new ≡ answer_of i path v ∷ []). e ∙ sym is) ok

-- Where none is kept for the use and there is room, a put leaves the answers with one more at the end.
pub put_joined : {T E : Type 0} (r : Result T E) (xs new : List CachedAnswer) (i : ℕ) (path : List ℕ) (v : Walked) → kept_at xs i path ≡ None → length xs < most → OnOk r (new ≡ xs ++ answer_of i path v ∷ []) → OnOk r (new ≡ put_in xs i path v)
put_joined r xs new i path v none short ok =
    let is : put_in xs i path v ≡ xs ++ answer_of i path v ∷ [] =
    put_new xs i path v none ∙ ap (λ t. cond t (answer_of i path v ∷ []) (xs ++ answer_of i path v ∷ [])) (lt-leb most (length xs) short) in
    on_ok_weaker r (λ (e : new ≡ xs ++ answer_of i path v ∷ []). e ∙ sym is) ok
