-- How many items pass a test behind a change of one, and how long lists are then.
use Rattle.std.proofs.Common.{◌≡◌, ℕ, ◌+◌, ◌≤◌, List, [], ◌∷◌, ◌++◌, Bool, true, false, cond, ◌||◌, ◌&&◌, ◌==◌, true≢false, Option, Some, None, is_none, length, find, refl, sym, ◌∙◌, ap, subst, arith, IsTrue}
use Rattle.std.proofs.lemmas.List.Sums.{sum_by_push}
use Rattle.std.specs.Option.{option_map_or}
use Rattle.std.specs.List.{count_by, list_any}
use Rattle.std.proofs.lemmas.Bool.{and_from}
use Rattle.cm_decl.specs.declared.decl.Decl.{Decl}
use Rattle.cm_world.specs.declared.action.Act.{Act}
use Rattle.cm_world.specs.declared.action.ActKind.{ActKind}
use Rattle.cm_world.specs.declared.action.ActKind.TheVariants.{Resolve, Start, Stop}
use Rattle.cm_world.specs.declared.action.Join.{Join}
use Rattle.cm_world.specs.declared.action.Outcome.{Outcome}
use Rattle.cm_world.specs.declared.action.Finish.{Finish}
use Rattle.cm_world.specs.declared.action.Finish.TheVariants as finish
use Rattle.cm_world.specs.Edits.{edit_first, drop_first}
use Rattle.cm_world.specs.World.{is_open}
use Rattle.cm_world.specs.Begin.{same_act}
use Rattle.cm_world.specs.End.{fits_kind, put_outcome, ended}
use Rattle.cm_world.specs.Step.{MayEnd, is_join}
use Rattle.cm_world.specs.After.{unjoined}
use Rattle.cm_world.proofs.lemmas.trees.Finding.{none_some, some_same}
use Rattle.cm_laws.proofs.lemmas.sound.Changes.{count-cons}
use Rattle.cm_steps.specs.Tasks.{is_open_resolve}

-- Where an item passes in place of one that doesn't, one more does.
swap_one : (t s : Bool) (n : ℕ) → t ≡ false → s ≡ true → (cond t 1 0 + n) + 1 ≡ cond s 1 0 + n
swap_one false true n differ hits = omega arith
swap_one false false n differ hits = absurd (true≢false (sym hits))
swap_one true s n differ hits = absurd (true≢false differ)

-- With the same item before them, one more stays one more.
same_prefix : (t : Bool) (n m : ℕ) → n + 1 ≡ m → (cond t 1 0 + n) + 1 ≡ cond t 1 0 + m
same_prefix true n m e = omega arith
same_prefix false n m e = omega arith

-- Where the found item passed and its edit doesn't, one less passes, item by item.
less_by : {A : Type 0} (b : Bool) (p q : A → Bool) (f : A → A) (y x : A) (ys : List A) → (find p ys ≡ Some x → count_by q (edit_first p f ys) + 1 ≡ count_by q ys) → cond b (Some y) (find p ys) ≡ Some x → q x ≡ true → q (f x) ≡ false → count_by q (cond b (f y ∷ ys) (y ∷ edit_first p f ys)) + 1 ≡ count_by q (y ∷ ys)
less_by true p q f y x ys more found was is =
    let one : y ≡ x = some_same y x found in
    ap (λ n. n + 1) (count-cons q (f y) ys) ∙ swap_one (q (f y)) (q y) (count_by q ys) (ap (λ z. q (f z)) one ∙ is) (ap q one ∙ was) ∙ sym (count-cons q y ys)
less_by false p q f y x ys more found was is =
    ap (λ n. n + 1) (count-cons q y (edit_first p f ys)) ∙ same_prefix (q y) (count_by q (edit_first p f ys)) (count_by q ys) (more found) ∙ sym (count-cons q y ys)

-- the first that passes p leaves those that pass q
pub count_less : {A : Type 0} (p q : A → Bool) (f : A → A) (xs : List A) (x : A) → find p xs ≡ Some x → q x ≡ true → q (f x) ≡ false → count_by q (edit_first p f xs) + 1 ≡ count_by q xs
count_less p q f [] x found was is = absurd (none_some x found)
count_less p q f (y ∷ ys) x found was is = less_by (p y) p q f y x ys (λ e. count_less p q f ys x e was is) found was is

-- Where an item doesn't pass, no more do than with any other in its place.
drops_one : (t s : Bool) (n : ℕ) → t ≡ false → cond t 1 0 + n ≤ cond s 1 0 + n
drops_one false true n differ = omega arith
drops_one false false n differ = omega arith
drops_one true s n differ = absurd (true≢false differ)

-- With the same item before them, no more stays no more.
prefix_le : (t : Bool) (n m : ℕ) → n ≤ m → cond t 1 0 + n ≤ cond t 1 0 + m
prefix_le true n m e = omega arith
prefix_le false n m e = omega arith

-- Where no edit passes, no more pass after one, item by item.
le_by : {A : Type 0} (b : Bool) (p q : A → Bool) (f : A → A) (y : A) (ys : List A) → ((x : A) → q (f x) ≡ false) → count_by q (edit_first p f ys) ≤ count_by q ys → count_by q (cond b (f y ∷ ys) (y ∷ edit_first p f ys)) ≤ count_by q (y ∷ ys)
le_by true p q f y ys differ more =
    subst (λ n. n ≤ count_by q (y ∷ ys)) (sym (count-cons q (f y) ys)) (subst (λ n. cond (q (f y)) 1 0 + count_by q ys ≤ n) (sym (count-cons q y ys)) (drops_one (q (f y)) (q y) (count_by q ys) (differ y)))
le_by false p q f y ys differ more =
    subst (λ n. n ≤ count_by q (y ∷ ys)) (sym (count-cons q y (edit_first p f ys))) (subst (λ n. cond (q y) 1 0 + count_by q (edit_first p f ys) ≤ n) (sym (count-cons q y ys)) (prefix_le (q y) (count_by q (edit_first p f ys)) (count_by q ys) more))

-- Where one item is changed to one that fails a test, no more items pass it than before.
pub count_le : {A : Type 0} (p q : A → Bool) (f : A → A) (xs : List A) → ((x : A) → q (f x) ≡ false) → count_by q (edit_first p f xs) ≤ count_by q xs
count_le p q f [] differ = omega arith
count_le p q f (y ∷ ys) differ = le_by (p y) p q f y ys differ (count_le p q f ys differ)

-- Where the found item passed and no edit does, one less passes after it.
one_by : {A : Type 0} (o : Option A) (p q : A → Bool) (f : A → A) (xs : List A) → find p xs ≡ o → ((x : A) → q (f x) ≡ false) → option_map_or q o false ≡ true → count_by q (edit_first p f xs) + 1 ≡ count_by q xs
one_by None p q f xs found differ hit = absurd (true≢false (sym hit))
one_by (Some x) p q f xs found differ hit = count_less p q f xs x found hit (differ x)

-- the first that passes p passes q too, and then no more
pub count_one : {A : Type 0} (p q : A → Bool) (f : A → A) (xs : List A) → ((x : A) → q (f x) ≡ false) → option_map_or q (find p xs) false ≡ true → count_by q (edit_first p f xs) + 1 ≡ count_by q xs
count_one p q f xs differ hit = one_by (find p xs) p q f xs refl differ hit

-- Where the found item didn't pass and no edit does, as many pass after it, item by item.
same_by : {A : Type 0} (b : Bool) (p q : A → Bool) (f : A → A) (y : A) (ys : List A) → ((x : A) → q (f x) ≡ false) → (option_map_or q (find p ys) false ≡ false → count_by q (edit_first p f ys) ≡ count_by q ys) → option_map_or q (cond b (Some y) (find p ys)) false ≡ false → count_by q (cond b (f y ∷ ys) (y ∷ edit_first p f ys)) ≡ count_by q (y ∷ ys)
same_by true p q f y ys differ more miss =
    count-cons q (f y) ys ∙ ap (λ t. cond t 1 0 + count_by q ys) (differ y ∙ sym miss) ∙ sym (count-cons q y ys)
same_by false p q f y ys differ more miss =
    count-cons q y (edit_first p f ys) ∙ ap (λ n. cond (q y) 1 0 + n) (more miss) ∙ sym (count-cons q y ys)

-- the first that passes p, if there is one, doesn't pass q
pub count_same : {A : Type 0} (p q : A → Bool) (f : A → A) (xs : List A) → ((x : A) → q (f x) ≡ false) → option_map_or q (find p xs) false ≡ false → count_by q (edit_first p f xs) ≡ count_by q xs
count_same p q f [] differ miss = refl
count_same p q f (y ∷ ys) differ miss = same_by (p y) p q f y ys differ (λ e. count_same p q f ys differ e) miss

-- Of a list with one item more one more passes a test where that item does, and else as many.
pub count_more : {A : Type 0} (q : A → Bool) (xs : List A) (x : A) → count_by q (xs ++ x ∷ []) ≡ count_by q xs + cond (q x) 1 0
count_more q xs x = sum_by_push (λ z. cond (q z) 1 0) xs x

-- ---- actions

-- Where an action is ended, there is one open action less.
pub open_less : (acts : List Act) (caller a : ℕ) (f : Finish) (o : Outcome) → MayEnd acts caller a f → count_by is_open (ended a o acts) + 1 ≡ count_by is_open acts
open_less acts caller a f o may = count_less (λ x. x.action == a) is_open (put_outcome o) acts may.act may.there (ap is_none may.pending) refl

-- An end that resolves fits an action that resolves alone.
resolves : (k : ActKind) (url : List ℕ) (d : Decl) → fits_kind k (finish.Resolved url d) ≡ true → same_act k Resolve ≡ true
resolves Resolve url d e = refl
resolves Start url d e = absurd (true≢false (sym e))
resolves Stop url d e = absurd (true≢false (sym e))

-- Where a resolve is ended with a declaration, there is one open resolve less.
pub resolve_less : (acts : List Act) (caller a : ℕ) (url : List ℕ) (d : Decl) (o : Outcome) → MayEnd acts caller a (finish.Resolved url d) → count_by is_open_resolve (ended a o acts) + 1 ≡ count_by is_open_resolve acts
resolve_less acts caller a url d o may =
    count_less (λ x. x.action == a) is_open_resolve (put_outcome o) acts may.act may.there
    (and_from (same_act may.act.kind Resolve) (is_open may.act) (resolves may.act.kind url d may.fitting) (ap is_none may.pending))
    (closed_by (same_act may.act.kind Resolve)) where
      closed_by : (b : Bool) → (b && false) ≡ false
      closed_by true = refl
      closed_by false = refl

-- ---- joins

-- A list of joins with one dropped that was there is one shorter, join by join.
long_by : (b : Bool) (p : Join → Bool) (y : Join) (ys : List Join) → (IsTrue (list_any p ys) → length (drop_first p ys) + 1 ≡ length ys) → IsTrue (b || list_any p ys) → length (cond b ys (y ∷ drop_first p ys)) + 1 ≡ length (y ∷ ys)
long_by true p y ys more found = omega arith
long_by false p y ys more found = let rest : length (drop_first p ys) + 1 ≡ length ys = more found in omega arith

-- A list of joins with one dropped that was there is one shorter.
length-drop : (p : Join → Bool) (xs : List Join) → IsTrue (list_any p xs) → length (drop_first p xs) + 1 ≡ length xs
length-drop p [] found = absurd (true≢false (sym found))
length-drop p (y ∷ ys) found = long_by (p y) p y ys (length-drop p ys) found

-- Without the join that a caller awaited there is one join less.
pub length-unjoined : (caller a : ℕ) (joins : List Join) → IsTrue (list_any (is_join caller a) joins) → length (unjoined caller a joins) + 1 ≡ length joins
length-unjoined caller a joins found = length-drop (is_join caller a) joins found
