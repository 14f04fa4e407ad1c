-- What holds of each item of a list.
use Rattle.std.proofs.Common.{List, [], ◌∷◌, Bool, true, false, cond, Option, Some, None, find, All, arith}
use Rattle.std.specs.Prelude.{IfSome, option_and_then}
use Rattle.std.proofs.lemmas.List.Elements.{All-cons, All-tail, All-nil}
use Rattle.cm_facts.proofs.Lists.{All_cons_option}
use Rattle.cm_world.specs.Edits.{edit_first}

-- What holds of each item of a list holds of its first item.
pub head : {A : Type 0} (P : A → Type 0) (x : A) (xs : List A) → All P (x ∷ xs) → P x
head P x xs h = h 0 x (omega arith)

-- ---- what is found

-- What holds of an item and of what else is found holds of the one that is chosen.
found_by : {A : Type 0} (P : A → Type 0) (t : Bool) (s : A) (o : Option A) → P s → IfSome o P → IfSome (cond t (Some s) o) P
found_by P true s o here later = here
found_by P false s o here later = later

-- What holds of each item of a list holds of the one that is found, if one is.
pub find-All : {A : Type 0} (P : A → Type 0) (p : A → Bool) (xs : List A) → All P xs → IfSome (find p xs) P
find-All P p [] h = tt
find-All P p (x ∷ xs) h = found_by P (p x) x (find p xs) (head P x xs h) (find-All P p xs (All-tail P x xs h))

-- What holds of a value where it is there, and of what is made of it, holds of that where it is there.
pub and_then : {A B : Type 0} (P : A → Type 0) (Q : B → Type 0) (f : A → Option B) (o : Option A) → IfSome o P → ((x : A) → P x → IfSome (f x) Q) → IfSome (option_and_then f o) Q
and_then P Q f None h step = tt
and_then P Q f (Some x) h step = step x h

-- ---- what is changed

-- What holds of a list's items holds when the first is changed or not, where it holds of changes.
edited_by : {A : Type 0} (P : A → Type 0) (t : Bool) (change : A → A) (x : A) (xs ys : List A) → ((y : A) → P y → P (change y)) → P x → All P xs → All P ys → All P (cond t (change x ∷ xs) (x ∷ ys))
edited_by P true change x xs ys keeps here rest more = All-cons P (change x) xs (keeps x here) rest
edited_by P false change x xs ys keeps here rest more = All-cons P x ys here more

-- What holds of each item, and lasts behind a change, holds of each where the first is changed.
pub edit-All : {A : Type 0} (P : A → Type 0) (p : A → Bool) (change : A → A) (xs : List A) → ((y : A) → P y → P (change y)) → All P xs → All P (edit_first p change xs)
edit-All P p change [] keeps h = All-nil P
edit-All P p change (x ∷ xs) keeps h =
    edited_by P (p x) change x xs (edit_first p change xs) keeps (head P x xs h) (All-tail P x xs h) (edit-All P p change xs keeps (All-tail P x xs h))
