-- Options and results: what one is by a test or by what is made of it.
use Rattle.std.proofs.Common.{◌≡◌, ℕ, Bool, true, false, cond, List, [], ◌++◌, Option, Some, None, is_some, is_none, IsTrue, IsSome, IfSome, Result, Ok, Err, option_map, option_to_list, nat_eq, refl, sym, ap, subst, true≢false}
use Rattle.std.specs.Option.{option_eq, option_or}
use Rattle.std.specs.List.{cons_option}
use Rattle.std.specs.Cmp.{unsigned_Decides}
use Rattle.std.proofs.lemmas.Option.{none-some, same_Some}

-- An option without a value, by its test.
pub is_some_false : {A : Type 0} (o : Option A) → is_some o ≡ false → o ≡ None
is_some_false None e = refl
is_some_false (Some x) e = absurd (true≢false e)

-- An option that the test finds to be none is `None`.
pub is_none_true : {A : Type 0} (o : Option A) → IsTrue (is_none o) → o ≡ None
is_none_true None e = refl
is_none_true (Some x) e = absurd (true≢false (sym e))

-- An option with a value, by its test.
pub is_some_true : {A : Type 0} (o : Option A) → IsTrue (is_some o) → (x : A) × (o ≡ Some x)
is_some_true None e = absurd (true≢false (sym e))
is_some_true (Some x) e = (x, refl)

-- What is said of the value, of the value that it is.
pub IfSome_some : {A : Type 0} (P : A → Type 0) (o : Option A) (x : A) → o ≡ Some x → IfSome o P → P x
IfSome_some P o x e holds = subst (λ z. IfSome z P) e holds

-- Where nothing is made of an option there is nothing in it.
pub option_map_none : {A B : Type 0} (f : A → B) (o : Option A) → option_map f o ≡ None → o ≡ None
option_map_none f None e = refl
option_map_none f (Some x) e = absurd (none-some (f x) (sym e))

-- With nothing to fall back on an option is itself.
pub option_or_none : {A : Type 0} (o : Option A) → option_or o None ≡ o
option_or_none None = refl
option_or_none (Some x) = refl

-- An option that is tested to hold a number.
pub option_eq_some : (o : Option ℕ) (n : ℕ) → IsTrue (option_eq nat_eq o (Some n)) → o ≡ Some n
option_eq_some None n e = absurd (true≢false (sym e))
option_eq_some (Some m) n e = ap Some ((unsigned_Decides m n).0 e)

-- An option put before a list is the option as a list, followed by the list.
pub cons_option_append : {A : Type 0} (o : Option A) (xs : List A) → cons_option o xs ≡ option_to_list o ++ xs
cons_option_append None xs = refl
cons_option_append (Some x) xs = refl

-- An option put before the empty list is the option as a list.
pub cons_option_nil : {A : Type 0} (o : Option A) → cons_option o [] ≡ option_to_list o
cons_option_nil None = refl
cons_option_nil (Some x) = refl

-- A test that gives no value of the two doesn't pass.
pub cond_none : {A : Type 0} (t : Bool) (x : A) → cond t (Some x) None ≡ None → t ≡ false
cond_none true x e = absurd (none-some x (sym e))
cond_none false x e = refl

-- Where the option behind a test has a value, both together do.
pub cond_is_some : {A : Type 0} (t : Bool) (x : A) (o : Option A) → IsSome o → IsSome (cond t (Some x) o)
cond_is_some true x o e = refl
cond_is_some false x o e = e

-- What holds of the value before a test and of any behind it holds of the value that is found.
pub cond_some_holds : {A : Type 0} (P : A → Type 0) (t : Bool) (x y : A) (o : Option A)
    → P x → (o ≡ Some y → P y) → cond t (Some x) o ≡ Some y → P y
cond_some_holds P true x y o here behind e = subst P (same_Some x y e) here
cond_some_holds P false x y o here behind e = behind e

-- What is found behind the same test, in options of which the second gives what the first does.
pub cond_some_more : {A : Type 0} (t : Bool) (x y : A) (o more : Option A)
    → (o ≡ Some y → more ≡ Some y) → cond t (Some x) o ≡ Some y → cond t (Some x) more ≡ Some y
cond_some_more true x y o more behind e = e
cond_some_more false x y o more behind e = behind e

-- A result that is `Ok` has one value.
pub Ok_same : {A E : Type 0} {r : Result A E} {x y : A} → r ≡ Ok x → r ≡ Ok y → x ≡ y
Ok_same one other = cc (one, other)

-- A result isn't both `Ok` and `Err`.
pub Ok_not_Err : {A E : Type 0} {r : Result A E} {x : A} {y : E} → r ≡ Ok x → r ≡ Err y → ⊥
Ok_not_Err one other = absurd (cc)
