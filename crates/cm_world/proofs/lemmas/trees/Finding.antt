-- What a row that is found in a list passes.
use Rattle.std.proofs.Common.{◌≡◌, ℕ, List, [], ◌∷◌, Bool, true, false, cond, ◌&&◌, ◌==◌, Option, Some, find, refl, subst, IsTrue}
use Rattle.std.specs.List.{list_all}
use Rattle.std.specs.Cmp.{unsigned_Decides, first_so, second_so}
pub use Rattle.std.proofs.lemmas.Option.{same_Some as some_same, none-some as none_some}
use Rattle.cm_world.specs.declared.row.Row.{Row}
use Rattle.cm_world.specs.Rows.{row_of}

-- What is found by a test passes it, if it is the first item or what is found in the rest does.
found_by : {A : Type 0} (t : Bool) (p : A → Bool) (s r : A) (o : Option A) → p s ≡ t → (o ≡ Some r → IsTrue (p r)) → cond t (Some s) o ≡ Some r → IsTrue (p r)
found_by true p s r o here later e = subst (λ z. IsTrue (p z)) (some_same s r e) here
found_by false p s r o here later e = later e

-- what is found passes the test
pub find-passes : {A : Type 0} (p : A → Bool) (xs : List A) (r : A) → find p xs ≡ Some r → IsTrue (p r)
find-passes p [] r e = absurd (none_some r e)
find-passes p (s ∷ ss) r e = found_by (p s) p s r (find p ss) refl (find-passes p ss r) e

-- the row of an incarnation has it
pub row_of-inc : (rows : List Row) (i : ℕ) (r : Row) → row_of rows i ≡ Some r → r.inc ≡ i
row_of-inc rows i r e = (unsigned_Decides r.inc i).0 (find-passes (λ s. s.inc == i) rows r e)

-- What is found passes a test that all items pass, if so in the rest.
found_of_all : {A : Type 0} (t : Bool) (q : A → Bool) (s r : A) (o : Option A) (rest : Bool) → IsTrue (q s && rest) → (IsTrue rest → o ≡ Some r → IsTrue (q r)) → cond t (Some s) o ≡ Some r → IsTrue (q r)
found_of_all true q s r o rest all later e =
    subst (λ z. IsTrue (q z)) (some_same s r e) (first_so (q s) rest all)
found_of_all false q s r o rest all later e = later (second_so (q s) rest all) e

-- what all items pass, an item that is found passes
pub find-all : {A : Type 0} (p q : A → Bool) (xs : List A) (r : A) → IsTrue (list_all q xs) → find p xs ≡ Some r → IsTrue (q r)
find-all p q [] r all e = absurd (none_some r e)
find-all p q (s ∷ ss) r all e = found_of_all (p s) q s r (find p ss) (list_all q ss) all (find-all p q ss r) e
