use Rattle.std.proofs.Common.{◌≡◌, ◌≢◌, ℕ, zero, suc, ◌+◌, ◌<◌, List, [], ◌∷◌, ◌++◌, length, take, set, Bool, true, false, not, ◌||◌, true≢false, Some, refl, sym, ◌∙◌, ap, subst, IsTrue, inl, inr, ◌⊎◌, arith, get_or, nat_eq}
use Rattle.std.specs.Prelude.{cond}
use Rattle.std.specs.Prelude.{slice_get, count_by}
use Rattle.std.specs.List.{list_any, list_all}
use Rattle.std.proofs.lemmas.List.Folds.{list_any-append}
use Rattle.std.proofs.lemmas.Option.{slice_get_within}
use Rattle.std.proofs.lemmas.List.{append-nil, append_assoc, take_more, length-append, length-set, take-append-le, take_all, get_or-set_same, get_or-set_other}
pub use Rattle.std.proofs.lemmas.Bool.{eqb-true as same_nat, or_left, or_right}
pub use Rattle.std.proofs.Math.Bool.{or-false as or_none}
use Rattle.std.proofs.lemmas.Bool.Decides.{nat_tests}
use Rattle.std.proofs.lemmas.List.Sums.{sum_by-set}
use Rattle.cm_deps.specs.Edges.{holds, is_set, row, IsNext, IsReverseTopological, IsListing, IsSettled, Extends}

-- Each number passes the test of being equal to itself.
pub nat_eq-refl : (x : ℕ) → IsTrue (nat_eq x x)
nat_eq-refl x = grind (arith, nat_tests)

-- the last of a longer list is the new node
pub snoc_at : (xs : List ℕ) (y k x : ℕ) → slice_get (xs ++ y ∷ []) k ≡ Some x → (slice_get xs k ≡ Some x) ⊎ ((k ≡ length xs) × (x ≡ y))
snoc_at [] y zero x e = let same : y ≡ x = cc in inr (refl, sym same)
snoc_at [] y (suc k) x e = let never : ⊥ = cc in absurd never
snoc_at (z ∷ zs) y zero x e = inl e
snoc_at (z ∷ zs) y (suc k) x e = elim (snoc_at zs y k x e) as (λ _. (slice_get zs k ≡ Some x) ⊎ ((suc k ≡ suc (length zs)) × (x ≡ y))) [
  | inl at ↦ inl at
  | inr last ↦ inr (ap suc last.0, last.1)
]

-- A list with one more node at its end holds what it held before, and that node.
pub holds_push : (xs : List ℕ) (y x : ℕ) → holds (xs ++ y ∷ []) x ≡ (holds xs x || nat_eq x y)
holds_push xs y x = list_any-append (nat_eq x) xs (y ∷ []) ∙ ap (λ b. list_any (nat_eq x) xs || b) (or_none (nat_eq x y))

-- a test that not all pass is failed by one of them
pub one_fails : (p : ℕ → Bool) (xs : List ℕ) → list_all p xs ≡ false → (y : ℕ) × IsTrue (holds xs y) × (p y ≡ false)
one_fails p [] h = absurd (true≢false h)
one_fails p (x ∷ xs) h = by (p x) refl (one_fails p xs)
  where
    by : (b : Bool) → p x ≡ b → (list_all p xs ≡ false → (y : ℕ) × IsTrue (holds xs y) × (p y ≡ false)) → (y : ℕ) × IsTrue (holds (x ∷ xs) y) × (p y ≡ false)
    by false fails later = (x, or_left (nat_eq x x) (holds xs x) (nat_eq-refl x), fails)
    by true passes later =
        let rest : list_all p xs ≡ false = rw passes at h in
        let found : (y : ℕ) × IsTrue (holds xs y) × (p y ≡ false) = later rest in
        (found.0, or_right (nat_eq found.0 x) (holds xs found.0) found.1, found.2)

-- what all pass each passes
pub each_passes : (p : ℕ → Bool) (xs : List ℕ) → list_all p xs ≡ true → (y : ℕ) → IsTrue (holds xs y) → IsTrue (p y)
each_passes p [] h y none = absurd (true≢false (sym none))
each_passes p (x ∷ xs) h y here = by (p x) refl (nat_eq y x) refl (each_passes p xs)
  where
    by : (b : Bool) → p x ≡ b → (e : Bool) → nat_eq y x ≡ e → (list_all p xs ≡ true → (z : ℕ) → IsTrue (holds xs z) → IsTrue (p z)) → IsTrue (p y)
    by false fails e same later = let never : false ≡ true = rw fails at h in absurd (true≢false (sym never))
    by true passes true same later = subst (λ z. IsTrue (p z)) (sym (same_nat y x same)) passes
    by true passes false other later =
        let rest : list_all p xs ≡ true = rw passes at h in
        let there : IsTrue (holds xs y) = rw other at here in later rest y there

-- With one node more that comes next, the order is still one by dependents.
pub grown_push : (after : List (List ℕ)) (order : List ℕ) (y : ℕ) → IsReverseTopological after order → IsNext after order y → IsReverseTopological after (order ++ y ∷ [])
grown_push after order y grown next k x at = elim (snoc_at order y k x at) as (λ _. IsNext after (take k (order ++ y ∷ [])) x) [
  | inl old ↦ (let within : k < length order = slice_get_within order k x old in
      subst (λ prefix. IsNext after prefix x) (sym (take-append-le k order (y ∷ []) (omega arith))) (grown k x old))
  | inr last ↦ (let whole : take k (order ++ y ∷ []) ≡ order = take-append-le k order (y ∷ []) (omega arith) ∙ take_all k order (omega arith) in
      subst (λ prefix. IsNext after prefix x) (sym whole) (subst (λ z. IsNext after order z) (sym last.1) next))
]

-- a list extends itself
pub same_extends : (order : List ℕ) → Extends order order
same_extends order = ([], sym (append-nil order))

-- With the flag of one more node set, the flags tell exactly what the list with that node holds.
pub flag_more : (queued : List Bool) (order : List ℕ) (y : ℕ) → y < length queued → ((x : ℕ) → is_set queued x ≡ holds order x) → (x : ℕ) → is_set (set queued y true) x ≡ holds (order ++ y ∷ []) x
flag_more queued order y within listed x = by (nat_eq x y) refl
  where
    by : (b : Bool) → nat_eq x y ≡ b → is_set (set queued y true) x ≡ holds (order ++ y ∷ []) x
    by true same =
        let here : x ≡ y = same_nat x y same in
        let set_here : is_set (set queued y true) x ≡ true = subst (λ z. is_set (set queued y true) z ≡ true) (sym here) (get_or-set_same queued y true false within) in
        let held : holds (order ++ y ∷ []) x ≡ true = holds_push order y x ∙ or_right (holds order x) (nat_eq x y) same in
        set_here ∙ sym held
    by false other =
        let apart : x ≢ y = λ e. true≢false (sym (subst (λ z. IsTrue (nat_eq x z)) e (nat_eq-refl x)) ∙ other) in
        get_or-set_other queued y x true false apart ∙ listed x ∙ sym (or_none (holds order x)) ∙ ap (λ b. holds order x || b) (sym other) ∙ sym (holds_push order y x)

-- a node that isn't listed and depends only on done nodes can be listed
pub listing_more : (after : List (List ℕ)) (order : List ℕ) (queued done : List Bool) (x : ℕ) → IsListing after order queued done → x < length after → is_set queued x ≡ false → list_all (is_set done) (row after x) ≡ true → IsListing after (order ++ x ∷ []) (set queued x true) done
listing_more after order queued done x state inside unlisted ready =
    let within : x < length queued = omega arith in
    record {
      queued_size = length-set queued x true ∙ state.queued_size;
      grown = grown_push after order x state.grown (record {
        inside = inside;
        new = sym (state.listed x) ∙ unlisted;
        ready = λ y on. state.known y (each_passes (is_set done) (row after x) ready y on);
      });
      listed = flag_more queued order x within state.listed;
      known = λ y is. holds_push order x y ∙ or_left (holds order y) (nat_eq y x) (state.known y is);
      counted = fewer;
    }
  where
    moved : count_by not (set queued x true) + cond (not (get_or queued x false)) 1 0 ≡ count_by not queued + 0
    moved = sum_by-set (λ b. cond (not b) 1 0) queued x true false (omega arith)

    fewer : count_by not (set queued x true) + length (order ++ x ∷ []) ≡ length after
    fewer =
        let one : count_by not (set queued x true) + 1 ≡ count_by not queued + 0 = rw unlisted at moved in
        omega (arith, length-append order (x ∷ []), state.counted)

-- what is settled stays so while nodes are listed
pub settled_longer : (after : List (List ℕ)) (order longer : List ℕ) (done : List Bool) (x : ℕ) → Extends order longer → IsSettled after order done x → IsSettled after longer done x
settled_longer after order longer done x more (inl here) =
    inl (ap (λ l. holds l x) more.1 ∙ list_any-append (nat_eq x) order more.0 ∙ or_left (holds order x) (list_any (nat_eq x) more.0) here)
settled_longer after order longer done x more (inr waits) = inr waits

-- A list that extends one which extends another extends that other too.
pub extends_on : (a b c : List ℕ) → Extends a b → Extends b c → Extends a c
extends_on a b c first second = (first.0 ++ second.0, second.1 ∙ ap (λ l. l ++ second.0) first.1 ∙ append_assoc a first.0 second.0)

-- a list holds each of its elements
pub holds_at : (xs : List ℕ) (k : ℕ) → k < length xs → IsTrue (holds xs (get_or xs k 0))
holds_at [] k within = absurd (omega arith)
holds_at (x ∷ xs) zero within = or_left (nat_eq x x) (holds xs x) (nat_eq-refl x)
holds_at (x ∷ xs) (suc k) within = or_right (nat_eq (get_or xs k 0) x) (holds xs (get_or xs k 0)) (holds_at xs k (omega arith))

-- what is so of the elements before an index and of that at it is so of those up to it
pub prefix_more : (P : ℕ → Type 0) (xs : List ℕ) (k : ℕ) → k < length xs → ((y : ℕ) → IsTrue (holds (take k xs) y) → P y) → P (get_or xs k 0) → (y : ℕ) → IsTrue (holds (take (k + 1) xs) y) → P y
prefix_more P xs k within prefix here y held = by (nat_eq y (get_or xs k 0)) refl
  where
    split : holds (take (k + 1) xs) y ≡ (holds (take k xs) y || nat_eq y (get_or xs k 0))
    split = ap (λ l. holds l y) (take_more xs k 0 within) ∙ holds_push (take k xs) (get_or xs k 0) y

    by : (b : Bool) → nat_eq y (get_or xs k 0) ≡ b → P y
    by true same = subst P (sym (same_nat y (get_or xs k 0) same)) here
    by false other = prefix y (sym (or_none (holds (take k xs) y)) ∙ ap (λ b. holds (take k xs) y || b) (sym other) ∙ sym split ∙ held)
