-- Tests that are combined, and what one of them says of another.
use Rattle.std.proofs.Common.{◌≡◌, Bool, true, false, not, ◌&&◌, ◌||◌, ◌↔◌, IsTrue, refl, sym, true≢false}

-- Where one of two tests doesn't pass, the first doesn't.
pub or_false_first : (a b : Bool) → (a || b) ≡ false → a ≡ false
or_false_first true b e = e
or_false_first false b e = refl

-- Where one of two tests doesn't pass, the second doesn't.
pub or_false_second : (a b : Bool) → (a || b) ≡ false → b ≡ false
or_false_second true b e = absurd (true≢false e)
or_false_second false b e = e

-- Where one of two tests passes and the first doesn't, the second does.
pub or_true_second : (a b : Bool) → a ≡ false → (a || b) ≡ true → b ≡ true
or_true_second true b none one = absurd (true≢false none)
or_true_second false b none one = one

-- Three tests of which one passes, taken two and one.
pub or_assoc : (a b c : Bool) → (a || (b || c)) ≡ ((a || b) || c)
or_assoc true b c = refl
or_assoc false b c = refl

-- The first two of three tests change places.
pub or_swap : (a b c : Bool) → (a || (b || c)) ≡ (b || (a || c))
or_swap true true c = refl
or_swap true false c = refl
or_swap false b c = refl

-- With a test that never passes both never do.
pub and_false : (a : Bool) → (a && false) ≡ false
and_false true = refl
and_false false = refl

-- Two tests pass and a third doesn't.
pub and_and_not : (a b c : Bool) → a ≡ true → b ≡ true → c ≡ false → (a && b && not c) ≡ true
and_and_not true true false one two three = refl
and_and_not true true true one two three = absurd (true≢false three)
and_and_not true false c one two three = absurd (true≢false (sym two))
and_and_not false b c one two three = absurd (true≢false (sym one))

-- A test that follows from another, as one test.
pub not_or : (a b : Bool) → (IsTrue a → IsTrue b) → IsTrue (not a || b)
not_or true b then = then refl
not_or false b then = refl

-- A test doesn't pass along with its opposite.
pub not_both : (a : Bool) → IsTrue a → IsTrue (not a) → ⊥
not_both true one other = true≢false (sym other)
not_both false one other = true≢false (sym one)

-- A test that passes and doesn't gives anything.
pub true_and_false : {A : Type 0} (a : Bool) → a ≡ true → a ≡ false → A
true_and_false true one other = absurd (true≢false other)
true_and_false false one other = absurd (true≢false (sym one))

-- A test that never passes says what never holds.
pub false_iff : {P : Type 0} → (P → ⊥) → IsTrue false ↔ P
false_iff never = (λ passes. absurd (true≢false (sym passes)), λ holds. absurd (never holds))
