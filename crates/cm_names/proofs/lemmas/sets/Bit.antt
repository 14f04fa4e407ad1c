-- A set of rights as nine bits.
use Rattle.std.proofs.Common.{◌≡◌, ℕ, ◌<◌, Bool, true, false, ◌&&◌, ◌||◌, ◌==◌, min, max, refl, sym, ap, ◌∙◌, arith, eqb-true, eq-eqb}
use Rattle.std.specs.Cmp.{both_ways}
use Rattle.std.specs.Int.{bit_at}
use Rattle.std.specs.Int.RustNames.{bit_and, bit_or}
use Rattle.std.proofs.lemmas.Bool.{and_parts}
use Rattle.std.proofs.lemmas.Nat.{or_lt, and_le_r}
use Rattle.std.proofs.lemmas.Nat.Bits.{bit_at_and, bit_at_or, bit_at-lt}
use Rattle.cm_names.specs.Rights.{union, implies, contains}
use Rattle.cm_names.specs.RightBits.{has_bit, set_of_bits, bits_of_set, bits_back}

-- ---- union

-- The greater of two bits is 1 exactly where one of them is.
max_or : (x y : ℕ) → x < 2 → y < 2 → (max x y == 1) ≡ ((x == 1) || (y == 1))
max_or x y h k = grind arith

-- A bit of two numbers' union is set exactly where it is set in one of them.
has_bit-or : (a b i : ℕ) → has_bit (bit_or a b) i ≡ (has_bit a i || has_bit b i)
has_bit-or a b i =
    ap (λ n. n == 1) (bit_at_or a b i) ∙ max_or (bit_at a i) (bit_at b i) (bit_at-lt a i) (bit_at-lt b i)

-- The rights that two numbers' bits say together are those of either.
pub set_of_bits-or : (a b : ℕ) → set_of_bits (bit_or a b) ≡ union (set_of_bits a) (set_of_bits b)
set_of_bits-or a b =
    rw (has_bit-or a b 0, has_bit-or a b 1, has_bit-or a b 2, has_bit-or a b 3, has_bit-or a b 4, has_bit-or a b 5, has_bit-or a b 6, has_bit-or a b 7, has_bit-or a b 8) refl

-- Two sets of nine bits have nine bits when they are put together.
pub or_below : (a b : ℕ) → a < 512 → b < 512 → bit_or a b < 512
or_below a b h k = or_lt 9 a b h k

-- ---- contains

-- The lesser of two bits is 1 exactly where both are.
min_and : (x y : ℕ) → x < 2 → y < 2 → (min x y == 1) ≡ ((x == 1) && (y == 1))
min_and x y h k = grind arith

-- A bit of what two numbers have in common is set exactly where it is set in both.
has_bit-and : (a b i : ℕ) → has_bit (bit_and a b) i ≡ (has_bit a i && has_bit b i)
has_bit-and a b i =
    ap (λ n. n == 1) (bit_at_and a b i) ∙ min_and (bit_at a i) (bit_at b i) (bit_at-lt a i) (bit_at-lt b i)

-- Where two tests together pass as the second does, the second implies the first.
implied : (x y : Bool) → (x && y) ≡ y → implies y x ≡ true
implied true true h = refl
implied true false h = refl
implied false true h = h
implied false false h = refl

-- Where the second of two tests implies the first, both together pass as the second does.
kept : (x y : Bool) → implies y x ≡ true → (x && y) ≡ y
kept true true h = refl
kept true false h = refl
kept false true h = h
kept false false h = refl

-- Where all bits of a number are in another, each of its bits implies that of the other.
bit_implied : (a b i : ℕ) → bit_and a b ≡ b → implies (has_bit b i) (has_bit a i) ≡ true
bit_implied a b i e =
    implied (has_bit a i) (has_bit b i) (sym (has_bit-and a b i) ∙ ap (λ n. has_bit n i) e)

-- Where a bit implies that of another number, it is set in what both have in common as it was.
bit_kept : (a b i : ℕ) → implies (has_bit b i) (has_bit a i) ≡ true → has_bit (bit_and a b) i ≡ has_bit b i
bit_kept a b i h = has_bit-and a b i ∙ kept (has_bit a i) (has_bit b i) h

-- the second's bits are all in the first, so each of its rights is
contained : (a b : ℕ) → bit_and a b ≡ b → contains (set_of_bits a) (set_of_bits b) ≡ true
contained a b e =
    rw (bit_implied a b 0 e, bit_implied a b 1 e, bit_implied a b 2 e, bit_implied a b 3 e, bit_implied a b 4 e, bit_implied a b 5 e, bit_implied a b 6 e, bit_implied a b 7 e, bit_implied a b 8 e) refl

-- What a number has in common with one below 512 is below 512.
and_below : (a b : ℕ) → b < 512 → bit_and a b < 512
and_below a b h = omega (arith, and_le_r a b)

-- Bits that contain others have just these in common with them.
masked : (a b : ℕ) → b < 512 → contains (set_of_bits a) (set_of_bits b) ≡ true → bit_and a b ≡ b
masked a b below h =
    let h0 = and_parts _ _ h in
    let h1 = and_parts _ _ h0.1 in
    let h2 = and_parts _ _ h1.1 in
    let h3 = and_parts _ _ h2.1 in
    let h4 = and_parts _ _ h3.1 in
    let h5 = and_parts _ _ h4.1 in
    let h6 = and_parts _ _ h5.1 in
    let h7 = and_parts _ _ h6.1 in
    let h8 = and_parts _ _ h7.1 in
    let same : set_of_bits (bit_and a b) ≡ set_of_bits b = rw (bit_kept a b 0 h0.0, bit_kept a b 1 h1.0, bit_kept a b 2 h2.0, bit_kept a b 3 h3.0, bit_kept a b 4 h4.0, bit_kept a b 5 h5.0, bit_kept a b 6 h6.0, bit_kept a b 7 h7.0, bit_kept a b 8 h8.0) refl in
    sym (bits_back (bit_and a b) (and_below a b below)) ∙ ap bits_of_set same ∙ bits_back b below

-- One number has all bits of another of nine exactly where its rights contain the other's.
pub contains_bits : (a b : ℕ) → b < 512 → (bit_and a b == b) ≡ contains (set_of_bits a) (set_of_bits b)
contains_bits a b below =
    both_ways (bit_and a b == b) (contains (set_of_bits a) (set_of_bits b)) (λ e. contained a b (eqb-true _ _ e)) (λ h. eq-eqb _ _ (masked a b below h))
