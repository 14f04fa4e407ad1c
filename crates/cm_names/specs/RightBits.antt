-- Promised.
-- A set of rights as nine bits of a number.
use Rattle.std.specs.Prelude.{◌≡◌, ℕ, ◌+◌, ◌*◌, ◌<◌, Bool, true, ◌==◌, if◌then◌else◌}
use Rattle.std.specs.Int.{bit_at}
use Rattle.std.proofs.Common.{refl, eqb-true}
use Rattle.std.proofs.lemmas.Bool.{agree_below_at}
use Rattle.cm_names.specs.Rights.{RightSet}

-- whether the i-th bit of a number is 1
abbrev pub has_bit : ℕ → ℕ → Bool
has_bit n i = bit_at n i == 1

-- the rights that the bits of a number say, in their order from the lowest bit on
abbrev pub set_of_bits : ℕ → RightSet
set_of_bits n = record {
  connect = has_bit n 0;
  enumerate = has_bit n 1;
  execute = has_bit n 2;
  get_attributes = has_bit n 3;
  modify_directory = has_bit n 4;
  read_bytes = has_bit n 5;
  traverse = has_bit n 6;
  update_attributes = has_bit n 7;
  write_bytes = has_bit n 8;
}

-- a bit for a truth value: 1 for true
abbrev pub bit_of : Bool → ℕ
bit_of b = if b then 1 else 0

-- the number whose bits say these rights
abbrev pub bits_of_set : RightSet → ℕ
bits_of_set r =
    bit_of r.connect + 2 * (bit_of r.enumerate + 2 * (bit_of r.execute + 2 * (bit_of r.get_attributes
    + 2 * (bit_of r.modify_directory + 2 * (bit_of r.read_bytes + 2 * (bit_of r.traverse
    + 2 * (bit_of r.update_attributes + 2 * bit_of r.write_bytes)))))))

-- nine bits come back from their set: all 512 cases are computed
pub bits_back : (n : ℕ) → n < 512 → bits_of_set (set_of_bits n) ≡ n
bits_back n below =
    eqb-true _ _ (agree_below_at (λ k. bits_of_set (set_of_bits k) == k) (λ _. true) 512 n refl below)
