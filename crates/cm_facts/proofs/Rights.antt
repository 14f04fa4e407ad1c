-- Sets of rights, and the bytes of names and addresses.
use Rattle.std.proofs.Common.{◌≡◌, ℕ, ◌<◌, ◌==◌, true, false, refl, arith, rules}
use Rattle.std.proofs.lemmas.Bool.{or_left}
use Rattle.cm_names.specs.declared.rights.Right.{Right}
use Rattle.cm_names.specs.declared.rights.Right.TheVariants.{Connect, Enumerate, Execute, GetAttributes, ModifyDirectory, ReadBytes, Traverse, UpdateAttributes, WriteBytes}
use Rattle.cm_names.specs.Rights.{RightSet, has, only, union, no_rights}
use Rattle.cm_names.specs.Urls.{is_url_byte}
use Rattle.cm_names.specs.Path.{is_part_byte}

-- A right is in the set of it alone.
pub has_only : (x : Right) → has (only x) x ≡ true
has_only Connect = refl
has_only Enumerate = refl
has_only Execute = refl
has_only GetAttributes = refl
has_only ModifyDirectory = refl
has_only ReadBytes = refl
has_only Traverse = refl
has_only UpdateAttributes = refl
has_only WriteBytes = refl

-- No right is in the empty set.
pub has_none : (x : Right) → has no_rights x ≡ false
has_none Connect = refl
has_none Enumerate = refl
has_none Execute = refl
has_none GetAttributes = refl
has_none ModifyDirectory = refl
has_none ReadBytes = refl
has_none Traverse = refl
has_none UpdateAttributes = refl
has_none WriteBytes = refl

-- A right of a set is in its union with another.
pub has_union : (x : Right) (r s : RightSet) → has r x ≡ true → has (union r s) x ≡ true
has_union Connect r s h = or_left r.connect s.connect h
has_union Enumerate r s h = or_left r.enumerate s.enumerate h
has_union Execute r s h = or_left r.execute s.execute h
has_union GetAttributes r s h = or_left r.get_attributes s.get_attributes h
has_union ModifyDirectory r s h = or_left r.modify_directory s.modify_directory h
has_union ReadBytes r s h = or_left r.read_bytes s.read_bytes h
has_union Traverse r s h = or_left r.traverse s.traverse h
has_union UpdateAttributes r s h = or_left r.update_attributes s.update_attributes h
has_union WriteBytes r s h = or_left r.write_bytes s.write_bytes h

-- A byte of an address is one of ASCII.
pub url_byte_low : (b : ℕ) → is_url_byte b ≡ true → b < 128
url_byte_low b h = grind (arith, rules)

-- A byte of an address is no space.
pub url_byte_no_space : (b : ℕ) → is_url_byte b ≡ true → (b == 32) ≡ false
url_byte_no_space b h = grind (arith, rules)

-- A byte of a part of a path is one of ASCII.
pub part_byte_low : (b : ℕ) → is_part_byte b ≡ true → b < 128
part_byte_low b h = grind (arith, rules)
