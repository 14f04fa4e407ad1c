-- Inside.
-- Children found by their names: the word of a name, and what an index leads to.
use Rattle.std.specs.Prelude.{ℕ, ◌*◌, ◌%◌, ◌^◌, List, Bool, false, not, Option, None, Some, if◌then◌else◌}
use Rattle.std.specs.Prelude.{option_and_then, fold, bit_xor}
use Rattle.std.specs.Option.{option_map_or}
use Rattle.std.specs.Ordering.{nat_cmp}
use Rattle.std.specs.BTreeMap.{BTreeMap, get}
use Rattle.cm_names.specs.declared.child.ChildName.{ChildName}
use Rattle.cm_decl.specs.Same.{same_child}
use Rattle.cm_table.specs.declared.by_name.NamedChild.{NamedChild}
use Rattle.cm_table.specs.declared.by_name.ChildrenByName.{ChildrenByName}
use Rattle.cm_table.specs.Names.{child_cmp}

-- ---- words

-- the word of 64 bits with the bytes of a text, as Fowler, Noll and Vo make it
abbrev pub with_text : ℕ → List ℕ → ℕ
with_text word text = fold (λ h b. (bit_xor h b * 1099511628211) % 2 ^ 64) word text

-- the word of a collection's name, or 0 where there is none
abbrev pub coll_word : Option (List ℕ) → ℕ
coll_word None = 0
coll_word (Some coll) = with_text 0 coll

-- the word of a child's name: of its collection's bytes, and then of its own
abbrev pub word_of : ChildName → ℕ
word_of c = with_text (coll_word c.coll) c.name

-- ---- children

-- a child of this name, so far above the base
abbrev pub child_at : ChildName → ℕ → NamedChild
child_at name above = record { name = name; above = above }

-- how far the child is above the base, where it has this name
abbrev pub above_of : NamedChild → ChildName → Option ℕ
above_of n c = if same_child n.name c then Some n.above else None

-- the same of the first child of the name's word
abbrev pub first_named : BTreeMap ℕ NamedChild → ChildName → Option ℕ
first_named first c = option_and_then (λ n. above_of n c) (get nat_cmp first (word_of c))

-- the first number that is there
abbrev pub led_by : Option ℕ → Option ℕ → Option ℕ
led_by None other = other
led_by (Some n) other = Some n

-- how far the child of this name is above the base: the first one of its word, or else one that is found by
-- the order of names
abbrev pub led : BTreeMap ℕ NamedChild → BTreeMap ChildName ℕ → ChildName → Option ℕ
led first others c = led_by (first_named first c) (get child_cmp others c)

-- the same by an index
abbrev pub led_to : ChildrenByName → ChildName → Option ℕ
led_to x c = led x.first x.others c

-- whether the first child of a word, if there is one, has another name
abbrev pub is_taken : Option NamedChild → ChildName → Bool
is_taken o c = option_map_or (λ n. not (same_child n.name c)) o false

-- whether it has this name
abbrev pub is_own : Option NamedChild → ChildName → Bool
is_own o c = option_map_or (λ n. same_child n.name c) o false
