-- Inside.
-- The order of a declaration's rows by name and kind, in which they are found by binary search.
use Rattle.std.specs.Prelude.{ℕ, List, [], Bool, ◌&&◌, Option, Some, None, slice_get}
use Rattle.std.specs.Ordering.{nat_cmp, ordering_then}
use Rattle.std.specs.declared.cmp.Ordering.{Ordering}
use Rattle.std.specs.Cmp.Lexicographic.{slice_cmp}
use Rattle.std.specs.Str.{bytes_eq}
use Rattle.cm_decl.specs.declared.kind.Kind.{Kind}
use Rattle.cm_decl.specs.Same.{same_kind}
use Rattle.cm_table.specs.declared.named.NameLookup.{NameLookup}
use Rattle.cm_table.specs.Offers.{kind_rank}
use Rattle.cm_table.specs.Orders.{place_cmp_by, IsSplitBy, IsOrderBy}

-- what a row is looked for by: its name, and the rank of its kind
pub record NameKey : Type 0 where
  pub name : List ℕ
  pub kind : ℕ

-- the key that the code looks for
abbrev pub lookup_key : NameLookup → NameKey
lookup_key s = record { name = s.name.now; kind = s.kind }

-- the key for this kind and name
abbrev pub sought_key : Kind → List ℕ → NameKey
sought_key kind name = record { name = name; kind = kind_rank kind }

-- the order of keys: by names, then by kinds
abbrev pub name_cmp : NameKey → NameKey → Ordering
name_cmp a b = ordering_then (slice_cmp nat_cmp a.name b.name) (nat_cmp a.kind b.kind)

-- the key of a row, or one of an empty name where there is none
abbrev pub name_key : {X : Type 0} → (X → List ℕ) → (X → Kind) → Option X → NameKey
name_key name_in kind_in None = record { name = []; kind = 0 }
name_key name_in kind_in (Some x) = record { name = name_in x; kind = kind_rank (kind_in x) }

-- the key of the row at a place
abbrev pub name_key_at : {X : Type 0} → (X → List ℕ) → (X → Kind) → List X → ℕ → NameKey
name_key_at name_in kind_in items k = name_key name_in kind_in (slice_get items k)

-- whether a row has this kind and name
abbrev pub is_named : {X : Type 0} → (X → List ℕ) → (X → Kind) → Kind → List ℕ → X → Bool
is_named name_in kind_in kind name x = same_kind (kind_in x) kind && bytes_eq (name_in x) name

-- the order of places by the keys of their rows, then by the places themselves
abbrev pub named_cmp : {X : Type 0} → (X → List ℕ) → (X → Kind) → List X → ℕ → ℕ → Ordering
named_cmp name_in kind_in items a b = place_cmp_by (name_key name_in kind_in) name_cmp items a b

-- the first n places have keys before the one that is looked for, and the others don't: where a binary
-- search ends
abbrev pub IsNameSplit : {X : Type 0} → (X → List ℕ) → (X → Kind) → List X → List ℕ → NameKey → ℕ → Type 0
IsNameSplit name_in kind_in items places w n = IsSplitBy (name_key name_in kind_in) name_cmp items places w n

-- the places of all rows, in that order
abbrev pub IsNameOrder : {X : Type 0} → (X → List ℕ) → (X → Kind) → List X → List ℕ → Type 0
IsNameOrder name_in kind_in items places = IsOrderBy (name_key name_in kind_in) name_cmp items places
