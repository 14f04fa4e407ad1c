-- Promised.
-- Where the offer stands by which a row gets what it wants from its parent.
use Rattle.std.specs.Prelude.{ℕ, ◌-◌, ◌^◌, List, Option, Some, None, min, position}
use Rattle.std.specs.Prelude.{option_map, option_and_then}
use Rattle.cm_names.specs.declared.child.ChildName.{ChildName}
use Rattle.cm_decl.specs.declared.decl.Decl.{Decl}
use Rattle.cm_decl.specs.declared.kind.Kind.{Kind}
use Rattle.cm_world.specs.declared.row.Row.{Row}
use Rattle.cm_world.specs.Rows.{row_of, decl_of}
use Rattle.cm_world.specs.NextStation.{is_offer_to}

-- the index of the first offer of that kind and target name to a child or to its collection
abbrev pub offer_index : Decl → Kind → List ℕ → ChildName → Option ℕ
offer_index d kind name c = position (is_offer_to c kind name) d.offers

-- the index of the offer to a row, in this declaration of its parent
abbrev pub index_for : Row → Kind → List ℕ → Decl → Option ℕ
index_for r kind name d = option_and_then (offer_index d kind name) r.name

-- an index as it is told, which is 2 ^ 32 - 1 for all that are larger
abbrev pub told_index : ℕ → ℕ
told_index k = min k (2 ^ 32 - 1)

-- the index of the offer to a row in its parent's declaration; none for the root, and where the parent
-- isn't resolved
abbrev pub offer_for : List Row → Kind → List ℕ → Row → Option ℕ
offer_for rows kind name r = option_and_then (index_for r kind name) (option_and_then (decl_of rows) r.parent)

-- the index of the offer to this incarnation in its parent's declaration, kept within 32 bits; none
-- where it doesn't live
abbrev pub offer_at : List Row → ℕ → Kind → List ℕ → Option ℕ
offer_at rows i kind name = option_map told_index (option_and_then (offer_for rows kind name) (row_of rows i))
