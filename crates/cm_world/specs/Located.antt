-- Inside.
-- Where a moniker leads in a tree of rows.
use Rattle.std.specs.Prelude.{ℕ, ◌+◌, List, [], ◌∷◌, Some, None, if◌then◌else◌}
use Rattle.cm_names.specs.declared.child.ChildName.{ChildName}
use Rattle.cm_world.specs.declared.row.Row.{Row}
use Rattle.cm_world.specs.declared.store.Located.{Located}
use Rattle.cm_world.specs.declared.store.Located.TheVariants.{Found, Unresolved, Missing}
use Rattle.cm_world.specs.Offering.{told_index}
use Rattle.cm_world.specs.Rows.{is_resolved, child_of}

-- what looking a moniker up comes to, where row i was reached by k names and these are left: the row,
-- how many names were found (kept within 32 bits), or the row that isn't resolved
abbrev pub located_from : List Row → ℕ → ℕ → List ChildName → Located
located_from rows i k [] = Found i
located_from rows i k (c ∷ cs) =
    if is_resolved rows i then
    elim (child_of rows i c) as (λ _. Located) [
      | None ↦ Missing (told_index k)
      | Some j ↦ located_from rows j (k + 1) cs
    ]
    else Unresolved i
