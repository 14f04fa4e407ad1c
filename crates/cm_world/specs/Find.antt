-- Promised.
-- The reply to a find, which looks an instance up by its moniker.
use Rattle.std.specs.Prelude.{ℕ, List, [], ◌∷◌, ◌++◌, Some, None, if◌then◌else◌}
use Rattle.cm_names.specs.declared.child.ChildName.{ChildName}
use Rattle.cm_world.specs.declared.row.Row.{Row}
use Rattle.cm_world.specs.declared.reply.Reply.{Reply}
use Rattle.cm_world.specs.declared.reply.Reply.TheVariants.{Found, Need, Shut, NotFound}
use Rattle.cm_world.specs.Rows.{is_resolved, is_closed, child_of}

-- the reply to a find that has come to row i by the names of the prefix, and has these names left: the
-- row, the last instance that there is, or a row that has to be resolved on the way
abbrev pub found_from : List Row → ℕ → List ChildName → List ChildName → Reply
found_from rows i prefix [] = Found i
found_from rows i prefix (c ∷ cs) =
    if is_resolved rows i then
    elim (child_of rows i c) as (λ _. Reply) [
      | None ↦ NotFound (record { parts = prefix })
      | Some j ↦ found_from rows j (prefix ++ c ∷ []) cs
    ]
    else if is_closed rows i then Shut i else Need i
