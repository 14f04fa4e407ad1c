-- The changes of a table leave its rows orderly.
use Rattle.std.proofs.Common.{true≢false, refl, inl}
use Rattle.cm_world.specs.declared.action.Outcome.{Outcome}
use Rattle.cm_world.specs.declared.action.Outcome.TheVariants.{Started, Stopped, Killed}
use Rattle.cm_world.specs.End.{end_row, set_closing}
use Rattle.cm_table.specs.declared.change.Change.{Change}
use Rattle.cm_table.specs.declared.change.Change.TheVariants.{On, Pending, Closing, Doomed, Shut, End, Resolve}
use Rattle.cm_table.specs.Change.{change_row, IsSafe, IsSparing}
use Rattle.cm_trees.proofs.rows.Orderly.{IsKeeping}
use Rattle.cm_table.proofs.lemmas.indexes.Indexing.{SparesRows}
use Rattle.cm_trees.proofs.rows.Taking.{keeps_taken}

-- an end keeps a row's place and its declaration
keeping_end : (o : Outcome) → IsKeeping (end_row o)
keeping_end Started = record { inc = λ r. refl; parent = λ r. refl; name = λ r. refl; doomed = λ r h. h; resolved = λ r h. h; valid = λ r d h. inl h }
keeping_end Stopped = record { inc = λ r. refl; parent = λ r. refl; name = λ r. refl; doomed = λ r h. h; resolved = λ r h. h; valid = λ r d h. inl h }
keeping_end Killed = record { inc = λ r. refl; parent = λ r. refl; name = λ r. refl; doomed = λ r h. h; resolved = λ r h. h; valid = λ r d h. inl h }
keeping_end _ = record { inc = λ r. refl; parent = λ r. refl; name = λ r. refl; doomed = λ r h. h; resolved = λ r h. h; valid = λ r d h. inl h }

-- A safe change of a row keeps its place and its declaration, as an end does.
pub keeping : (c : Change) → IsSafe c → IsKeeping (change_row c)
keeping (On on) safe = record { inc = λ r. refl; parent = λ r. refl; name = λ r. refl; doomed = λ r h. h; resolved = λ r h. h; valid = λ r d h. inl h }
keeping (Pending pending) safe = record { inc = λ r. refl; parent = λ r. refl; name = λ r. refl; doomed = λ r h. h; resolved = λ r h. h; valid = λ r d h. inl h }
keeping Closing safe = record { inc = λ r. refl; parent = λ r. refl; name = λ r. refl; doomed = λ r h. h; resolved = λ r h. h; valid = λ r d h. inl h }
keeping Doomed safe = record { inc = λ r. refl; parent = λ r. refl; name = λ r. refl; doomed = λ r h. absurd (true≢false h); resolved = λ r h. h; valid = λ r d h. inl h }
keeping Shut safe = record { inc = λ r. refl; parent = λ r. refl; name = λ r. refl; doomed = λ r h. h; resolved = λ r h. h; valid = λ r d h. inl h }
keeping (End o) safe = keeping_end o
keeping (Resolve absolute d) safe = keeps_taken absolute d safe

-- The end of an action keeps places, parents, names and who is doomed.
spares_end : (o : Outcome) → SparesRows (end_row o)
spares_end Started = record { inc = λ r. refl; parent = λ r. refl; name = λ r. refl; doomed = λ r. refl }
spares_end Stopped = record { inc = λ r. refl; parent = λ r. refl; name = λ r. refl; doomed = λ r. refl }
spares_end Killed = record { inc = λ r. refl; parent = λ r. refl; name = λ r. refl; doomed = λ r. refl }
spares_end _ = record { inc = λ r. refl; parent = λ r. refl; name = λ r. refl; doomed = λ r. refl }

-- a mark to be shut down dooms no row
pub spares_closing : SparesRows set_closing
spares_closing = record { inc = λ r. refl; parent = λ r. refl; name = λ r. refl; doomed = λ r. refl }

-- A change that puts no mark spares rows from marks.
pub spares : (c : Change) → IsSparing c → SparesRows (change_row c)
spares (On on) sparing = record { inc = λ r. refl; parent = λ r. refl; name = λ r. refl; doomed = λ r. refl }
spares (Pending pending) sparing = record { inc = λ r. refl; parent = λ r. refl; name = λ r. refl; doomed = λ r. refl }
spares Closing sparing = absurd sparing
spares Doomed sparing = absurd sparing
spares Shut sparing = record { inc = λ r. refl; parent = λ r. refl; name = λ r. refl; doomed = λ r. refl }
spares (End o) sparing = spares_end o
spares (Resolve absolute d) sparing = record { inc = λ r. refl; parent = λ r. refl; name = λ r. refl; doomed = λ r. refl }
