use Rattle.std.specs.Option.{option_copied}
use Rattle.cm_table.proofs.lemmas.monikers.Hanging.{AreHung}
use Rattle.cm_table.proofs.prepared.hang_all.Given as goal

abbrev pub invariant-loop-slot : goal.invariant-loop-slot
invariant-loop-slot l = AreHung (option_copied l.above) l.fn.slots.items l.slot-items l.slot-index
