use Rattle.cm_table.specs.Slots.{flat}
use Rattle.cm_table.proofs.lemmas.flags.Kids.{AreFlaggedUpto, room}
use Rattle.cm_table.proofs.marking.open_behind.Given as goal

-- each child behind the first one is flagged, or still comes
abbrev pub invariant-seek : goal.invariant-seek
invariant-seek l = AreFlaggedUpto l.kind (flat l.blocks) l.parent l.fn.after l.last

abbrev pub decreases-seek : goal.decreases-seek
decreases-seek l = room l.next l.last
