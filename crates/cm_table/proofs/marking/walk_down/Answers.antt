use Rattle.cm_table.specs.Slots.{flat, rows_in}
use Rattle.cm_table.proofs.lemmas.tree.Removing.{child_nearer}
use Rattle.cm_table.proofs.lemmas.flags.Passing.{as_child, open_within}
use Rattle.cm_table.proofs.marking.walk_down.Goals as goal

pub down-smaller : goal.down-smaller
down-smaller c =
    child_nearer (rows_in (flat c.args.blocks.now)) c.args.next c.down.here c.in-Some.child c.requires.indexed.orderly (as_child c.args.kind (flat c.args.blocks.now) c.down.here c.in-Some.child c.in-Some.ensures.some)

pub down-preserved : goal.down-preserved
down-preserved c =
    open_within c.args.kind (flat c.args.blocks.now) c.args.next c.args.top c.down.here c.in-Some.child c.requires.indexed.orderly c.down.invariant c.in-Some.ensures.some

pub returns : goal.returns
returns c = record { within = c.down.invariant; children = c.in_default.ensures.none }
