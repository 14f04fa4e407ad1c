use Rattle.cm_table.proofs.lemmas.tree.Removing.{within_child, child_nearer}
use Rattle.cm_table.proofs.table.Table.walk_down.Goals as goal

pub loop-child-smaller : goal.loop-child-smaller
loop-child-smaller c =
    child_nearer c.args.self.now.rows c.args.self.now.next_inc c.loop-child.leaf c.in-Some.child c.last_child.ensures.orderly c.in-Some.ensures.some

pub loop-child-preserved : goal.loop-child-preserved
loop-child-preserved c =
    within_child c.args.self.now.rows c.args.self.now.next_inc c.args.top c.loop-child.leaf c.in-Some.child c.last_child.ensures.orderly c.loop-child.invariant c.in-Some.ensures.some

pub returns : goal.returns
returns c = record { lives = c.loop-child.invariant.lives; below = c.loop-child.invariant.below; childless = c.in_default.ensures.none }
