use Rattle.std.proofs.Common.{sym}
use Rattle.cm_trees.proofs.levels.Kids.{next_kid}
use Rattle.cm_order.proofs.lemmas.levels.Gathering.{room_less}
use Rattle.cm_order.proofs.glance.pass_on.Goals as goal

pub loop-child-smaller : goal.loop-child-smaller
loop-child-smaller g c =
    room_less (g.V.View.rows c.args.view.now) (g.V.View.next_inc c.args.view.now) c.args.parent c.in-Some.child c.loop-child.passed c.requires.sound.orderly c.in-Some.ensures

pub is_open_child-requires-clause-kid : goal.is_open_child-requires-clause-kid
is_open_child-requires-clause-kid g c =
    (next_kid (g.V.View.rows c.args.view.now) (g.V.View.next_inc c.args.view.now) c.requires.sound.orderly c.args.parent c.loop-child.passed c.in-Some.child (sym c.in-Some.ensures)).0
