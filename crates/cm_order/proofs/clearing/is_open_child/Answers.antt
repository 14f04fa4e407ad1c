use Rattle.cm_order.proofs.lemmas.levels.Glancing.{free_unlisted}
use Rattle.cm_order.proofs.clearing.is_open_child.Goals as goal

pub settle-requires-clause-free : goal.settle-requires-clause-free
settle-requires-clause-free g c =
    free_unlisted (g.V.View.rows c.args.view.now) (g.V.View.next_inc c.args.view.now) c.requires.sound c.args.parent c.args.known.now c.requires.known c.args.child c.requires.kid (λ z. c.is_free.ensures z c.if-not-is_free.false)

pub returns-then-branch-clause-left : goal.returns-then-branch-clause-left
returns-then-branch-clause-left g c = λ yet.
    free_unlisted (g.V.View.rows c.args.view.now) (g.V.View.next_inc c.args.view.now) c.requires.sound c.args.parent c.args.known.now c.requires.known c.args.child c.requires.kid (λ z. c.is_free.ensures z c.if-not-is_free.false)

pub settle-requires-clause-none : goal.settle-requires-clause-none
settle-requires-clause-none g c = λ z. c.is_free.ensures z c.if-not-is_free.false
