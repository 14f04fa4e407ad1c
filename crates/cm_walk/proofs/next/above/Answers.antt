use Rattle.std.proofs.Common.{◌≡◌, subst, IfOk}
use Rattle.cm_world.specs.Rows.{row_of}
use Rattle.cm_walk.specs.Walking.{as_next}
use Rattle.cm_walk.proofs.lemmas.ways.Placed.{told_parent}
use Rattle.cm_walk.proofs.lemmas.routes.Sources.{above_root}
use Rattle.cm_walk.proofs.next.above.Goals as goal

pub returns-in-None : goal.returns-in-None
returns-in-None g c =
    subst (λ n. IfOk c.builtin.result (λ found. as_next found ≡ n)) (above_root (g.V.View.rows c.args.view.now) (g.V.View.builtins c.args.view.now) c.args.here.now.kind c.args.name.now c.args.here.now.inc c.in-Some.facts c.in-Some.ensures.facts c.in-None.is) c.builtin.ensures

pub offered-requires-clause-parent : goal.offered-requires-clause-parent
offered-requires-clause-parent g c =
    told_parent (row_of (g.V.View.rows c.args.view.now) c.args.here.now.inc) c.in-Some.facts c.in-Some-parent.parent c.in-Some.ensures.facts c.in-Some-parent.is
