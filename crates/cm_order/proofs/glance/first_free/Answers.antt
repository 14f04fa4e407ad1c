use Rattle.std.proofs.Common.{Some}
use Rattle.cm_order.proofs.lemmas.levels.Clearing.{levels_changed, levels_same}
use Rattle.cm_order.proofs.glance.first_free.Goals as goal

pub returns-in_err-insert-clause-levels : goal.returns-in_err-insert-clause-levels
returns-in_err-insert-clause-levels g c = levels_same (g.V.View.rows c.args.view.now) c.args.levels.now c.insert.new.self c.in_err-insert.ensures.err c.requires.levels

pub returns-clause-levels : goal.returns-clause-levels
returns-clause-levels g c =
    levels_changed (g.V.View.rows c.args.view.now) c.args.parent (Some c.next_free.new.known) c.args.levels.now c.insert.new.self c.in_ok-insert.ensures.updates.0 c.in_ok-found.ensures.known c.requires.levels
