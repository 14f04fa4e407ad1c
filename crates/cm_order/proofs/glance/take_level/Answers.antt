use Rattle.std.proofs.Common.{None}
use Rattle.cm_order.proofs.lemmas.levels.Clearing.{levels_changed, level_told}
use Rattle.cm_order.proofs.glance.take_level.Goals as goal

pub returns-in-None : goal.returns-in-None
returns-in-None g c = record {
  known = c.of.ensures;
  levels = levels_changed (g.V.View.rows c.args.view.now) c.args.parent None c.args.levels.now c.remove.new.self c.remove.ensures.updates.0 tt c.requires.levels;
}

pub returns-in-Some : goal.returns-in-Some
returns-in-Some g c = record {
  known = level_told (g.V.View.rows c.args.view.now) c.args.levels.now c.args.parent c.in-Some.known c.in-Some.ensures.value c.requires.levels;
  levels = levels_changed (g.V.View.rows c.args.view.now) c.args.parent None c.args.levels.now c.remove.new.self c.remove.ensures.updates.0 tt c.requires.levels;
}
