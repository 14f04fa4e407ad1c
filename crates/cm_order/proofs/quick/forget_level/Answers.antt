use Rattle.std.proofs.Common.{None}
use Rattle.cm_order.proofs.lemmas.levels.Clearing.{levels_changed}
use Rattle.cm_order.proofs.quick.forget_level.Goals as goal

pub returns : goal.returns
returns c = λ rows are. levels_changed rows c.args.stand.now.inc None c.args.levels.now c.remove.new.self c.remove.ensures.updates.0 tt are
