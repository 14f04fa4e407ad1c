use Rattle.std.proofs.Common.{arith}
use Rattle.cm_turn.specs.Views.{spent_view}
use Rattle.cm_turn.proofs.lemmas.PassSteps.{arrives}
use Rattle.cm_turn.proofs.steps.arrive.Goals as goal

pub load_new_seat-requires : goal.load_new_seat-requires
load_new_seat-requires g c = let words = c.requires.0 in (omega arith, arrives g.S.Storied.story g.S.Storied.frame g.S.Storied.by c.args.table.now.key _ spent_view)
