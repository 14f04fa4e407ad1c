use Rattle.std.proofs.Common.{arith}
use Rattle.cm_turn.proofs.lemmas.Calls.{takes_empty}
use Rattle.cm_turn.proofs.steps.take_empty_slot.Goals as goal

pub load-requires : goal.load-requires
load-requires g c = let r = c.requires in let words = r.lock.0.0 in (r.lock.1, omega arith, takes_empty g.S.Storied.story g.S.Storied.frame g.S.Storied.by c.args.table.now.key _ _ c.args.seat.now.me r.bare r.turn.0 r.turn.1)
