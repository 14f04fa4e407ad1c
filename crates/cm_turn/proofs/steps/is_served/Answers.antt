use Rattle.std.proofs.Common.{arith}
use Rattle.cm_turn.proofs.lemmas.Calls.{looks}
use Rattle.cm_turn.proofs.steps.is_served.Goals as goal

pub load-requires : goal.load-requires
load-requires g c = let r = c.requires in let words = r.lock.0.0 in (r.lock.1, omega arith, looks g.S.Storied.story g.S.Storied.frame g.S.Storied.by c.args.table.now.key _ _ c.args.seat.now.me r.waits.0 r.bare r.waits.2 r.idle.0 r.idle.1)
