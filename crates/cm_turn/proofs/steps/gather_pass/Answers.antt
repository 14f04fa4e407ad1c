use Rattle.std.proofs.Common.{arith}
use Rattle.cm_turn.proofs.lemmas.PassSteps.{gathers}
use Rattle.cm_turn.proofs.steps.gather_pass.Goals as goal

pub join_seat-requires : goal.join_seat-requires
join_seat-requires g c = let r = c.requires in let words = r.lock.0.0 in let p = r.pass in (r.lock.1, r.lock.2, r.bare.1, omega arith, gathers g.S.Storied.story g.S.Storied.frame g.S.Storied.by c.args.table.now.key _ _ c.args.seat.now.me.0 c.args.pass.me.0 p.2.0 r.idle.0 r.idle.1 p.0 p.1 p.2.1)
