use Rattle.std.proofs.Common.{arith}
use Rattle.cm_turn.proofs.lemmas.Calls.{draws}
use Rattle.cm_turn.proofs.steps.draw_ticket.Goals as goal

pub fetch_add-requires : goal.fetch_add-requires
fetch_add-requires g c = let r = c.requires in let words = r.lock.0.0 in (r.lock.1, omega arith, draws g.S.Storied.story g.S.Storied.frame g.S.Storied.by c.args.table.now.key _ _ c.args.seat.now.me r.bare r.free r.idle r.caller r.part)
