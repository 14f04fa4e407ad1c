use Rattle.std.proofs.Common.{arith}
use Rattle.cm_turn.proofs.lemmas.Calls.{records}
use Rattle.cm_turn.proofs.steps.record_entries.Goals as goal

pub load-requires : goal.load-requires
load-requires g c = let r = c.requires in let words = r.lock.0.0 in let e = r.entries in (r.lock.1, omega arith, records g.S.Storied.story g.S.Storied.frame g.S.Storied.by c.args.table.now.key _ _ c.args.seat.now.me e.0 e.1 e.2 e.3 r.turn.0 r.turn.1 e.4 r.turn.2 e.5 e.6)
