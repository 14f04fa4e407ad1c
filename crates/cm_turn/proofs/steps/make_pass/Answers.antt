use Rattle.std.proofs.Common.{arith}
use Rattle.cm_turn.proofs.lemmas.PassSteps.{makes_one}
use Rattle.cm_turn.proofs.steps.make_pass.Goals as goal

pub split_seat-requires : goal.split_seat-requires
split_seat-requires g c = let r = c.requires in let words = r.lock.0.0 in let m = r.makes in (r.lock.1, omega arith, makes_one g.S.Storied.story g.S.Storied.frame g.S.Storied.by c.args.table.now.key _ c.args.seat.now.me.0 m.0 m.1 m.2 m.3)
