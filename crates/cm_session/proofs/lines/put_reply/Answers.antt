use Rattle.std.proofs.Common.{refl}
use Rattle.cm_session.specs.declared.ended.Ended.TheVariants as ended
use Rattle.cm_session.proofs.lemmas.spoken.Order.{put-last, put-ordered}
use Rattle.cm_session.proofs.lemmas.spoken.Sessions.{put-unless-failed}
use Rattle.cm_session.proofs.lines.put_reply.Goals as goal

pub returns-then-wanting-clause-wrote : goal.returns-then-wanting-clause-wrote
returns-then-wanting-clause-wrote g c =
    put-unless-failed _ _ _ _ c.args.text.now c.put_all-put.result c.put_all-put.ensures.bytes c.put_all-put.ensures.cause

pub returns-then-wanting-clause-ordered : goal.returns-then-wanting-clause-ordered
returns-then-wanting-clause-ordered g c =
    put-last ended.Memory _ _ _ _ c.args.text.now c.put_all-put.result (g.met.L.Link.one_order c.args.link.now) (g.met.L.Link.one_order c.put_all-put.new.sink) c.put_all-put.ensures.order

pub returns-in-Done-clause-ordered : goal.returns-in-Done-clause-ordered
returns-in-Done-clause-ordered g c =
    put-ordered _ _ _ _ _ c.args.text.now c.put_all-put.result (g.met.L.Link.one_order c.args.link.now) (g.met.L.Link.one_order c.put_all-put.new.sink) c.put_all-put.ensures.order (λ _. c.in-Done.is)

pub returns-in-WriteFault-clause-ordered : goal.returns-in-WriteFault-clause-ordered
returns-in-WriteFault-clause-ordered g c =
    put-last ended.WriteFault _ _ _ _ c.args.text.now c.put_all-put.result (g.met.L.Link.one_order c.args.link.now) (g.met.L.Link.one_order c.put_all-put.new.sink) c.put_all-put.ensures.order
