use Rattle.std.proofs.Common.{rules}
use Rattle.std.specs.Io.KnownBytes.{Appends}
use Rattle.cm_program.specs.Written.{AppendsPrefix}
use Rattle.cm_program.proofs.lemmas.whole.Verdict.{told_at, told_some}
use Rattle.cm_program.proofs.verdict.run_verdict.Goals as goal

pub returns-in-Done-clause-good : goal.returns-in-Done-clause-good
returns-in-Done-clause-good g c = λ is.
    told_at c.args.subject (Appends (g.K.Sink.written c.args.out.now) (g.K.Sink.written c.put_all.new.sink)) c.in-Ok.field-0.status 0 c.in-Ok.field-0.line (g.S.Source.left c.args.source.now)
    c.in-Ok.ensures.verdict is (search rules)

pub returns-in-Done-clause-bad : goal.returns-in-Done-clause-bad
returns-in-Done-clause-bad g c = λ is.
    told_at c.args.subject (Appends (g.K.Sink.written c.args.out.now) (g.K.Sink.written c.put_all.new.sink)) c.in-Ok.field-0.status 1 c.in-Ok.field-0.line (g.S.Source.left c.args.source.now)
    c.in-Ok.ensures.verdict is (search rules)

pub returns-in-Ok-clause-prefix : goal.returns-in-Ok-clause-prefix
returns-in-Ok-clause-prefix g c = λ is.
    told_some c.args.subject (AppendsPrefix (g.K.Sink.written c.args.out.now) (g.K.Sink.written c.put_all.new.sink)) c.in-Ok.field-0.status c.in-Ok.field-0.line (g.S.Source.left c.args.source.now)
    c.in-Ok.ensures.verdict (search rules)
