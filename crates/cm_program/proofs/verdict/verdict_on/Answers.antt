use Rattle.std.proofs.Common.{IfOk, sym, subst}
use Rattle.cm_program.specs.Verdicts.{IsVerdictOn}
use Rattle.cm_program.specs.declared.verdict.Subject.{Subject}
use Rattle.cm_program.proofs.verdict.verdict_on.Goals as goal

pub returns-in-Journal-clause-verdict : goal.returns-in-Journal-clause-verdict
returns-in-Journal-clause-verdict c =
    subst (λ (s : Subject). IfOk c.verdict_of-in-Journal.result (λ verdict. IsVerdictOn s c.args.bytes.now verdict.status verdict.line))
    (sym c.in-Journal.is) c.verdict_of-in-Journal.ensures.verdict
