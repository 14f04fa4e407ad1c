use Rattle.std.proofs.Common.{ℕ, List, subst}
use Rattle.cm_program.specs.Verdicts.{IsVerdictOn}
use Rattle.cm_program.proofs.lemmas.whole.Verdict.{verdict_ended, verdict_some}
use Rattle.cm_program.proofs.verdict.read_verdict.Goals as goal

pub returns-in-Ok-verdict_on-clause-verdict : goal.returns-in-Ok-verdict_on-clause-verdict
returns-in-Ok-verdict_on-clause-verdict g c =
    verdict_some c.args.subject _ _ c.in-Ok.bytes c.in-Ok-verdict_on.verdict.line c.in-Ok-verdict_on.verdict.status c.limit_of-limit.result c.limit_of-limit.ensures.limit c.in-Ok.ensures.prefix c.in-Ok.ensures.all
    (subst (λ (b : List ℕ). IsVerdictOn c.args.subject b c.in-Ok-verdict_on.verdict.status c.in-Ok-verdict_on.verdict.line) c.as_slice.ensures c.in-Ok-verdict_on.ensures.verdict)

pub returns-in-Ok-verdict_on-clause-ended : goal.returns-in-Ok-verdict_on-clause-ended
returns-in-Ok-verdict_on-clause-ended g c =
    verdict_ended c.args.subject c.in-Ok.bytes c.in-Ok-verdict_on.verdict.line c.in-Ok-verdict_on.verdict.status c.limit_of-limit.result _ c.limit_of-limit.ensures.limit c.in-Ok.ensures.all
    (subst (λ (b : List ℕ). IsVerdictOn c.args.subject b c.in-Ok-verdict_on.verdict.status c.in-Ok-verdict_on.verdict.line) c.as_slice.ensures c.in-Ok-verdict_on.ensures.verdict)
