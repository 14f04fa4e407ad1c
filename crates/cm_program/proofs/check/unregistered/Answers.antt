use Rattle.std.proofs.Common.{sym, subst, ◌∙◌}
use Rattle.cm_program.specs.Checks.{IsJudged}
use Rattle.cm_program.proofs.lemmas.whole.Check.{judged_unregistered}
use Rattle.cm_program.proofs.check.unregistered.Goals as goal

pub returns-clause-verdict : goal.returns-clause-verdict
returns-clause-verdict c = λ read d is valid judged.
    subst (λ s. IsJudged read s c.refused.result.line) (sym c.refused.ensures.status)
    (judged_unregistered read d _ _ is valid judged (c.refused.ensures.line ∙ c.in_ok-line.ensures))
