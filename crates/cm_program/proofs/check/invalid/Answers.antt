use Rattle.std.proofs.Common.{sym, subst, ◌∙◌}
use Rattle.cm_program.specs.Checks.{IsJudged}
use Rattle.cm_program.proofs.lemmas.whole.Check.{judged_invalid}
use Rattle.cm_program.proofs.check.invalid.Goals as goal

pub returns-in_ok-line-in-Bad-clause-verdict : goal.returns-in_ok-line-in-Bad-clause-verdict
returns-in_ok-line-in-Bad-clause-verdict c = λ read d is reports.
    subst (λ s. IsJudged read s c.refused.result.line) (sym c.refused.ensures.status)
    (judged_invalid read d _ _ _ _ _ _ _ c.in-Bad.is is reports (c.refused.ensures.line ∙ c.in_ok-line-in-Bad.ensures))
