use Rattle.std.proofs.Common.{sym, subst, ◌∙◌}
use Rattle.cm_program.specs.Checks.{IsJudged}
use Rattle.cm_program.proofs.lemmas.whole.Check.{judged_unstored}
use Rattle.cm_program.proofs.check.unstored.Goals as goal

pub returns-clause-verdict : goal.returns-clause-verdict
returns-clause-verdict c = λ read d is valid registered judged.
    subst (λ s. IsJudged read s c.refused.result.line) (sym c.refused.ensures.status)
    (judged_unstored read d _ _ is valid registered judged (c.refused.ensures.line ∙ c.in_ok-line.ensures))
