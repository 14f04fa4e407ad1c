use Rattle.std.proofs.Common.{sym, ap, subst, ◌∙◌, Ok}
use Rattle.cm_decl.specs.Valid.{IsValid}
use Rattle.cm_program.proofs.check.verdict_of.Goals as goal

pub returns-in-Err-validate-clause-verdict : goal.returns-in-Err-validate-clause-verdict
returns-in-Err-validate-clause-verdict c =
    c.invalid.ensures.verdict _ c.in-Ok.decl c.in-Ok.ensures.decl c.in-Err-validate.ensures.fault

pub returns-in-Ok-validate-clause-verdict : goal.returns-in-Ok-validate-clause-verdict
returns-in-Ok-validate-clause-verdict c =
    c.verdict_on.ensures.verdict _ (c.in-Ok.ensures.decl ∙ ap Ok (sym (c.decl.ensures.same ∙ c.in-Ok-validate.ensures.same))) (subst IsValid (sym (c.decl.ensures.same ∙ c.in-Ok-validate.ensures.same)) c.in-Ok-validate.ensures.valid)
