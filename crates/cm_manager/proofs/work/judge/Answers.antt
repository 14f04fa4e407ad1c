use Rattle.std.proofs.Common.{◌∙◌}
use Rattle.cm_manager.proofs.lemmas.calling.Doings.{judged_valid, judged_unread, judged_invalid}
use Rattle.cm_manager.proofs.work.judge.Goals as goal

pub returns-in-Ok-validate-clause-judged : goal.returns-in-Ok-validate-clause-judged
returns-in-Ok-validate-clause-judged c =
    judged_valid c.args.bytes.now c.in-Ok.decl c.into_decl.result c.in-Ok.ensures.decl c.in-Ok-validate.ensures.valid (c.into_decl.ensures.same ∙ c.in-Ok-validate.ensures.same)

pub returns-in-Err-validate-clause-judged : goal.returns-in-Err-validate-clause-judged
returns-in-Err-validate-clause-judged c =
    judged_invalid c.args.bytes.now c.in-Ok.decl c.in-Err-validate.fault c.invalid.result c.in-Ok.ensures.decl c.in-Err-validate.ensures.fault c.invalid.ensures

pub returns-in-Err-clause-judged : goal.returns-in-Err-clause-judged
returns-in-Err-clause-judged c =
    judged_unread c.args.bytes.now c.in-Err.fault c.unread.result c.in-Err.ensures.decl c.unread.ensures
