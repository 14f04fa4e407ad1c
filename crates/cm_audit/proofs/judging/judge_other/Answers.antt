use Rattle.cm_audit.proofs.lemmas.Judged.{judged_other_by, no_step_by}
use Rattle.cm_audit.proofs.judging.judge_other.Goals as goal

pub returns-then-not-branch : goal.returns-then-not-branch
returns-then-not-branch c = no_step_by _ _ _ _ _ _ _ c.if-not-branch.true c.in_ok-is_enabled.ensures c.in_ok-no_such_step.ensures

pub returns : goal.returns
returns c =
    judged_other_by _ _ _ _ _ c.in-Ok.reply c.other_text.result c.requires (c.in_ok-is_enabled.ensures.0 c.if-not-branch.false) c.in-Ok.ensures.step c.other_text.ensures
