use Rattle.cm_audit.proofs.lemmas.Judged.{judged_own_by, no_step_by}
use Rattle.cm_audit.proofs.picks.judge_own_pick.Goals as goal

pub returns-then-not-branch : goal.returns-then-not-branch
returns-then-not-branch c = no_step_by _ _ _ _ _ _ _ c.if-not-branch.true c.in_ok-enabled.ensures c.in_ok-no_such_step.ensures

pub returns : goal.returns
returns c = judged_own_by _ _ _ _ _ c.in-Ok.reply c.other_pick.result c.requires c.in-Ok.ensures.step c.other_pick.ensures
