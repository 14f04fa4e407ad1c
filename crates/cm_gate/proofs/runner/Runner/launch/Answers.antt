use Rattle.std.proofs.Common.{rules, ap, ◌∙◌}
use Rattle.cm_gate.specs.Asks.{AsksInVain}
use Rattle.cm_gate.specs.Runner.{launched_by}
use Rattle.cm_gate.proofs.lemmas.Asking.{launch_unknown, launch_untaken}
use Rattle.cm_gate.proofs.runner.Runner.launch.Goals as goal

pub returns-in_default-clause-failed : goal.returns-in_default-clause-failed
returns-in_default-clause-failed g c = λ _. AsksInVain.unanswered c.in_default.ensures.unanswered

pub returns-then-is_failed-clause-failed : goal.returns-then-is_failed-clause-failed
returns-then-is_failed-clause-failed g c = λ _. launch_unknown _ _ _ _ _ _ _ _ _ c.args.job.now c.launched-launched.result _ _
    c.in-Ok.ensures.answered (c.launched-launched.ensures ∙ ap launched_by c.as_slice.ensures.value) (search rules)

pub returns-clause-failed : goal.returns-clause-failed
returns-clause-failed g c = λ _. launch_untaken _ _ _ _ _ _ _ _ _ c.args.job.now c.launched-launched.result _ _ _
    c.in-Ok.ensures.answered (c.launched-launched.ensures ∙ ap launched_by c.as_slice.ensures.value) (search rules)
    c.in-Err.ensures.unsent
