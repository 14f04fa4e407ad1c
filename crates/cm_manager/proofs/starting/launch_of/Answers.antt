use Rattle.std.proofs.Common.{◌≡◌}
use Rattle.cm_world.specs.declared.action.ActKind.TheVariants as kind
use Rattle.cm_manager.specs.Runs.{RunsAction}
use Rattle.cm_manager.proofs.lemmas.starts.Launches.{children_start, ended_acts, joined_acts, not_started, unfollowed}
use Rattle.cm_manager.proofs.starting.launch_of.Goals as goal

pub returns-in-Started : goal.returns-in-Started
returns-in-Started c = λ f d i a b by.
    children_start f d i _ _ a b (rw (c.in-Ok-Ended.is, c.in-Ok-Ended.field-0-is, c.in-Started.is) at by)

pub returns-in_default : goal.returns-in_default
returns-in_default c = λ f d i a b by.
    let ends = rw (c.in-Ok-Ended.is, c.in-Ok-Ended.field-0-is) at by in
    ended_acts f d kind.Start i _ _ _ a b ends
    (unfollowed _ (not_started _ c.in_default.not-Started) (ends.unstopped (λ (e : kind.Start ≡ kind.Stop). absurd (cc e))))

pub returns-in-Ok-Joined : goal.returns-in-Ok-Joined
returns-in-Ok-Joined c = λ f d i a b by.
    joined_acts f d kind.Start i _ _ a b (rw (c.in-Ok-Joined.is, c.in-Ok-Joined.field-0-is) at by)

pub returns-in-Ok-Quiet : goal.returns-in-Ok-Quiet
returns-in-Ok-Quiet c = λ f d i a b by.
    let it = rw (c.in-Ok-Quiet.is, c.in-Ok-Quiet.field-0-is) at by in
    RunsAction.quiet it.0 it.1

pub returns-in-Err : goal.returns-in-Err
returns-in-Err c = λ f d i a b by.
    RunsAction.cut {k = kind.Start} {i = i} (rw c.in-Err.is at by)
