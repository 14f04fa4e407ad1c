use Rattle.std.proofs.Common.{sym, ◌∙◌}
use Rattle.cm_steps.specs.Requests.{event_for}
use Rattle.cm_manager.specs.Questions.{FollowsBy}
use Rattle.cm_manager.specs.Runs.{StartsSingleRun}
use Rattle.cm_manager.specs.Sweeps.{Sweeps}
use Rattle.cm_manager.proofs.lemmas.calling.Followings.{no_follow, start_follows, sweep_follows}
use Rattle.cm_manager.proofs.lemmas.callers.CallerAnswers.{nothing_more, something_more}
use Rattle.cm_manager.proofs.caller.Caller.request.Goals as goal

pub returns-in-Nothing : goal.returns-in-Nothing
returns-in-Nothing g c =
    nothing_more (event_for c.args.request) (λ f n. FollowsBy f n c.args.request) c.args.inc _ _ _ _ c.try_request-went.ensures
    (λ f n h. no_follow f n c.args.request c.args.inc _ h (sym c.following-follow.ensures ∙ c.in-Nothing.is)) c.decided-answer.ensures

-- a child was created
pub returns-in-Start : goal.returns-in-Start
returns-in-Start g c =
    something_more (event_for c.args.request) (λ f n. FollowsBy f n c.args.request) (λ f n x y. StartsSingleRun f n c.in-Start.child x y c.start_once.result) c.args.inc _ _ _ _ _ _
    (λ f n x y it. start_follows f n c.args.request c.args.inc c.in-Start.child _ _ x y (sym c.following-follow.ensures ∙ c.in-Start.is) it)
    c.try_request-went.ensures c.start_once.ensures (rw c.decided-answer.ensures at c.behind.ensures)

-- an instance has ended by itself
pub returns-in-Sweep : goal.returns-in-Sweep
returns-in-Sweep g c =
    something_more (event_for c.args.request) (λ f n. FollowsBy f n c.args.request) (λ f n x y. Sweeps f n c.in-Sweep.left x y c.sweep.result) c.args.inc _ _ _ _ _ _
    (λ f n x y it. sweep_follows f n c.args.request c.args.inc c.in-Sweep.left _ _ x y (sym c.following-follow.ensures ∙ c.in-Sweep.is) it)
    c.try_request-went.ensures c.sweep.ensures (rw c.decided-answer.ensures at c.behind-in-Sweep.ensures)
