use Rattle.std.proofs.Common.{sym, ◌∙◌, ap, subst}
use Rattle.cm_world.specs.World.{World}
use Rattle.cm_laws.specs.Story.{world_of}
use Rattle.cm_steps.specs.Answers.{AnswersPurge}
use Rattle.cm_steps.proofs.realm.Realm.purge_at.Goals as goal

pub purge_by-requires-clause-answer : goal.purge_by-requires-clause-answer
purge_by-requires-clause-answer c =
    subst (λ (v : World). AnswersPurge v.rows c.args.inc c.in_ok-answer.answer) (sym (ap world_of (sym c.self.view_is) ∙ c.self.invariant.stands.world)) c.in_ok-answer.ensures
