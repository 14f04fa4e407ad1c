use Rattle.std.proofs.Common.{sym, ◌∙◌, ap, subst}
use Rattle.cm_world.specs.World.{World}
use Rattle.cm_laws.specs.Story.{world_of}
use Rattle.cm_steps.specs.Answers.{AnswersMark}
use Rattle.cm_steps.proofs.realm.Realm.mark_at.Goals as goal

pub mark_by-requires : goal.mark_by-requires
mark_by-requires c =
    subst (λ (v : World). AnswersMark v.rows c.args.doom c.args.inc c.mark_answer-answer.result) (sym (ap world_of (sym c.self.view_is) ∙ c.self.invariant.stands.world)) c.mark_answer-answer.ensures
