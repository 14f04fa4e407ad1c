use Rattle.std.proofs.Common.{sym, ◌∙◌, ap, subst}
use Rattle.cm_world.specs.World.{World}
use Rattle.cm_laws.specs.Story.{world_of}
use Rattle.cm_steps.specs.Inside.{world_in}
use Rattle.cm_steps.specs.Answers.{ExitsBy}
use Rattle.cm_steps.proofs.lemmas.actions.Waits.{exits_by}
use Rattle.cm_steps.proofs.realm.Realm.exit_at.Goals as goal

pub exit_by-requires-clause-answer : goal.exit_by-requires-clause-answer
exit_by-requires-clause-answer c =
    let w : World = world_in c.self.inside in
    subst (λ v. ExitsBy v c.args.inc c.in_ok-answer.answer) (sym (ap world_of (sym c.self.view_is) ∙ c.self.invariant.stands.world))
    (exits_by w c.args.inc c.in_ok-answer.answer c.self.invariant.tasks c.in_ok-answer.ensures)
