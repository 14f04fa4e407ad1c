use Rattle.std.proofs.Common.{◌≡◌, ◌+◌, sym, ◌∙◌, ap, subst, length}
use Rattle.cm_world.specs.World.{World}
use Rattle.cm_laws.specs.Story.{world_of}
use Rattle.cm_steps.specs.Inside.{world_in}
use Rattle.cm_steps.specs.Answers.{AnswersBegin, BeginsOrWaits}
use Rattle.cm_steps.proofs.lemmas.actions.Waits.{begins_by}
use Rattle.cm_steps.proofs.realm.Realm.begin_at.Goals as goal

pub begin_by-requires-clause-answer : goal.begin_by-requires-clause-answer
begin_by-requires-clause-answer c =
    let w : World = world_in c.self.inside in
    let next : c.next_action-next.result ≡ w.next_action = c.next_action-next.ensures ∙ ap (λ xs. length xs + 1) c.as_slice.ensures.value in
    subst (λ v. BeginsOrWaits v c.args.kind c.args.inc c.in_ok-answer.answer) (sym (ap world_of (sym c.self.view_is) ∙ c.self.invariant.stands.world))
    (begins_by w c.args.kind c.args.inc c.in_ok-answer.answer c.self.invariant.tasks
    (subst (λ n. AnswersBegin w.rows n c.args.kind c.args.inc c.in_ok-answer.answer) next c.in_ok-answer.ensures))
