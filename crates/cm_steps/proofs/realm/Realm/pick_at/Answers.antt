use Rattle.std.proofs.Common.{◌≡◌, ◌+◌, sym, ◌∙◌, ap, subst, length, IsTrue}
use Rattle.cm_world.specs.World.{World}
use Rattle.cm_world.specs.Step.{may_close}
use Rattle.cm_laws.specs.Story.{world_of}
use Rattle.cm_steps.specs.Inside.{world_in}
use Rattle.cm_steps.specs.Answers.{AnswersPick, PicksOrWaits}
use Rattle.cm_steps.proofs.lemmas.steps.Stepping.{sound_in}
use Rattle.cm_steps.proofs.lemmas.actions.Waits.{picks_by}
use Rattle.cm_steps.proofs.realm.Realm.pick_at.Goals as goal

pub pick_answer-requires : goal.pick_answer-requires
pick_answer-requires c = record {
  sound = sound_in c.trees_stay_sound.ensures.sound c.self.inside c.self.invariant;
  closing = subst (λ (w : World). IsTrue (may_close w.rows c.args.target)) (ap world_of (sym c.self.view_is) ∙ c.self.invariant.stands.world) c.requires.closing;
  plan = c.self.invariant.planned;
}

pub pick_by-requires-clause-answer : goal.pick_by-requires-clause-answer
pick_by-requires-clause-answer c =
    let w : World = world_in c.self.inside in
    let next : c.next_action-next.result ≡ w.next_action = c.next_action-next.ensures ∙ ap (λ xs. length xs + 1) c.as_slice.ensures.value in
    subst (λ v. PicksOrWaits v c.args.target c.in_ok-answer.answer) (sym c.self.invariant.stands.world)
    (picks_by w c.args.target c.in_ok-answer.answer c.self.invariant.tasks
    (subst (λ n. AnswersPick w.rows n c.args.target c.in_ok-answer.answer) next c.in_ok-answer.ensures.answer))
