use Rattle.std.proofs.Common.{◌≡◌, ◌+◌, sym, ◌∙◌, ap, subst, length, IsTrue}
use Rattle.cm_facts.proofs.Options.{IfSome_some}
use Rattle.cm_world.specs.World.{World}
use Rattle.cm_world.specs.Step.{may_close}
use Rattle.cm_world.specs.declared.event.Event.TheVariants.{Pick}
use Rattle.cm_laws.specs.Story.{Story, AddsEntry, world_of}
use Rattle.cm_steps.specs.Steps.{RefusesStep, WaitsToPick}
use Rattle.cm_steps.specs.Inside.{world_in}
use Rattle.cm_steps.specs.Answers.{AnswersPick, PicksOrWaits}
use Rattle.cm_steps.proofs.lemmas.steps.Stepping.{sound_in}
use Rattle.cm_steps.proofs.lemmas.actions.Waits.{picks_by}
use Rattle.cm_steps.proofs.lemmas.actions.Chosen.{chosen_can, never_busy}
use Rattle.cm_world.specs.Stopping.{CanPick}
use Rattle.cm_steps.specs.Chosen.{AnswersThis}
use Rattle.cm_steps.proofs.realm.Realm.pick_this.Goals as goal

pub this_answer-requires : goal.this_answer-requires
this_answer-requires c = record {
  sound = sound_in c.trees_stay_sound.ensures.sound c.self.inside c.self.invariant;
  closing = subst (λ (w : World). IsTrue (may_close w.rows c.args.target)) (ap world_of (sym c.self.view_is) ∙ c.self.invariant.stands.world) c.requires.closing;
  plan = c.self.invariant.planned;
}

pub returns-in-Ok-clause-some : goal.returns-in-Ok-clause-some
returns-in-Ok-clause-some c =
    let it = IfSome_some (AnswersThis c.self.inside.table.rows c.next_action-next.result c.args.target c.args.inc) c.in_ok-found.found c.in-Some.answer c.in-Some.is c.in_ok-found.ensures.some in
    record { step = subst (λ (s : Story). AddsEntry s c.pick_by.new.self c.args.caller (Pick c.args.target) c.in-Ok.reply) c.self.view_is c.in-Ok.ensures.step; this = c.in-Ok.ensures.chosen c.args.inc it.this }

pub returns-in-Err-clause-refused : goal.returns-in-Err-clause-refused
returns-in-Err-clause-refused c =
    let w : World = world_in c.self.inside in
    let it = IfSome_some (AnswersThis c.self.inside.table.rows c.next_action-next.result c.args.target c.args.inc) c.in_ok-found.found c.in-Some.answer c.in-Some.is c.in_ok-found.ensures.some in
    let next : c.next_action-next.result ≡ w.next_action = c.next_action-next.ensures ∙ ap (λ xs. length xs + 1) c.as_slice.ensures.value in
    let picks = picks_by w c.args.target c.in-Some.answer c.self.invariant.tasks (subst (λ n. AnswersPick w.rows n c.args.target c.in-Some.answer) next it.answers) in
    let can = chosen_can w c.args.target c.args.inc c.in-Some.answer picks it.this in
    let same : world_of c.args.self.now ≡ w = ap world_of (sym c.self.view_is) ∙ c.self.invariant.stands.world in
    never_busy c.args.self.now c.args.target c.in-Err.fault (subst (λ (v : World). CanPick v.rows c.args.target) (sym same) can)
    (subst (λ (s : Story). RefusesStep s 2 (WaitsToPick (world_of s) c.args.target) c.in-Err.fault) c.self.view_is c.in-Err.ensures.refused)
