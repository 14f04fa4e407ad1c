use Rattle.std.proofs.Common.{sym, ◌∙◌, ap, subst}
use Rattle.cm_world.specs.declared.event.NewChild.{NewChild}
use Rattle.cm_world.specs.World.{World}
use Rattle.cm_laws.specs.Story.{world_of}
use Rattle.cm_steps.specs.Inside.{world_in}
use Rattle.cm_steps.specs.Answers.{CreatesBy}
use Rattle.cm_steps.proofs.lemmas.steps.Stepping.{sound_in}
use Rattle.cm_steps.proofs.realm.Realm.create_at.Goals as goal

pub create_answer-requires : goal.create_answer-requires
create_answer-requires c = sound_in c.trees_stay_sound.ensures.sound c.self.inside c.self.invariant

pub create_by-requires : goal.create_by-requires
create_by-requires c =
    let w : World = world_in c.self.inside in
    let answer = c.in_ok-answer.answer in
    let same = c.get-wanted.ensures in
    let given = c.as_slice-offered.ensures ∙ ap (λ (child : NewChild). child.gives) same in
    subst (λ (v : World). CreatesBy v.frame.limits.rows v.rows v.next_inc c.args.parent c.args.child.coll c.args.child.name c.args.child.gives answer) (sym (ap world_of (sym c.self.view_is) ∙ c.self.invariant.stands.world))
    (subst (λ n. CreatesBy n w.rows w.next_inc c.args.parent c.args.child.coll c.args.child.name c.args.child.gives answer) c.self.invariant.rows
    (subst (λ xs. CreatesBy c.self.inside.table.limit w.rows w.next_inc c.args.parent c.args.child.coll c.args.child.name xs answer) given
    (subst (λ (child : NewChild). CreatesBy c.self.inside.table.limit w.rows w.next_inc c.args.parent child.coll child.name c.as_slice-offered.result.now answer) same c.in_ok-answer.ensures)))
