use Rattle.std.proofs.Common.{◌≡◌, sym, ◌∙◌, ap, subst, IsTrue}
use Rattle.std.specs.Prelude.{◌↔◌, IfOk}
use Rattle.cm_world.specs.World.{World}
use Rattle.cm_world.specs.declared.event.Event.TheVariants.{Pick}
use Rattle.cm_laws.specs.Story.{world_of}
use Rattle.cm_steps.specs.Inside.{world_in}
use Rattle.cm_steps.specs.Enabled.{IsEnabledBut}
use Rattle.cm_steps.proofs.lemmas.steps.Stepping.{sound_in}
use Rattle.cm_steps.proofs.realm.Realm.enabled.Goals as goal

pub has_pick-requires : goal.has_pick-requires
has_pick-requires c = sound_in c.trees_stay_sound.ensures.sound c.self.inside c.self.invariant

pub returns-in-Pick : goal.returns-in-Pick
returns-in-Pick c =
    let same : world_in c.self.inside ≡ world_of c.args.self.now = sym (ap world_of (sym c.self.view_is) ∙ c.self.invariant.stands.world) in
    subst (λ e. IfOk c.has_pick.result (λ may. IsTrue may ↔ IsEnabledBut (world_of c.args.self.now) c.args.caller e)) (sym c.in-Pick.is)
    (subst (λ (w : World). IfOk c.has_pick.result (λ may. IsTrue may ↔ IsEnabledBut w c.args.caller (Pick c.in-Pick.target))) same c.has_pick.ensures)
