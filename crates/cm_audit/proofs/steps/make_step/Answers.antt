use Rattle.std.proofs.Common.{ℕ, IfOk, IfErr, sym, subst}
use Rattle.cm_world.specs.declared.event.Event.{Event}
use Rattle.cm_world.specs.declared.event.Event.TheVariants as event
use Rattle.cm_world.specs.Step.{IsEnabled}
use Rattle.cm_world.specs.World.{World}
use Rattle.cm_laws.specs.Story.{world_of, AddsEntry}
use Rattle.cm_steps.specs.Requests.{RefusesEvent, TreeAllows}
use Rattle.cm_audit.proofs.lemmas.Waiting.{quietly}
use Rattle.cm_audit.proofs.steps.make_step.Goals as goal

-- what a caller may do now the tree allows
allowed : (w : World) (caller : ℕ) (e : Event) → IsEnabled w caller e → TreeAllows w e
allowed w caller (event.Pick t) may = may.0
allowed w caller (event.Purge i) may = may
allowed w caller _ may = tt

pub step-requires : goal.step-requires
step-requires c =
    subst (λ (e : Event). TreeAllows (world_of c.args.realm.now) e) (sym c.lent.ensures)
    (allowed (world_of c.args.realm.now) c.args.caller c.args.event.now c.requires)

pub returns-in_default-clause-step : goal.returns-in_default-clause-step
returns-in_default-clause-step c =
    subst (λ (e : Event). IfOk c.step.result (λ reply. AddsEntry c.args.realm.now c.step.new.self c.args.caller e reply)) c.lent.ensures c.step.ensures.step

pub returns-in_default-clause-refused : goal.returns-in_default-clause-refused
returns-in_default-clause-refused c =
    quietly c.args.realm.now c.args.caller c.args.event.now c.step.result c.requires
    (subst (λ (e : Event). IfErr c.step.result (RefusesEvent c.args.realm.now e)) c.lent.ensures c.step.ensures.refused)
