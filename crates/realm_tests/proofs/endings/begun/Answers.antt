use Rattle.std.proofs.Common.{subst, sym}
use Rattle.cm_world.specs.declared.action.Work.{Work}
use Rattle.cm_world.specs.declared.event.Event.TheVariants.{Begin}
use Rattle.cm_world.specs.Step.{MayEnd}
use Rattle.cm_laws.specs.Story.{AddsEntry, world_of}
use Rattle.cm_laws.proofs.lemmas.actions.Beginners.{beginners_may_end}
use Rattle.realm_tests.proofs.endings.begun.Goals as goal

pub returns-in-Ok-Begun : goal.returns-in-Ok-Begun
returns-in-Ok-Begun c = λ f fits valid.
    subst (λ (w : Work). MayEnd (world_of c.begin.new.self).acts 0 w.action f) (sym c.get.ensures)
    (beginners_may_end c.args.realm.now c.begin.new.self 0 c.args.inc c.args.kind c.in-Ok-Begun.work f
    (subst (λ r. AddsEntry c.args.realm.now c.begin.new.self 0 (Begin c.args.kind c.args.inc) r)
    c.in-Ok-Begun.field-0-is c.in-Ok-Begun.ensures.step) fits valid)
