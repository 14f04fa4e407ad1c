use Rattle.std.proofs.Common.{Some, sym, ◌∙◌, ap}
use Rattle.cm_world.specs.declared.route.Why.TheVariants.{NoInstance}
use Rattle.cm_world.specs.declared.route.Walked.TheVariants as walked
use Rattle.cm_walk.specs.Walking.{as_next}
use Rattle.cm_walk.proofs.lemmas.routes.Along.{refused_child, refused_weak}
use Rattle.cm_walk.proofs.walking.refusal.Goals as goal

pub returns-then-is_no_child : goal.returns-then-is_no_child
returns-then-is_no_child c = λ prefix s same behind.
    ap (λ h. Some (walked.Failed h NoInstance)) (sym same)
    ∙ refused_child prefix s (as_next c.args.next.now) (sym c.is_no_child.ensures ∙ c.if-is_no_child.true)

pub returns : goal.returns
returns c = λ prefix s same behind.
    c.too_weak.ensures prefix s same behind
    ∙ refused_weak prefix s (as_next c.args.next.now) (sym c.is_no_child.ensures ∙ c.if-is_no_child.false)
