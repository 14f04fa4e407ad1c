use Rattle.std.proofs.Common.{◌∙◌, ap, option_map, sym}
use Rattle.cm_decl.specs.Clashes.{or_else}
use Rattle.cm_world.specs.declared.route.Walked.TheVariants as walked
use Rattle.cm_world.specs.Route.{weak_rights}
use Rattle.cm_walk.proofs.lemmas.routes.Trails.{unsure_is, narrow_is}
use Rattle.cm_walk.proofs.trail.Trail.too_weak.Goals as goal

pub returns-in-Some : goal.returns-in-Some
returns-in-Some c = λ prefix s same behind.
    ap (λ o. or_else o (weak_rights prefix s))
    (ap (λ o. option_map (λ x. walked.Failed c.args.hop.now x) o) (sym c.in-Some.is)
    ∙ c.too_unsure.ensures
    ∙ unsure_is prefix s c.args.hop.now c.args.self.now same behind)

pub returns-in-None : goal.returns-in-None
returns-in-None c = λ prefix s same behind.
    c.too_narrow.ensures
    ∙ narrow_is prefix s c.args.hop.now c.args.self.now same behind
    ∙ ap (λ o. or_else o (weak_rights prefix s))
    (ap (λ o. option_map (λ x. walked.Failed c.args.hop.now x) o) (sym c.in-None.is)
    ∙ c.too_unsure.ensures
    ∙ unsure_is prefix s c.args.hop.now c.args.self.now same behind)
