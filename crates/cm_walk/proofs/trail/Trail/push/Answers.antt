use Rattle.std.proofs.Common.{◌++◌, ◌∷◌, [], ◌∙◌, ap, refl}
use Rattle.cm_walk.specs.Walking.{as_station}
use Rattle.cm_walk.proofs.lemmas.routes.Trails.{IsBehind-more}
use Rattle.cm_walk.proofs.trail.Trail.push.Goals as goal

pub returns : goal.returns
returns c = λ prefix t behind same.
    IsBehind-more prefix (as_station c.args.here) t c.args.next.now c.args.self.now _ behind same (c.in_ok-push.ensures.ok ∙ ap (λ h. c.args.self.now.hops ++ h ∷ []) c.into_hop.ensures) c.in_ok-push_subdir.ensures c.standing_then-self.ensures refl c.asked_then-self.ensures
