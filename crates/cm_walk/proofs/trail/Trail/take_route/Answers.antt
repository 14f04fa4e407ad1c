use Rattle.std.proofs.Common.{◌++◌, ◌∷◌, [], ◌∙◌, ap, refl, reverse}
use Rattle.cm_walk.specs.Walking.{path_at}
use Rattle.cm_walk.proofs.lemmas.routes.Trails.{route_is}
use Rattle.cm_walk.proofs.trail.Trail.take_route.Goals as goal

pub returns : goal.returns
returns c = λ prefix s behind same there.
    let hops = c.in_ok-push.ensures.ok ∙ ap (λ xs. xs ++ c.args.hop ∷ []) c.replace-hops.ensures.value in
    let path = c.in_ok-path.ensures ∙ ap (λ ds. path_at c.args.hop.step c.args.path.now (reverse ds)) c.replace-subdirs.ensures.value in
    route_is prefix s c.args.hop c.args.path.now c.args.self.now _ behind same there hops path refl c.in_ok-provider.ensures
