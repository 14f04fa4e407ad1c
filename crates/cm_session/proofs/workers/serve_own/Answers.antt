use Rattle.std.proofs.Common.{rules}
use Rattle.cm_session.specs.Links.{view_of}
use Rattle.cm_session.specs.Pool.{ServesLinks}
use Rattle.cm_session.proofs.lemmas.spoken.Callers.{made_and_parted}
use Rattle.cm_session.proofs.workers.serve_own.Goals as goal

pub returns : goal.returns
returns g c =
    let served = c.serve_links-at_door in
    let by = made_and_parted (λ n r u a b. ServesLinks (view_of g.D.Link.Source g.D.Link.Sink) n r u a b c.args.at_door served.result.0 served.new.links.items served.result.1) c.new-caller.result served.new.caller c.args.manager.now c.args.pass c.into_parts-pass.result.0 in
    record { served = search (rules, by, c.new-caller.ensures.manager, c.new-caller.ensures.pass, c.new-caller.ensures.gates, c.into_parts-pass.ensures.pass, c.into_parts-pass.ensures.gates, served.ensures.served) }
