use Rattle.std.proofs.Common.{arith, refl}
use Rattle.cm_session.proofs.lemmas.work.Going.{served_in_place}
use Rattle.cm_session.proofs.workers.serve_link.Goals as goal

pub returns-clause-served : goal.returns-clause-served
returns-clause-served g c =
    let first = c.args.caller.now in
    let next = c.serve.new.caller in
    served_in_place _ first.manager.manifests first.pass next.pass first.gates next.gates c.args.link c.index_mut.result.now c.serve.new.link c.args.links.now.items c.push_reserved.new.self.items _ c.len-last.result c.serve.result
    (omega (arith, c.len-last.ensures, c.args.links.now.ok.0)) c.push_reserved.ensures.items c.index_mut.ensures.value refl c.serve.ensures.session
