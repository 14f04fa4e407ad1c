use Rattle.std.proofs.Common.{vec_capacity}
use Rattle.cm_manager.specs.Caller.{IsSameCaller}
use Rattle.cm_session.specs.Links.{view_of}
use Rattle.cm_session.proofs.lemmas.work.Going.{Going}
use Rattle.cm_session.proofs.workers.serve_links.Given as goal

abbrev pub invariant-loop : goal.invariant-loop
invariant-loop g l = record {
  same : IsSameCaller l.fn.caller l.caller;
  going :
      Going (view_of g.D.Link.Source g.D.Link.Sink) l.fn.caller.manager.manifests l.door
      l.fn.caller.pass l.caller.pass l.fn.caller.gates l.caller.gates
      l.fn.at_door l.at_door l.links.items (vec_capacity l.links);
}
