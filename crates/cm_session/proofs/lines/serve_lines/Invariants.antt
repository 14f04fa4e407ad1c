use Rattle.cm_manager.specs.Caller.{IsSameCaller}
use Rattle.cm_session.specs.Links.{view_of}
use Rattle.cm_session.proofs.lemmas.spoken.Sessions.{Going}
use Rattle.cm_session.proofs.lines.serve_lines.Given as goal

abbrev pub invariant-loop-line : goal.invariant-loop-line
invariant-loop-line g l = record {
  same : IsSameCaller l.fn.caller l.caller;
  going :
      Going l.fn.caller.manager.manifests l.fn.caller.pass l.caller.pass l.fn.caller.gates l.caller.gates
      (view_of g.L.Source g.L.Sink l.fn.link) (view_of g.L.Source g.L.Sink l.link) l.reader l.line;
}
