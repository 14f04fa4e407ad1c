use Rattle.std.proofs.Common.{inl, inr, ap, ◌∙◌}
use Rattle.cm_session.specs.Links.{view_of}
use Rattle.cm_session.specs.Serving.{back_view}
use Rattle.cm_program.specs.Sessions.{served_frame, served_manifests}
use Rattle.cm_program.proofs.lemmas.links.Doors.{at_is_open, at_same, attended_by, failed_run, unattended_for_fault, unattended_for_want}
use Rattle.cm_program.proofs.serving.run_sessions.Goals as goal

pub returns-in_default-clause-attended : goal.returns-in_default-clause-attended
returns-in_default-clause-attended g c =
    unattended_for_want g.G.Gates.log g.G.Gates.faults (view_of g.D.Link.Source g.D.Link.Sink) g.D.Door.counts
    (served_frame c.args.options) (served_manifests c.args.options) c.args.options.sessions c.args.options.workers c.args.gates c.args.door c.stopped.result
    c.requires.gates c.stopped.ensures.empty c.stopped.ensures.gates c.stopped.ensures.links c.stopped.ensures.door (c.stopped.ensures.status ∙ c.out_of_memory.ensures.status)

pub returns-in-Ready-clause-attended : goal.returns-in-Ready-clause-attended
returns-in-Ready-clause-attended g c =
    attended_by g.G.Gates.log g.G.Gates.faults (view_of g.D.Link.Source g.D.Link.Sink) g.D.Door.counts
    c.args.options c.in-Ok.manager.manifests c.args.gates (g.D.Door.counts c.args.door) (g.D.Door.counts c.listen.new.self) c.attend.result
    c.in-Ok.ensures.manifests c.in-Ready.ensures.counts (c.attend.ensures.attended (served_frame c.args.options) c.in-Ok.ensures.new)

pub returns-clause-attended : goal.returns-clause-attended
returns-clause-attended g c =
    unattended_for_fault g.G.Gates.log g.G.Gates.faults (view_of g.D.Link.Source g.D.Link.Sink) g.D.Door.counts
    (served_frame c.args.options) (served_manifests c.args.options) c.args.options.sessions c.args.options.workers c.args.gates (g.D.Door.counts c.args.door) c.listen.new.self c.stopped-in-Failed.result
    c.requires.gates c.stopped-in-Failed.ensures.empty c.stopped-in-Failed.ensures.gates c.stopped-in-Failed.ensures.links c.stopped-in-Failed.ensures.door (c.stopped-in-Failed.ensures.status ∙ c.door_fault.ensures.status)
    c.in-Failed.ensures.counts

pub attend-requires-clause-listening : goal.attend-requires-clause-listening
attend-requires-clause-listening g c κs within = at_is_open _ _ c.in-Ready.ensures.place

pub returns-in_default-clause-place : goal.returns-in_default-clause-place
returns-in_default-clause-place g c = λ is. failed_run 5 c.stopped.ensures.status c.out_of_memory.ensures.status is

pub returns-in-Ready-clause-place : goal.returns-in-Ready-clause-place
returns-in-Ready-clause-place g c =
    λ is. at_same _ _ _ _ c.as_str.ensures c.attend.ensures.place c.in-Ready.ensures.place

pub returns-clause-place : goal.returns-clause-place
returns-clause-place g c = λ is. failed_run 4 c.stopped-in-Failed.ensures.status c.door_fault.ensures.status is

pub returns-in_default-clause-nowhere_else : goal.returns-in_default-clause-nowhere_else
returns-in_default-clause-nowhere_else g c = inl (ap g.D.Door.place c.stopped.ensures.door)

pub returns-in-Ready-clause-nowhere_else : goal.returns-in-Ready-clause-nowhere_else
returns-in-Ready-clause-nowhere_else g c =
    inr (at_same _ _ _ _ c.as_str.ensures c.attend.ensures.place c.in-Ready.ensures.place)

pub returns-clause-nowhere_else : goal.returns-clause-nowhere_else
returns-clause-nowhere_else g c =
    inl (ap g.D.Door.place c.stopped-in-Failed.ensures.door ∙ c.in-Failed.ensures.place)

pub returns-in-Ready-clause-history : goal.returns-in-Ready-clause-history
returns-in-Ready-clause-history g c =
    let came = c.attend.ensures.attended (served_frame c.args.options) c.in-Ok.ensures.new in
    record { frame = served_frame c.args.options; legal = came.runs.legal; laws = came.runs.laws }
