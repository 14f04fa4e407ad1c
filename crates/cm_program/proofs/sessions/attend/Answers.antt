use Rattle.std.proofs.Common.{ℕ, map, sym, subst, ◌∙◌}
use Rattle.cm_session.specs.Links.{view_of}
use Rattle.cm_session.specs.Serving.{back_view}
use Rattle.cm_program.specs.Run.{IsServeStatus}
use Rattle.cm_program.specs.Sessions.{RunsSessions}
use Rattle.cm_program.proofs.lemmas.links.Attending.{attended, ended_passes, own_passes}
use Rattle.cm_program.proofs.lemmas.links.Doors.{is_done, is_fault, serves}
use Rattle.cm_program.proofs.lemmas.lanes.Sixteen.{sixteen_all, sixteen_new}
use Rattle.cm_program.proofs.sessions.attend.Goals as goal

pub serve_sessions-passes-requires-clause-passes : goal.serve_sessions-passes-requires-clause-passes
serve_sessions-passes-requires-clause-passes g c κs within = sixteen_new c.args.manager.turn c.requires.new.0 c.args.passes c.requires.new.1

pub close-book-requires-clause-passes : goal.close-book-requires-clause-passes
close-book-requires-clause-passes g c =
    sixteen_all c.args.manager.turn c.serve_sessions-passes.result.passes c.requires.count c.serve_sessions-passes.ensures.passes

pub close-book-requires-clause-ended : goal.close-book-requires-clause-ended
close-book-requires-clause-ended g c =
    c.serve_sessions-passes.ensures.ended (ended_passes c.args.manager.turn c.requires.new.0 c.args.passes c.requires.new.1)

pub returns-clause-attended : goal.returns-clause-attended
returns-clause-attended g c f new =
    let back = c.serve_sessions-passes in
    let told = c.tell_cause-status.ensures.status in
    record {
      sixteen = back.ensures.gates;
      runs =
          subst (λ (status : ℕ). RunsSessions g.G.Gates.log g.G.Gates.faults (view_of g.D.Link.Source g.D.Link.Sink)
          f c.args.manager.manifests c.args.workers c.args.gates back.result.gates c.close-book.result.entries
          (map (back_view (view_of g.D.Link.Source g.D.Link.Sink)) back.result.links) status)
          (sym told)
          (attended g.G.Gates.log g.G.Gates.faults (view_of g.D.Link.Source g.D.Link.Sink)
          c.args.manager.manifests c.args.manager.turn f c.args.workers c.args.passes c.args.gates back.result c.close-book.result.entries
          new c.requires.gates back.ensures.passes (back.ensures.kept (own_passes c.args.manager.turn f c.args.passes new)) c.close-book.ensures.closes c.close-book.ensures.ended
          c.args.door back.ensures.served);
      given = back.ensures.links;
      few = back.ensures.few;
      done = λ is. back.ensures.done (is_done back.result.cause (sym told ∙ is));
      sound = λ is. back.ensures.sound (is_done back.result.cause (sym told ∙ is));
      failed = λ is. back.ensures.fault (is_fault back.result.cause (sym told ∙ is));
      others = subst IsServeStatus (sym told) (serves back.result.cause);
    }
