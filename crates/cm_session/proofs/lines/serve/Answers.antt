use Rattle.std.proofs.Common.{sym, ◌∙◌}
use Rattle.cm_session.proofs.lemmas.spoken.Callers.{same_caller}
use Rattle.cm_session.proofs.lemmas.spoken.Sessions.{session-none, session-over}
use Rattle.cm_session.proofs.lines.serve.Goals as goal
use Rattle.cm_session.proofs.lines.serve.Goals.{in-Ok, in-Err}

pub returns : goal.returns
returns g c = record {
  same = elim c.match-new.branch [
    | in-Ok w ↦ rw w.caller-is w.serve_lines-ended.ensures.same
    | in-Err w ↦ rw w.caller-is (same_caller _)
  ];
  session =
      session-over _ _ _ _ _ _ _ _ c.match-new.ended
      (sym (g.met.L.Link.source_apart c.hang_up.new.self) ∙ c.hang_up.ensures.source ∙ g.met.L.Link.source_apart c.match-new.link)
      (sym (g.met.L.Link.sink_apart c.hang_up.new.self) ∙ c.hang_up.ensures.sink ∙ g.met.L.Link.sink_apart c.match-new.link)
      c.hang_up.ensures.order
      (elim c.match-new.branch [
        | in-Ok w ↦ rw w.link-is (rw w.caller-is (rw w.ended-is w.serve_lines-ended.ensures.session))
        | in-Err w ↦ rw w.link-is (rw w.caller-is (rw w.ended-is (session-none _ _ _ _)))
      ]);
}
