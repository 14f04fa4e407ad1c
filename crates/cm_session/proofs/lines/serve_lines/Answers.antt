use Rattle.std.proofs.Common.{rules, ◌≡◌, ap, None, arith}
use Rattle.cm_io.specs.LinesInside.{Reader}
use Rattle.cm_manager.proofs.lemmas.callers.CallerRuns.{caller_trans}
use Rattle.cm_session.specs.Session.{most_lines}
use Rattle.cm_session.proofs.lemmas.spoken.Callers.{same_caller, stepped_by}
use Rattle.cm_session.proofs.lemmas.spoken.Sessions.{going-ends, going-more, going-none, going-spent}
use Rattle.cm_session.proofs.lines.serve_lines.Goals as goal

pub loop-line-init : goal.loop-line-init
loop-line-init g c = record {
  same = same_caller _;
  going = going-none _ _ _ _ c.args.reader.now (ap (λ (r : Reader). r.held) c.requires.fresh) (ap (λ (r : Reader). r.over) c.requires.fresh);
}

pub loop-line-preserved : goal.loop-line-preserved
loop-line-preserved g c =
    let none : c.serve_next.result ≡ None = search rules in
    record {
      same = caller_trans _ _ _ c.loop-line.invariant.same c.serve_next.ensures.same;
      going =
          going-more _ _ _ _ _ _ _ _ _ _ c.loop-line.reader c.serve_next.new.reader c.loop-line.line c.loop-line.invariant.going
          (stepped_by c.args.caller.now c.loop-line.caller c.serve_next.new.caller _ _ _ _ _ c.loop-line.invariant.same (rw none at c.serve_next.ensures.stepped));
    }

pub returns-in-Some : goal.returns-in-Some
returns-in-Some g c = record {
  same = caller_trans _ _ _ c.loop-line.invariant.same c.serve_next.ensures.same;
  session =
      going-ends _ _ _ _ _ _ _ _ _ _ c.loop-line.reader c.serve_next.new.reader c.loop-line.line c.in-Some.ended c.loop-line.invariant.going c.loop-line-test.true
      (stepped_by c.args.caller.now c.loop-line.caller c.serve_next.new.caller _ _ _ _ _ c.loop-line.invariant.same (rw c.in-Some.is at c.serve_next.ensures.stepped));
}

pub returns : goal.returns
returns g c =
    let all : c.loop-line.line ≡ most_lines = omega (arith, c.loop-line-test.false, c.loop-line.auto.line-end) in
    record { same = c.loop-line.invariant.same; session = going-spent _ _ _ _ _ _ _ c.loop-line.reader c.loop-line.line all c.loop-line.invariant.going }
