use Rattle.std.proofs.Common.{rules, sym, ◌∙◌, ap, inl, Some}
use Rattle.cm_session.specs.declared.ended.Ended.TheVariants as ended
use Rattle.cm_session.proofs.lemmas.spoken.Callers.{same_caller}
use Rattle.cm_session.proofs.lemmas.spoken.Sessions.{line-step, long-step, quit-step, silent-step}
use Rattle.cm_session.proofs.lines.serve_next.Goals as goal

pub returns-else-eq : goal.returns-else-eq
returns-else-eq g c =
    let told = c.in-Line.ensures.told in
    let served = rw c.as_slice-in-Line.ensures at c.serve_line.ensures.served in
    record {
      same = c.serve_line.ensures.same;
      stepped =
          line-step _ _ _ _ _ c.args.reader.now c.next.new.self _ _ _ c.in-Line.line told.0 c.serve_line.result (record {
            gave = told.1;
            later = c.next.ensures.later;
            once = told.2;
            same = sym (g.met.L.Link.sink_apart c.next.new.source) ∙ c.next.ensures.beside ∙ g.met.L.Link.sink_apart c.args.link.now;
            pulled = told.4;
            still = λ over. ap g.L.Source.order (c.next.ensures.over over);
          }) told.3.1 (search rules) served c.serve_line.ensures.source;
    }

pub returns-then-eq : goal.returns-then-eq
returns-then-eq g c =
    let told = c.in-Line.ensures.told in
    record {
      same = same_caller _;
      stepped =
          quit-step _ _ _ c.args.reader.now c.next.new.self _ _ c.in-Line.line told.0 (record {
            gave = told.1;
            later = c.next.ensures.later;
            once = told.2;
            same = sym (g.met.L.Link.sink_apart c.next.new.source) ∙ c.next.ensures.beside ∙ g.met.L.Link.sink_apart c.args.link.now;
            pulled = told.4;
            still = λ over. ap g.L.Source.order (c.next.ensures.over over);
          }) told.3.1 (search rules);
    }

pub returns-in-TooLong : goal.returns-in-TooLong
returns-in-TooLong g c =
    let told = c.in-TooLong.ensures.told in
    record {
      same = same_caller _;
      stepped =
          long-step _ _ _ c.args.reader.now c.next.new.self _ _ _ told.3.0 told.0 c.put_reply.result (record {
            gave = told.1;
            later = c.next.ensures.later;
            once = told.2;
            same = sym (g.met.L.Link.sink_apart c.next.new.source) ∙ c.next.ensures.beside ∙ g.met.L.Link.sink_apart c.args.link.now;
            pulled = told.4;
            still = λ over. ap g.L.Source.order (c.next.ensures.over over);
          }) told.3.2 told.3.1 c.put_reply.ensures.wrote c.put_reply.ensures.ordered c.put_reply.ensures.source;
    }

pub returns-in-End : goal.returns-in-End
returns-in-End g c =
    let told = c.in-End.ensures.told in
    record {
      same = same_caller _;
      stepped =
          silent-step _ _ _ c.args.reader.now c.next.new.self _ _ told.0 (Some ended.End) (record {
            gave = told.1;
            later = c.next.ensures.later;
            once = told.2;
            same = sym (g.met.L.Link.sink_apart c.next.new.source) ∙ c.next.ensures.beside ∙ g.met.L.Link.sink_apart c.args.link.now;
            pulled = told.4;
            still = λ over. ap g.L.Source.order (c.next.ensures.over over);
          }) (λ silent. (told.3.0, told.3.2, silent));
    }

pub returns-in-ReadFault : goal.returns-in-ReadFault
returns-in-ReadFault g c =
    let told = c.in-ReadFault.ensures.told in
    record {
      same = same_caller _;
      stepped =
          silent-step _ _ _ c.args.reader.now c.next.new.self _ _ told.0 (Some ended.ReadFault) (record {
            gave = told.1;
            later = c.next.ensures.later;
            once = told.2;
            same = sym (g.met.L.Link.sink_apart c.next.new.source) ∙ c.next.ensures.beside ∙ g.met.L.Link.sink_apart c.args.link.now;
            pulled = told.4;
            still = λ over. ap g.L.Source.order (c.next.ensures.over over);
          }) (λ silent. (told.3.0, c.next.ensures.fault c.in-ReadFault.is, silent));
    }

pub returns-in-Memory : goal.returns-in-Memory
returns-in-Memory g c =
    let told = c.in-Memory.ensures.told in
    record {
      same = same_caller _;
      stepped =
          silent-step _ _ _ c.args.reader.now c.next.new.self _ _ told.0 (Some ended.Memory) (record {
            gave = told.1;
            later = c.next.ensures.later;
            once = told.2;
            same = sym (g.met.L.Link.sink_apart c.next.new.source) ∙ c.next.ensures.beside ∙ g.met.L.Link.sink_apart c.args.link.now;
            pulled = told.4;
            still = λ over. ap g.L.Source.order (c.next.ensures.over over);
          }) (λ silent. inl silent);
    }
