use Rattle.std.proofs.Common.{◌∙◌, ◌<◌, sym, subst}
use Rattle.cm_command.specs.declared.script.Line.{Line}
use Rattle.cm_lanes.proofs.lemmas.merged.Queues.{moves_more, moves_end, takes_one, next_answer, some_queue}
use Rattle.cm_lanes.proofs.merge.merge_lines.Goals as goal

pub unreachable-requires : goal.unreachable-requires
unreachable-requires c =
    let is = c.requires.begins in
    let l = c.line-item.result in
    let n = c.loop-line.line-index in
    let lane = subst (λ (l : Line). l.lane < 16) (sym c.line-item.is) (c.requires.fit n l c.loop-line-test.true).lane in
    takes_one is.answered is.behind n l c.loop-line.queues.items c.take_first.new.queues.items c.args.all.now c.loop-line.all lane (next_answer c.args.lines.now is.answered n l is.lines_are c.loop-line-test.true c.line-item.is) (c.loop-line.invariant.moves is) c.in_default.ensures.takes (some_queue c.loop-line.queues.items c.loop-line.invariant.count)

pub loop-line-preserved : goal.loop-line-preserved
loop-line-preserved c =
    let l = c.line-item.result in
    let n = c.loop-line.line-index in
    let lane = subst (λ (l : Line). l.lane < 16) (sym c.line-item.is) (c.requires.fit n l c.loop-line-test.true).lane in
    record {
      count = c.in-Some.ensures.takes.long ∙ c.loop-line.invariant.count;
      moves = λ is. moves_more is.answered is.behind n l c.loop-line.queues.items c.take_first.new.queues.items c.args.all.now c.loop-line.all c.push.new.self c.in-Some.said c.loop-line.invariant.count lane (next_answer c.args.lines.now is.answered n l is.lines_are c.loop-line-test.true c.line-item.is) (c.loop-line.invariant.moves is) c.in-Some.ensures.takes c.in-Ok.ensures.ok;
    }

pub returns-clause-all : goal.returns-clause-all
returns-clause-all c = λ is. (moves_end c.args.lines.now _ _ c.loop-line.line-index _ _ _ is.lines_are c.loop-line-test.false (c.loop-line.invariant.moves is)).0

pub returns-clause-behind : goal.returns-clause-behind
returns-clause-behind c = λ is. (moves_end c.args.lines.now _ _ c.loop-line.line-index _ _ _ is.lines_are c.loop-line-test.false (c.loop-line.invariant.moves is)).1
