use Rattle.std.proofs.Common.{◌∙◌, ◌+◌, List, sym, ap, subst, drop}
use Rattle.cm_command.specs.declared.script.Line.{Line}
use Rattle.cm_lanes.specs.Phases.{told_to}
use Rattle.cm_lanes.specs.Merge.{QueuesStartWith}
use Rattle.cm_lanes.proofs.lemmas.merged.Queues.{next_phase, phase_begins, phases_on, phases_end}
use Rattle.cm_lanes.proofs.merge.merge.Goals as goal

pub merge_lines-requires-clause-begins : goal.merge_lines-requires-clause-begins
merge_lines-requires-clause-begins c =
    let is = c.requires.has in
    let n = c.loop-phase.phase-index in
    let lines = c.phase-item.result in
    subst (λ (l : List Line). QueuesStartWith l c.loop-phase.queues.items) (sym c.as_slice.ensures)
    (phase_begins is.answered n lines c.loop-phase.queues.items c.loop-phase.all (next_phase c.args.phases.now is.answered n lines is.lines_are c.loop-phase-test.true c.phase-item.is) (c.loop-phase.invariant.moves is))

pub loop-phase-preserved : goal.loop-phase-preserved
loop-phase-preserved c =
    let n = c.loop-phase.phase-index in
    let lines = c.phase-item.result in
    record {
      count = c.in-Ok.ensures.count;
      moves = λ is.
          let next = next_phase c.args.phases.now is.answered n lines is.lines_are c.loop-phase-test.true c.phase-item.is in
          let here : QueuesStartWith c.as_slice.result.now c.loop-phase.queues.items = record {
            answered = next.answers;
            lines_are = next.lines_are ∙ sym c.as_slice.ensures;
            behind = λ k. told_to k (drop (n + 1) is.answered);
            each = λ k d lt. (c.loop-phase.invariant.moves is).left k d lt ∙ ap (told_to k) next.drops;
          } in
          phases_on is.answered n lines c.loop-phase.queues.items c.merge_lines.new.queues.items c.loop-phase.all c.merge_lines.new.all next (c.loop-phase.invariant.moves is) (c.in-Ok.ensures.all here) (c.in-Ok.ensures.behind here);
    }

pub returns : goal.returns
returns c = λ is. phases_end c.args.phases.now is.answered c.loop-phase.phase-index c.loop-phase.queues.items c.loop-phase.all is.lines_are c.loop-phase-test.false (c.loop-phase.invariant.moves is)
