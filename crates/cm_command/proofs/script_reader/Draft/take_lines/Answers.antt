use Rattle.std.proofs.Common.{rules, ◌∙◌}
use Rattle.cm_command.proofs.lemmas.scripts.Lines.{at_start, exceeds, faulty, further, no_lines}
use Rattle.cm_command.proofs.script_reader.Draft.take_lines.Goals as goal

pub lines-init : goal.lines-init
lines-init c = at_start c.args.bytes.now c.args.self.now c.requires

pub returns-in-Some-clause-fault : goal.returns-in-Some-clause-fault
returns-in-Some-clause-fault c =
    λ told. rw c.bad.ensures (exceeds c.lines.invariant c.cut_line.result.0.now c.cut_line.result.1.now c.in-Some.fault c.cut_line.ensures.lines c.cut_line.ensures.end c.in-Some.ensures)

pub returns-in-Err-clause-fault : goal.returns-in-Err-clause-fault
returns-in-Err-clause-fault c =
    λ told. rw c.fault_at.ensures (faulty c.lines.invariant c.cut_line.result.0.now c.cut_line.result.1.now c.in-Err.fault c.cut_line.ensures.lines c.cut_line.ensures.end c.in_default.ensures.0 c.in_default.ensures.1 c.in-Err.ensures (λ e. told (c.fault_at.ensures ∙ e)))

pub lines-preserved : goal.lines-preserved
lines-preserved c =
    further c.lines.invariant c.cut_line.result.0.now c.cut_line.result.1.now c.take.new.self (search rules) c.cut_line.ensures.lines c.cut_line.ensures.shorter c.cut_line.ensures.end c.in_default.ensures.0 c.in_default.ensures.1 c.in-Ok.ensures

pub returns-clause-ok : goal.returns-clause-ok
returns-clause-ok c = no_lines c.lines.invariant (search rules)
