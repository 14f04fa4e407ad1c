use Rattle.std.proofs.Common.{subst, sym, ◌∙◌}
use Rattle.cm_audit.specs.declared.fault.ReadingStop.{ReadingStop}
use Rattle.cm_audit.specs.declared.head.HeadLine.{HeadLine}
use Rattle.cm_audit.specs.Reading.{IsHeadLine, IsStop}
use Rattle.cm_audit.proofs.lemmas.Places.{at_next, passes, root_reads, builtin_reads}
use Rattle.cm_audit.proofs.head.read_head.Goals as goal

pub returns-in_default : goal.returns-in_default
returns-in_default c =
    subst (λ (s : ReadingStop). IsStop c.args.text.now s) (sym c.bad_text.ensures) (passes c.lines.invariant c.in_default.ensures)

pub returns-in-Root : goal.returns-in-Root
returns-in-Root c = at_next c.lines.invariant c.in-Some.ensures (root_reads _ _ _ _ c.in-Root.is c.in_ok-builtin.ensures)

pub lines-preserved : goal.lines-preserved
lines-preserved c = at_next c.lines.invariant c.in-Some.ensures (builtin_reads _ _ _ _ _ c.in-Builtin.is c.in_ok-push-in-Builtin.ensures.ok c.in_ok-builtin.ensures)
