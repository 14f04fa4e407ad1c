use Rattle.std.proofs.Common.{true≢false, sym, subst, ◌∙◌, []}
use Rattle.cm_audit.specs.Journal.{before, head, Reads}
use Rattle.cm_audit.proofs.lemmas.Places.{at_next, passes}
use Rattle.cm_audit.proofs.head.find_journal.Goals as goal

pub returns-in_default : goal.returns-in_default
returns-in_default c = passes c.lines.invariant c.in_default.ensures

pub returns-then-is_same : goal.returns-then-is_same
returns-then-is_same c =
    at_next c.lines.invariant c.in-Some.ensures (subst (λ t. Reads before t (head [])) (sym (c.is_same.ensures.0 c.if-is_same.true)) Reads.begins)

pub lines-preserved : goal.lines-preserved
lines-preserved c =
    at_next c.lines.invariant c.in-Some.ensures (Reads.skips (λ same. true≢false (sym (c.is_same.ensures.1 same) ∙ c.if-is_same.false)))
