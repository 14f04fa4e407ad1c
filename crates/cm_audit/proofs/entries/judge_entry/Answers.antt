use Rattle.std.proofs.Common.{◌≡◌, ℕ, ◌+◌, length, List, Option, ap, subst, sym, ◌∙◌}
use Rattle.cm_world.specs.declared.reply.Entry.{Entry}
use Rattle.cm_reply.specs.Lists.{TextBytes}
use Rattle.cm_audit.specs.Expected.{number_text}
use Rattle.cm_audit.specs.Reading.{IsEntryJudged, StepTaken}
use Rattle.cm_audit.proofs.lemmas.Places.{took_reads, next_expected}
use Rattle.cm_audit.proofs.entries.judge_entry.Goals as goal

pub returns-then-number-next : goal.returns-then-number-next
returns-then-number-next c = λ t line.
    next_expected c.args.realm.now t c.args.entry.number c.args.entry.caller c.args.entry.event c.args.entry.reply c.in_ok-expected.expected c.illegal.result
    (λ same. c.if-number-next.true (same ∙ ap (λ (es : List Entry). length es + 1) (sym c.entries.ensures.entries)))
    line
    (subst (λ (es : List Entry). c.in_ok-expected.expected ≡ number_text (length es + 1)) c.entries.ensures.entries c.in_ok-expected.ensures)
    c.illegal.ensures

pub returns-in-None : goal.returns-in-None
returns-in-None c = λ t line.
    took_reads c.args.realm.now c.judge.new.realm t c.args.entry.number c.args.entry.caller c.args.entry.event c.args.entry.reply
    (c.if-number-next.false ∙ ap (λ (es : List Entry). length es + 1) c.entries.ensures.entries)
    line
    (subst (λ (given : TextBytes). StepTaken c.args.realm.now c.judge.new.realm c.args.entry.caller c.args.entry.event given) c.as_str.ensures
    (subst (λ (o : Option TextBytes). IsEntryJudged c.args.realm.now c.judge.new.realm c.args.entry.caller c.args.entry.event c.as_str.result.now o) c.in-None.is c.in_ok-judge.ensures))
