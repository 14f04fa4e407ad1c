use Rattle.std.proofs.Common.{◌≡◌, ◌<◌, ◌+◌, length, subst, sym, arith, rules}
use Rattle.cm_audit.specs.declared.fault.ReadingStop.{ReadingStop}
use Rattle.cm_audit.specs.Reading.{IsStop}
use Rattle.cm_audit.proofs.lemmas.Places.{at_next, one_more, passes, stops}
use Rattle.cm_audit.proofs.entries.audit_entries.Goals as goal

pub returns-in_default-clause-stop : goal.returns-in_default-clause-stop
returns-in_default-clause-stop c =
    subst (λ (s : ReadingStop). IsStop c.args.text.now s) (sym c.bad_text.ensures) (passes c.lines.invariant.0 c.in_default.ensures)

pub returns-in-Err-clause-stop : goal.returns-in-Err-clause-stop
returns-in-Err-clause-stop c =
    subst (λ (s : ReadingStop). IsStop c.args.text.now s) (sym c.stop_at.ensures) (stops c.lines.realm c.lines.invariant.0 c.in-Some.ensures c.in-Err.fault c.in-Err.ensures)

pub lines-preserved : goal.lines-preserved
lines-preserved c = (
  at_next c.lines.invariant.0 c.in-Some.ensures c.in-Ok.ensures,
  (let one : length c.take_entry.new.realm.entries ≡ length c.lines.realm.entries + 1 = one_more c.lines.realm c.take_entry.new.realm _ c.in-Ok.ensures in
      let few : length c.lines.realm.entries < c.lines.at = c.lines.invariant.1 in
      omega (arith, one, few)),
)
