use Rattle.cm_audit.proofs.entries.take_entry.Goals as goal

pub returns-in-Ok : goal.returns-in-Ok
returns-in-Ok c = c.judge_entry.ensures c.args.line.now c.in-Ok.ensures.ok
