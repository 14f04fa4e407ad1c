use Rattle.cm_answers.proofs.lemmas.Line.{adds_or_memory}
use Rattle.cm_manager.proofs.lemmas.callers.CallerAnswers.{row_lines, unresolved_row}
use Rattle.cm_manager.proofs.caller.Caller.check_row.Goals as goal

pub returns-then-not-row : goal.returns-then-not-row
returns-then-not-row g c =
    unresolved_row c.args.row.now c.args.lines _ _ c.if-not-row.true c.requires.known
    (adds_or_memory c.args.lines _ c.with_unresolved.result c.or_memory.result c.with_unresolved.ensures c.or_memory.ensures.ok c.or_memory.ensures.err)

pub returns : goal.returns
returns g c = row_lines c.args.row.now c.args.lines _ _ _ c.if-not-row.false c.check_paths.ensures
