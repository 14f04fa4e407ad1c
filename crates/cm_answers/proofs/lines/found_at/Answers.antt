use Rattle.std.proofs.Common.{sym, ◌∙◌}
use Rattle.cm_answers.proofs.lemmas.Line.{cut_line, more_line}
use Rattle.cm_answers.proofs.lines.found_at.Goals as goal

pub returns-in-Some : goal.returns-in-Some
returns-in-Some c =
    cut_line c.args.lines c.args.row.now.moniker c.args.path.now c.args.found c.in-Some.refusal (sym c.end_in.ensures ∙ c.in-Some.is)

pub returns-in-None : goal.returns-in-None
returns-in-None c =
    more_line c.args.lines c.args.row.now.moniker c.args.path.now c.args.found c.with_path.result c.or_memory.result (sym c.end_in.ensures ∙ c.in-None.is)
    c.with_path.ensures c.or_memory.ensures.ok c.or_memory.ensures.err
