use Rattle.cm_table.proofs.by_name.put_first.Goals as goal

pub returns-clause-ok : goal.returns-clause-ok
returns-clause-ok c = c.in_ok-insert.ensures.updates.0
