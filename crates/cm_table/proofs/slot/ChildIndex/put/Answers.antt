use Rattle.cm_table.proofs.slot.ChildIndex.put.Goals as goal

pub returns-clause-names : goal.returns-clause-names
returns-clause-names c = c.in_ok-put.ensures.ok
