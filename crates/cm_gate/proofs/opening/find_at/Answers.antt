use Rattle.cm_gate.proofs.lemmas.Looking.{finds_opened, finds_unopened}
use Rattle.cm_gate.proofs.opening.find_at.Goals as goal

pub returns-in-Ok-clause-finds : goal.returns-in-Ok-clause-finds
returns-in-Ok-clause-finds g c = finds_opened _ _ _ _ _ _ c.in-Ok.file c.find_in.result c.in-Ok.ensures.opened c.find_in.ensures.finds

pub returns-in-Err-clause-finds : goal.returns-in-Err-clause-finds
returns-in-Err-clause-finds g c = finds_unopened _ _ _ _ _ _ _ c.unopened.result c.in-Err.ensures.refused c.unopened.ensures.missing c.unopened.ensures.inside_file c.unopened.ensures.memory c.unopened.ensures.there c.unopened.ensures.other c.unopened.ensures.failed
