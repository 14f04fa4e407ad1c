use Rattle.cm_laws.specs.Story.{IsLegal}
use Rattle.cm_manager.proofs.manager.check_history.Goals as goal

pub returns : goal.returns
unfolding IsLegal
returns c = c.entries-history.ensures.legal
