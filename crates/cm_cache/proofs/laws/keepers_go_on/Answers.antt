use Rattle.cm_cache.proofs.lemmas.histories.Going.{asked_go_on, kept_are_found, new_are_found, unasked_go_on}
use Rattle.cm_cache.proofs.laws.keepers_go_on.Goals as goal

pub returns : goal.returns
returns c = record { asked = asked_go_on; kept = kept_are_found; new = new_are_found; unasked = unasked_go_on }
