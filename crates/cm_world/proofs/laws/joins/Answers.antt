use Rattle.cm_world.proofs.lemmas.examples.Actions.{joined_is_legal, failed_is_legal, await_waits, awaited_once, stop_waits}
use Rattle.cm_world.proofs.laws.joins.Goals as goal

pub returns : goal.returns
returns c = record { joined = joined_is_legal; waits = await_waits; other_kind = stop_waits; failed = failed_is_legal; once = awaited_once }
