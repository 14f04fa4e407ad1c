use Rattle.cm_manager.proofs.lemmas.calling.Calling.{single_asked, single_plain}
use Rattle.cm_manager.proofs.caller.Caller.try_request.Goals as goal

pub try_event-requires-clause-asked : goal.try_event-requires-clause-asked
try_event-requires-clause-asked g c κs within = single_asked c.args.request c.args.inc c.requires

pub try_event-requires-clause-plain : goal.try_event-requires-clause-plain
try_event-requires-clause-plain g c κs within = single_plain c.args.request c.args.inc c.requires
