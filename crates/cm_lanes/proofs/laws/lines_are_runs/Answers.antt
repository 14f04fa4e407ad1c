use Rattle.cm_lanes.proofs.lemmas.lines.Parting.{falls_into_runs}
use Rattle.cm_lanes.proofs.laws.lines_are_runs.Goals as goal

pub returns : goal.returns
returns c = falls_into_runs
