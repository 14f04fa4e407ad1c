use Rattle.cm_lanes.proofs.lemmas.lines.Parting.{phases_lost}
use Rattle.cm_lanes.proofs.laws.lines_may_be_lost.Goals as goal

pub returns : goal.returns
returns c = phases_lost
