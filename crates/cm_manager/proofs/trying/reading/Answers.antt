use Rattle.std.proofs.Common.{refl}
use Rattle.cm_manager.proofs.lemmas.onward.Readings.{needs_nothing}
use Rattle.cm_manager.proofs.trying.reading.Goals as goal

pub returns-in_default : goal.returns-in_default
returns-in_default c = (refl, needs_nothing _ c.in_default.not-Need c.in_default.not-NeedStart)
