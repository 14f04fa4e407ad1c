use Rattle.std.proofs.Common.{rules}
use Rattle.cm_program.proofs.lemmas.whole.Prefix.{served_ended, served_some, fault_known}
use Rattle.cm_program.proofs.lemmas.texts.Stock.{served_tells, stops_for}
use Rattle.cm_program.proofs.scripts.read_served.Goals as goal

pub returns-in-Ok-serve-clause-good : goal.returns-in-Ok-serve-clause-good
returns-in-Ok-serve-clause-good g c = served_some _ _ c.in-Ok.bytes _ c.in-Ok.ensures.prefix c.in-Ok.ensures.all (search rules)

pub returns-in-Err-clause-bad : goal.returns-in-Err-clause-bad
returns-in-Err-clause-bad g c =
    rw c.stop_of.ensures (stops_for _ c.in-Err.fault (λ lasts. fault_known _ _ c.in-Ok.bytes c.in-Err.fault c.in-Ok.ensures.prefix c.in-Ok.ensures.all (c.in-Err.ensures.bad lasts)))

pub returns-in-Ok-serve-clause-ended : goal.returns-in-Ok-serve-clause-ended
returns-in-Ok-serve-clause-ended g c = served_ended c.in-Ok.bytes _ _ c.in-Ok.ensures.all c.in-Ok-serve.ensures.good

pub returns-in-Ok-serve-clause-tells : goal.returns-in-Ok-serve-clause-tells
returns-in-Ok-serve-clause-tells g c = served_tells c.in-Ok.bytes _ (search rules)
