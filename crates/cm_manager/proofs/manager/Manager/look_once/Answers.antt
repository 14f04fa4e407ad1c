use Rattle.std.proofs.Common.{refl}
use Rattle.cm_manager.proofs.lemmas.onward.Turning.{took_by, nothing_by, looked_by, same_pass, same_on}
use Rattle.cm_manager.proofs.manager.Manager.look_once.Goals as goal

pub returns : goal.returns
returns g c =
    let legal = c.runs_once_in-once.ensures.legal in
    let took = took_by _ _ _ _ _ _ _ c.enter-held.ensures c.state.ensures.value legal refl (same_on _ _ _ legal refl) c.leave.ensures in
    let nothing = nothing_by _ _ _ _ took in
    record { same = same_pass _ _ _ _ _ took; later = nothing.0; mine = nothing.1; once = looked_by _ _ _ _ _ _ took c.runs_once_in-once.ensures.once }
