use Rattle.cm_session.proofs.lemmas.links.Accepts.{turn_adds_to, turn_by}
use Rattle.cm_session.proofs.workers.take_turn.Goals as goal

pub leave-requires-clause-entries : goal.leave-requires-clause-entries
leave-requires-clause-entries g c =
    turn_adds_to c.args.pass c.enter-held.result c.state.result.now c.accept_for-turned.new.self _ _ c.enter-held.ensures c.state.ensures.value
    c.caller-worker.ensures c.accept_for-turned.ensures.turned

pub returns-clause-turn : goal.returns-clause-turn
returns-clause-turn g c =
    let accept = c.accept_for-turned in
    turn_by c.args.pass c.enter-held.result c.leave.result c.state.result.now accept.new.self _ _ c.enter-held.ensures c.state.ensures.value
    c.caller-worker.ensures accept.ensures.turned accept.ensures.opening accept.ensures.few c.leave.ensures
