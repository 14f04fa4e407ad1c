use denote.Param.Send.{sendable}
use Rattle.cm_gate.proofs.lemmas.Crossing.{planned_gates_send}
use Rattle.program_player.proofs.player.odd_run.Goals as goal

pub come-requires-send-G : goal.come-requires-send-G
come-requires-send-G g c = search (sendable, planned_gates_send) depth 10
