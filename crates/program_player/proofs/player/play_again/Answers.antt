use denote.Param.Send.{sendable}
use Rattle.cm_gate.proofs.lemmas.Crossing.{planned_gates_send}
use Rattle.program_player.proofs.player.play_again.Goals as goal

pub play-requires-send-G : goal.play-requires-send-G
play-requires-send-G g c = search (sendable, planned_gates_send) depth 10
