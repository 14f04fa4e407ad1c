-- These types hold monikers, and may go to other threads or be shared with them.
use denote.Param.Send as send
use denote.Param.Send.{IsSend}
use denote.Struct.Declared as struct
use Rattle.cm_world.proofs.lemmas.Crossing.{answer_send, refusal_send}
use Rattle.cm_lanes.specs.contracts.said.Said
use Rattle.cm_world.specs.contracts.answer.Answer
use Rattle.cm_world.specs.contracts.answer.Refusal
use Rattle.std.proofs.result.Result.TheSendSync as result

-- The fields of what a lane said may go to another thread.
pub said_field_send : IsSend (Said.the_field).row
said_field_send = send.struct_send (struct.shape Said.the_type) (
  send.plain_send _ _ _ _ _,
  (
    send.plain_send
        _ _ _ _ _,
    (result.the_field_send Answer.the_row Refusal.the_row answer_send refusal_send, tt),
  ),
)

-- What a lane said may go to another thread.
pub said_send : IsSend Said.the_row
said_send = send.recorded_send (Said.the_field).row _ _ (Said.the_type).to_one said_field_send
