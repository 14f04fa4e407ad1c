-- These types hold monikers, and may go to other threads or be shared with them.
use denote.Param.Send as send
use denote.Param.Send.{IsSend}
use denote.Enum.Declared as enum
use denote.Struct.Declared as struct
use Rattle.cm_names.proofs.lemmas.Crossing.{moniker_field_send}
use Rattle.cm_gate.proofs.asked.Fetch.TheSendSync as fetch
use Rattle.cm_gate.proofs.asked.Fetched.TheSendSync as fetched
use Rattle.cm_gate.proofs.asked.Halted.TheSendSync as halted
use Rattle.cm_gate.proofs.asked.Launched.TheSendSync as launched
use Rattle.cm_gate.proofs.count.FaultCount.TheSendSync as fault_count
use Rattle.cm_gate.proofs.planned.GatePlan.TheSendSync as gate_plan
use Rattle.cm_gate.specs.contracts.asked.GateCall
use Rattle.cm_gate.specs.contracts.asked.Job
use Rattle.cm_gate.specs.contracts.planned.PlannedGates
use Rattle.cm_gate.specs.contracts.planned.PlannedGates.TheInside as PlannedGatesInside
use Rattle.cm_names.proofs.list.List.TheSendSync as list
use Rattle.cm_names.proofs.name.Name.TheSendSync as name
use Rattle.cm_names.proofs.text.Text.TheSendSync as text

-- The fields of a job may go to another thread.
pub job_field_send : IsSend (Job.the_field).row
job_field_send = send.struct_send (struct.shape Job.the_type) (
  send.plain_send _ _ _ _ _,
  (
    send.plain_send _
        _ _ _ _,
    (moniker_field_send, (text.the_send, (name.the_send, tt))),
  ),
)

-- The fields of a gate's call may go to another thread.
pub gate_call_field_send : IsSend (GateCall.the_field).row
gate_call_field_send = send.enum_send (enum.shape GateCall.the_type) (
  (
    fetch.the_field_send,
    (fetched.the_field_send, tt),
  ),
  (
    (job_field_send, (launched.the_field_send, tt)),
    (
      (
        job_field_send,
        (halted.the_field_send, tt),
      ),
      tt,
    ),
  ),
)

-- A gate's call may go to another thread.
pub gate_call_send : IsSend GateCall.the_row
gate_call_send = send.recorded_send (GateCall.the_field).row _ _ (GateCall.the_type).to_one
    gate_call_field_send

-- Planned gates may go to another thread.
pub planned_gates_send : IsSend PlannedGates.the_row
planned_gates_send = send.view_send PlannedGatesInside.the_row _ _ _ _ (send.recorded_send
    (PlannedGatesInside.the_field).row _ _ (PlannedGatesInside.the_type).to_one (send.struct_send
    (struct.shape PlannedGatesInside.the_type) (
      gate_plan.the_field_send,
      (
        list.the_send GateCall.the_row
            gate_call_send,
        (
          send.plain_send _ _ _ _ _,
          (
            send.plain_send _ _ _ _ _,
            (
              fault_count.the_send,
              (fault_count.the_send, tt),
            ),
          ),
        ),
      ),
    )))
