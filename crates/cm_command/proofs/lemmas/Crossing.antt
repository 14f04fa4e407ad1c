-- These types hold monikers, and may go to other threads or be shared with them.
use denote.Param.Send as send
use denote.Param.Send.{IsSend, IsSync}
use denote.Enum.Declared as enum
use denote.Struct.Declared as struct
use Rattle.cm_world.proofs.lemmas.Crossing.{target_field_sync}
use Rattle.cm_command.specs.contracts.command.Command
use Rattle.cm_command.specs.contracts.script.Line
use Rattle.cm_decl.proofs.rows.Give.TheSendSync as give
use Rattle.cm_decl.specs.contracts.rows.Give
use Rattle.cm_names.proofs.list.List.TheSendSync as list
use Rattle.cm_names.proofs.name.Name.TheSendSync as name
use Rattle.cm_names.proofs.path.CapPath.TheSendSync as cap_path
use Rattle.cm_names.proofs.text.Text.TheSendSync as text

-- The fields of a command may be shared with other threads.
pub command_field_sync : IsSync (Command.the_field).row
command_field_sync = send.enum_sync (enum.shape Command.the_type) (
  (target_field_sync, tt),
  (
    (target_field_sync, tt),
    (
      (target_field_sync, tt),
      (
        (target_field_sync, tt),
        (
          (
            target_field_sync,
            (name.the_sync, (name.the_sync, (text.the_sync, (list.the_sync Give.the_row give.the_sync, tt)))),
          ),
          (
            (target_field_sync, tt),
            (
              (target_field_sync, (name.the_sync, tt)),
              (
                (
                  target_field_sync,
                  (cap_path.the_sync, tt),
                ),
                (
                  (target_field_sync, (name.the_sync, tt)),
                  (
                    (
                      target_field_sync,
                      (cap_path.the_sync, tt),
                    ),
                    (
                      (target_field_sync, tt),
                      (
                        (target_field_sync, tt),
                        (
                          (target_field_sync, tt),
                          ((target_field_sync, tt), ((target_field_sync, (send.plain_sync _ _ _ _ _, tt)), tt)),
                        ),
                      ),
                    ),
                  ),
                ),
              ),
            ),
          ),
        ),
      ),
    ),
  ),
)

-- The fields of a script's line may be shared with other threads.
pub line_field_sync : IsSync (Line.the_field).row
line_field_sync = send.struct_sync (struct.shape Line.the_type) (
  send.plain_sync _ _ _ _ _,
  (
    send.plain_sync
        _ _ _ _ _,
    (command_field_sync, tt),
  ),
)

-- A script's line may be shared with other threads.
pub line_sync : IsSync Line.the_row
line_sync = send.recorded_sync (Line.the_field).row _ _ (Line.the_type).to_one line_field_sync
