-- A manager holds monikers, and may be shared with other threads.
use denote.Param.Send as send
use denote.Param.Send.{IsSync}
use denote.Struct.Declared as struct
use Rattle.cm_steps.proofs.lemmas.Crossing.{realm_send}
use Rattle.cm_manager.proofs.permit.Permit.TheSendSync as permit
use Rattle.cm_manager.specs.contracts.manager.Manager
use Rattle.cm_manager.specs.contracts.manager.Manager.TheInside as ManagerInside
use Rattle.cm_names.proofs.text.Text.TheSendSync as text
use Rattle.cm_names.specs.contracts.text.Text
use Rattle.cm_repo.proofs.repository.Repository.TheSendSync as repository
use Rattle.cm_steps.specs.contracts.realm.Realm
use Rattle.cm_steps.specs.contracts.realm.RealmStoried.TheImpl as story
use Rattle.cm_turn.proofs.turn.Turn.TheSendSync as turn
use Rattle.cm_world.specs.contracts.frame.Frame
use Rattle.cm_world.specs.contracts.reply.Entry
use Rattle.std.proofs.option.Option.TheSendSync as option

-- A manager may be shared with other threads.
pub manager_sync : IsSync Manager.the_row
manager_sync = send.view_sync ManagerInside.the_row _ _ _ _ (send.recorded_sync (ManagerInside.the_field).row _ _
    (ManagerInside.the_type).to_one (send.struct_sync (struct.shape ManagerInside.the_type) (
      turn.the_sync Realm.the_row Entry.the_row Frame.the_row story.ghosts realm_send,
      (permit.the_sync, (repository.the_sync, (option.the_field_sync Text.the_row text.the_sync, tt))),
    )))
