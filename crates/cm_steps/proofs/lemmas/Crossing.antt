-- These types hold monikers, and may go to other threads or be shared with them.
use denote.Param.Send as send
use denote.Param.Send.{IsSend}
use denote.Struct.Declared as struct
use Rattle.std.proofs.Crossing.{Vec-send}
use Rattle.cm_table.proofs.lemmas.Crossing.{table_send}
use Rattle.cm_book.proofs.lemmas.Crossing.{book_send}
use Rattle.cm_cache.proofs.lemmas.Crossing.{keeper_send}
use Rattle.cm_names.proofs.boxed.Boxed.TheSendSync as boxed
use Rattle.cm_names.proofs.name.Name.TheSendSync as name
use Rattle.cm_names.specs.contracts.boxed.Boxed
use Rattle.std.proofs.option.Option.TheSendSync as option
use Rattle.cm_order.proofs.plan.DescentPlan.TheSendSync as descent_plan
use Rattle.cm_steps.specs.contracts.realm.Realm
use Rattle.cm_steps.specs.contracts.realm.Realm.TheInside as RealmInside
use Rattle.cm_steps.specs.contracts.records.Recorded
use Rattle.cm_steps.specs.contracts.told.LastTold
use Rattle.cm_steps.specs.contracts.told.ToldList
use Rattle.cm_steps.specs.contracts.told.ToldSurvey
use Rattle.cm_world.proofs.lemmas.Crossing.{reply_field_send}
use Rattle.cm_world.proofs.action.Act.TheSendSync as act
use Rattle.cm_world.proofs.action.Join.TheSendSync as join
use Rattle.cm_world.proofs.frame.Frame.TheSendSync as frame
use Rattle.cm_world.specs.contracts.frame.Frame

-- What was replied to a survey may go to other threads.
pub told_survey_send : IsSend ToldSurvey.the_row
told_survey_send = send.recorded_send (ToldSurvey.the_field).row _ _ (ToldSurvey.the_type).to_one
    (send.struct_send (struct.shape ToldSurvey.the_type) (
      send.plain_send _ _ _ _ _,
      (reply_field_send, tt),
    ))

-- What was replied to who asked for the children in a collection may go to other threads.
pub told_list_send : IsSend ToldList.the_row
told_list_send = send.recorded_send (ToldList.the_field).row _ _ (ToldList.the_type).to_one
    (send.struct_send (struct.shape ToldList.the_type) (
      send.plain_send _ _ _ _ _,
      (name.the_send, (reply_field_send, tt)),
    ))

-- The last survey and the last list of children may go to other threads, as a field.
pub last_told_field_send : IsSend (LastTold.the_field).row
last_told_field_send = send.struct_send (struct.shape LastTold.the_type) (
  option.the_field_send (Boxed.the_row ToldSurvey.the_row) (boxed.the_send ToldSurvey.the_row told_survey_send),
  (
    option.the_field_send (Boxed.the_row ToldList.the_row) (boxed.the_send ToldList.the_row told_list_send),
    tt,
  ),
)

-- The history and what goes on with each of its entries may go to other threads, as a field.
pub recorded_field_send : IsSend (Recorded.the_field).row
recorded_field_send = send.struct_send (struct.shape Recorded.the_type) (
  book_send,
  (
    keeper_send,
    (descent_plan.the_field_send, (last_told_field_send, tt)),
  ),
)

-- A realm may go to other threads.
pub realm_send : IsSend Realm.the_row
realm_send = send.view_send RealmInside.the_row _ _ _ _ (send.recorded_send (RealmInside.the_field).row _ _
    (RealmInside.the_type).to_one (send.struct_send (struct.shape RealmInside.the_type) (
      boxed.the_send
          Frame.the_row frame.the_send,
      (
        table_send,
        (
          Vec-send _ act.the_send,
          (
            send.plain_send _ _ _ _ _,
            (
              Vec-send
                  _ join.the_send,
              (recorded_field_send, tt),
            ),
          ),
        ),
      ),
    )))
