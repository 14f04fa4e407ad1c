use denote.Builtin
use denote.Exit.{no}
use denote.Param.{param}
use denote.Param.Send as send
use denote.Param.Send.{IsSend, sendable, param_sync, arg_sync, shr_sync}
use denote.Struct.Declared as struct
use Rattle.std.proofs.Crossing.{Vec-send, crosses}
use Rattle.std.proofs.alloc.Global.TheSendSync as global
use Rattle.cm_manager.proofs.lemmas.Crossing.{manager_sync}
use Rattle.cm_session.proofs.lemmas.Captures.{five_sync}
use Rattle.cm_session.proofs.doorway.Accepted.TheSendSync as accepted
use Rattle.cm_session.proofs.workers.work_all.Goals as goal
use Rattle.cm_session.specs.contracts.doorway.Accepted
use Rattle.cm_session.specs.contracts.doorway.Doorway
use Rattle.cm_session.specs.contracts.doorway.Doorway.TheInside as Inside
use Rattle.cm_session.specs.contracts.doorway.DoorwayStoried.TheImpl as story
use Rattle.cm_session.specs.contracts.doorway.Opening
use Rattle.cm_turn.proofs.turn.Turn.TheSendSync as turn

pub for_each_mut-requires-sync-F : goal.for_each_mut-requires-sync-F
for_each_mut-requires-sync-F g c κs fits =
    let door = param 2 g.row.D in
    let link = param 3 g.row.D-Link in
    let way : IsSend (Doorway.the_row door link g.D.Door g.D.Link.Source g.D.Link.Sink) =
    send.view_send (Inside.the_row door link g.D.Door g.D.Link.Source g.D.Link.Sink) _ _ _ _ (send.recorded_send
    (Inside.the_field door link g.D.Door g.D.Link.Source g.D.Link.Sink).row _ _
    (Inside.the_type door link g.D.Door g.D.Link.Source g.D.Link.Sink).to_one (send.struct_send (struct.shape
    (Inside.the_type door link g.D.Door g.D.Link.Source g.D.Link.Sink)) (
      c.type_bounds.send-D,
      (
        Vec-send _ accepted.the_send,
        (
          send.plain_send _ _ _ _ _,
          (
            send.plain_send _ _ _ _ _,
            (
              send.plain_send _ _ _ _ _,
              (
                send.plain_send _ _ _ _ _,
                (search (sendable, crosses) depth 40, tt),
              ),
            ),
          ),
        ),
      ),
    ))) in
    param_sync 2 _ (arg_sync _ no _ (five_sync _ _ _ _ _ _ (shr_sync _ _ _ c.type_bounds.sync-R)
    (shr_sync _ _ _ global.the_sync) (shr_sync _ _ _ manager_sync)
    (shr_sync _ _ _ (turn.the_sync (Doorway.the_row door link g.D.Door g.D.Link.Source g.D.Link.Sink) Accepted.the_row Opening.the_row
    (story.ghosts door link g.D.Door story.no_dict g.D.Link.Link story.no_dict g.D.Link.Source story.no_dict g.D.Link.Sink story.no_dict
    story.no_dict story.no_dict) way)) (shr_sync _ _ Builtin.u32 (send.plain_sync _ _ _ _ _))))
