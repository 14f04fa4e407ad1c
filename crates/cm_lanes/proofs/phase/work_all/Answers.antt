use denote.Exit.{no}
use denote.Param.Send.{sendable, param_sync, arg_sync, shr_sync, shr_slice_sync}
use Rattle.std.proofs.Crossing.{crosses}
use Rattle.std.proofs.alloc.Global.TheSendSync as global
use Rattle.cm_command.proofs.lemmas.Crossing.{line_sync}
use Rattle.cm_lanes.proofs.lemmas.Captures.{four_sync}
use Rattle.cm_lanes.proofs.lemmas.Crossing.{said_send}
use Rattle.cm_lanes.proofs.phase.work_all.Goals as goal
use Rattle.cm_manager.proofs.lemmas.Crossing.{manager_sync}
use Rattle.cm_manager.proofs.desks.Desk.TheSendSync as desk

pub for_each_mut-requires-send-T : goal.for_each_mut-requires-send-T
for_each_mut-requires-send-T g c = search (sendable, crosses, desk.the_send, said_send) depth 40

pub for_each_mut-requires-sync-F : goal.for_each_mut-requires-sync-F
for_each_mut-requires-sync-F g c κs fits =
    param_sync 2 _ (arg_sync _ no _ (four_sync _ _ _ _ _ (shr_sync _ _ _ c.type_bounds.sync-R)
    (shr_sync _ _ _ global.the_sync) (shr_sync _ _ _ manager_sync) (shr_slice_sync _ _ _ line_sync)))
