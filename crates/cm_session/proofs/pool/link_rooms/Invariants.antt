use Rattle.std.proofs.Common.{◌≤◌, vec_capacity}
use Rattle.cm_session.specs.PoolParts.{HasRooms}
use Rattle.cm_session.proofs.pool.link_rooms.Given as goal

abbrev pub invariant-loop-worker : goal.invariant-loop-worker
invariant-loop-worker g l = record {
  rooms : HasRooms l.worker l.sessions l.workers l.rooms.items;
  room : 16 ≤ vec_capacity l.rooms;
}
