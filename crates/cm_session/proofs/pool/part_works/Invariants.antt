use Rattle.std.proofs.Common.{◌≡◌, ◌≤◌, ◌+◌, ◌++◌, All, Some, length, map, vec_capacity}
use Rattle.cm_session.specs.PoolParts.{HasDoorPass}
use Rattle.cm_session.proofs.pool.part_works.Given as goal

abbrev pub invariant-loop-work : goal.invariant-loop-work
invariant-loop-work g l = record {
  at_door : map Some l.parts.at_door.items ++ map (λ w. w.at_door) l.work-iterator.rest.items ≡ map (λ w. w.at_door) l.fn.works.items;
  links : l.parts.links.items ++ map (λ w. w.links) l.work-iterator.rest.items ≡ map (λ w. w.links) l.fn.works.items;
  passes : All HasDoorPass l.work-iterator.rest.items;
  room : length l.parts.at_door.items + length l.work-iterator.rest.items ≤ vec_capacity l.parts.at_door;
  link_room : length l.parts.links.items + length l.work-iterator.rest.items ≤ vec_capacity l.parts.links;
}
