use Rattle.std.proofs.Common.{◌≡◌, ◌≤◌, ◌+◌, ◌++◌, Some, length, map, vec_capacity}
use Rattle.cm_session.proofs.pool.make_works.Given as goal

abbrev pub invariant-loop-pass : goal.invariant-loop-pass
invariant-loop-pass g l = record {
  at_door : map (λ w. w.at_door) l.works.items ++ map Some l.pass-iterator.rest.items ≡ map Some l.fn.at_door;
  links : map (λ w. w.links) l.works.items ++ l.rooms.rest.items ≡ l.fn.links.items;
  as_many : length l.rooms.rest.items ≡ length l.pass-iterator.rest.items;
  room : length l.works.items + length l.pass-iterator.rest.items ≤ vec_capacity l.works;
}
