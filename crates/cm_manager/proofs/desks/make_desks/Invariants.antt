use Rattle.std.proofs.Common.{◌≡◌, ◌≤◌, ◌+◌, ◌++◌, All, Some, false, length, map, vec_capacity}
use Rattle.cm_manager.proofs.desks.make_desks.Given as goal

abbrev pub invariant-loop-pass : goal.invariant-loop-pass
invariant-loop-pass g l = record {
  passes_are : map (λ d. d.pass) l.desks.items ++ map Some l.pass-iterator.rest.items ≡ map Some l.fn.passes;
  gates_are : map (λ d. d.gates) l.desks.items ++ l.all_gates.rest.items ≡ l.fn.gates;
  works_are : map (λ d. d.work) l.desks.items ++ l.all_works.rest.items ≡ l.fn.works.items;
  as_many_gates : length l.all_gates.rest.items ≡ length l.pass-iterator.rest.items;
  as_many_works : length l.all_works.rest.items ≡ length l.pass-iterator.rest.items;
  well : All (λ d. d.lost ≡ false) l.desks.items;
  room : length l.desks.items + length l.pass-iterator.rest.items ≤ vec_capacity l.desks;
}
