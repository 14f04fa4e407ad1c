use Rattle.std.proofs.Common.{true≢false, sym, ◌∙◌}
use Rattle.cm_order.proofs.search.look_at.Goals as goal

pub returns-then-branch-clause-visit : goal.returns-then-branch-clause-visit
returns-then-branch-clause-visit g c = c.in_ok-is_here.ensures.here.0 c.if-branch.true

pub returns-clause-visit : goal.returns-clause-visit
returns-clause-visit g c = record {
  not_here = λ it. true≢false (sym (c.in_ok-is_here.ensures.here.1 it) ∙ c.if-branch.false);
  below = c.in_ok-child.ensures.next;
}
