use Rattle.std.proofs.Common.{◌≡◌, ◌≤◌, ◌+◌, ℕ, List, [], All, ap, length, subst, sym, ◌∙◌}
use Rattle.std.proofs.lemmas.List.{length_push}
use Rattle.std.proofs.lemmas.List.Elements.{All-push}
use Rattle.cm_lanes.specs.Lane.{Queue}
use Rattle.cm_lanes.proofs.lanes.new_queues.Goals as goal

pub loop-preserved : goal.loop-preserved
loop-preserved c = record {
  count = ap (λ (l : List Queue). length l) c.push_reserved.ensures.items ∙ length_push _ _ ∙ ap (λ (n : ℕ). n + 1) c.loop.invariant.count;
  none = subst (All (λ (q : Queue). q.items ≡ [])) (sym c.push_reserved.ensures.items) (All-push (λ (q : Queue). q.items ≡ []) _ _ c.loop.invariant.none c.new.ensures.items);
  room = subst (λ (n : ℕ). 16 ≤ n) (sym c.push_reserved.ensures.capacity) c.loop.invariant.room;
}
