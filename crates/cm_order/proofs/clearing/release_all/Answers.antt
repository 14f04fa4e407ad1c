use Rattle.std.proofs.Common.{refl, ◌∙◌}
use Rattle.cm_order.proofs.clearing.release_all.Goals as goal

pub loop-place-init : goal.loop-place-init
loop-place-init c = (λ rows p is. is, refl)

pub loop-place-preserved : goal.loop-place-preserved
loop-place-preserved c = (
  λ rows p is. c.in_ok-release.ensures.known rows p (c.loop-place.invariant.0 rows p is),
  c.in_ok-release.ensures.cleared ∙ c.loop-place.invariant.1,
)

pub returns : goal.returns
returns c = record { known = c.loop-place.invariant.0; cleared = c.loop-place.invariant.1 }
