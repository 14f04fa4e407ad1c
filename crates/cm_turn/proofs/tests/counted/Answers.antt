use Rattle.std.proofs.Common.{ap, ◌∙◌, sym, subst}
use Rattle.cm_turn.specs.Passes.{AreAll, new_passes}
use Rattle.cm_turn.proofs.lemmas.AllPasses.{AreAll-new, AreAll-kept}
use Rattle.cm_turn.proofs.tests.counted.Goals as goal

pub in_threads-requires-after_bounds : goal.in_threads-requires-after_bounds
in_threads-requires-after_bounds g c κs within =
    let l = c.in-Ok.turn in
    let f = c.new.result.first in
    let new = c.into_vec.ensures ∙ (c.in-Ok.ensures.new ∙ ap (λ n. new_passes l.lock f n) (sym c.in-Ok.ensures.count)) in
    (AreAll-new l f c.into_vec.result.items new).0

pub close-requires : goal.close-requires
close-requires g c =
    let l = c.in-Ok.turn in
    let f = c.new.result.first in
    let new = c.into_vec.ensures ∙ (c.in-Ok.ensures.new ∙ ap (λ n. new_passes l.lock f n) (sym c.in-Ok.ensures.count)) in
    let back = c.in_ok-back.ensures in
    let all = AreAll-kept l c.into_vec.result.items c.in_ok-back.back.items back.len back.each (AreAll-new l f c.into_vec.result.items new) in
    subst (λ ps. AreAll l ps) (sym c.from_vec.ensures) all
