use Rattle.std.proofs.Common.{◌+◌, [], ◌∷◌, ◌++◌, refl, sym, ◌∙◌, ap, subst, arith}
use Rattle.cm_deps.proofs.lemmas.listed.Gathering.{IsFilling, filling_more}
use Rattle.cm_deps.proofs.edges.empty_rows.Goals as goal

pub loop-index-init : goal.loop-index-init
loop-index-init c = subst (λ l. IsFilling l 0) (sym c.new-rows.ensures.items) (record { size = refl; empty = λ x. refl })

pub loop-index-preserved : goal.loop-index-preserved
loop-index-preserved c =
    subst (λ l. IsFilling l (c.loop-index._index + 1)) (sym (c.in_ok-push.ensures.items ∙ ap (λ e. c.loop-index.rows.items ++ e ∷ []) c.new.ensures))
    (filling_more c.loop-index.rows.items c.loop-index._index c.loop-index.invariant)

pub returns : goal.returns
returns c = record { size = omega (arith, c.loop-index.invariant.size); empty = c.loop-index.invariant.empty }
