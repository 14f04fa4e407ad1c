use Rattle.std.proofs.Common.{◌<◌, ◌≤◌, ◌∙◌, All, List, ℕ, length, sym, ap, subst, arith}
use Rattle.cm_call.specs.Generated.{drawn}
use Rattle.cm_call.proofs.lemmas.texts.Generator.{drawn_all, drawn_low, drawn_long}
use Rattle.cm_call.proofs.workload.draws_of.Goals as goal

pub returns-clause-within : goal.returns-clause-within
returns-clause-within c =
    let over : c.args.size ≤ c.loop-place.place = omega arith in
    let whole = drawn_all c.args.size c.loop-place.last c.loop-place.place c.loop-place.draws (drawn c.args.size c.args.seed c.args.size) over c.loop-place.invariant.1 in
    subst (All (λ k. k < c.args.size)) (sym whole) (drawn_low c.args.size c.args.seed c.args.size c.requires.some)

pub returns-clause-count : goal.returns-clause-count
returns-clause-count c =
    let over : c.args.size ≤ c.loop-place.place = omega arith in
    let whole = drawn_all c.args.size c.loop-place.last c.loop-place.place c.loop-place.draws (drawn c.args.size c.args.seed c.args.size) over c.loop-place.invariant.1 in
    ap (λ (l : List ℕ). length l) whole ∙ drawn_long c.args.size c.args.seed c.args.size
