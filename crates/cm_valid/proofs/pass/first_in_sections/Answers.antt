use Rattle.std.proofs.Common.{◌+◌, sym, ◌∙◌, arith}
use Rattle.cm_valid.proofs.lemmas.Pass.{some_anywhere, ranked}
use Rattle.cm_valid.proofs.pass.first_in_sections.Goals as goal

pub returns-then-is_some : goal.returns-then-is_some
returns-then-is_some c =
    let place = c.loop-section.section-index in
    some_anywhere c.args.index.now _ (place + 2) c.in_ok-found.found (ranked place _ (omega arith)) c.loop-section.invariant c.in_ok-found.ensures
    (sym c.is_some.ensures ∙ c.if-is_some.true)
