use Rattle.std.proofs.Common.{◌∙◌, sym, arith}
use Rattle.cm_world.specs.declared.action.Outcome.TheVariants.{Full}
use Rattle.cm_steps.proofs.lemmas.actions.Ends.{one_left, same_left}
use Rattle.cm_steps.proofs.rooms.resolves_left.Goals as goal

pub returns-then-not-resolves_at : goal.returns-then-not-resolves_at
returns-then-not-resolves_at c = λ o.
    c.requires.count ∙ sym (same_left c.args.acts.now c.args.action o (sym c.resolves_at.ensures ∙ c.if-not-resolves_at.true))

pub overflow_sub-result : goal.overflow_sub-result
overflow_sub-result c =
    let one = one_left c.args.acts.now c.args.action Full (sym c.resolves_at.ensures ∙ c.if-not-resolves_at.false) in
    omega (arith, one, c.requires.count)

pub returns : goal.returns
returns c = λ o.
    let one = one_left c.args.acts.now c.args.action o (sym c.resolves_at.ensures ∙ c.if-not-resolves_at.false) in
    omega (arith, one, c.requires.count)
