use Rattle.std.proofs.Common.{◌-◌, ◌≤◌, ◌∙◌, Some, ap, sym, arith, add-sub_of_le}
use Rattle.std.specs.Option.{option_copied, option_eq}
use Rattle.cm_decl.specs.Same.{same_child}
use Rattle.cm_table.specs.Slots.{named_in}
use Rattle.cm_table.proofs.lemmas.indexes.Naming.{leads_above}
use Rattle.cm_table.proofs.links.forget_child.Goals as goal

pub forget-requires : goal.forget-requires
forget-requires c = λ k e.
    let le : c.in-Some.own.base ≤ c.args.inc = omega (arith, c.if-inc-own.false) in
    sym (ap (λ o. option_eq same_child (option_copied o) (Some k)) c.in-Some-name.is)
    ∙ c.requires k (ap (λ x. named_in x k) c.in-Some.is ∙ leads_above c.in-Some.own c.args.inc (c.args.inc - c.in-Some.own.base) k (add-sub_of_le le) e)
