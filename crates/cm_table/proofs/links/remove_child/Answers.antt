use Rattle.std.proofs.Common.{◌-◌, ◌≤◌, ◌==◌, ◌∙◌, ap, sym, arith, add-sub_of_le}
use Rattle.cm_world.specs.Edits.{drop_first}
use Rattle.cm_table.specs.Slots.{kids_of}
use Rattle.cm_table.proofs.lemmas.indexes.Naming.{remove_kids, drop_low}
use Rattle.cm_table.proofs.links.remove_child.Goals as goal

pub returns-then-inc-own-clause-kids : goal.returns-then-inc-own-clause-kids
returns-then-inc-own-clause-kids c =
    sym (drop_low c.in-Some.own.base c.args.inc c.in-Some.own.kids.items c.if-inc-own.true)
    ∙ ap (λ x. drop_first (λ k. k == c.args.inc) (kids_of x)) (sym c.in-Some.is)

pub returns-clause-kids : goal.returns-clause-kids
returns-clause-kids c =
    let le : c.in-Some.own.base ≤ c.args.inc = omega (arith, c.if-inc-own.false) in
    remove_kids c.in-Some.own c.remove.new.self c.remove.ensures.base (c.args.inc - c.in-Some.own.base) c.args.inc (add-sub_of_le le) c.remove.ensures.kids
    ∙ ap (λ x. drop_first (λ k. k == c.args.inc) (kids_of x)) (sym c.in-Some.is)
