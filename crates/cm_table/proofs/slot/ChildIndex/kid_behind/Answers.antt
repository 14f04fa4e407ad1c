use Rattle.std.proofs.Common.{ℕ, ◌+◌, ◌-◌, ◌≤◌, ◌∙◌, sym, ap, arith}
use Rattle.std.specs.Prelude.{option_map}
use Rattle.cm_table.proofs.lemmas.lists.Behind.{behind_item}
use Rattle.cm_table.proofs.lemmas.indexes.Naming.{all_behind, behind_above, nth-map}
use Rattle.cm_table.proofs.slot.ChildIndex.kid_behind.Goals as goal

pub returns-then-inc-self : goal.returns-then-inc-self
returns-then-inc-self c = c.kid_at.ensures ∙ sym (all_behind c.args.self.now.base c.args.inc c.args.self.now.kids.items c.if-inc-self.true)

pub returns : goal.returns
returns c =
    let x = c.args.self.now in
    let le : x.base ≤ c.args.inc = omega (arith, c.if-inc-self.false) in
    c.kid_at-2.ensures ∙ nth-map (λ k. x.base + k) x.kids.items c.kids_upto.result
    ∙ ap (option_map (λ k. x.base + k)) (sym (behind_item (λ (k : ℕ). k) x.kids.items (c.args.inc - x.base) c.kids_upto.result c.kids_upto.ensures))
    ∙ sym (behind_above x.base c.args.inc x.kids.items le)
