use Rattle.std.proofs.Common.{ℕ, ◌<◌, ◌∙◌, sym, length, arith}
use Rattle.cm_table.specs.Keys.{IsPlace, alone}
use Rattle.cm_table.proofs.lemmas.lists.BinarySearch.{item_none, is_at, none_last}
use Rattle.cm_table.proofs.lemmas.lists.Editing.{drop_none, drop_at, on_some}
use Rattle.cm_table.proofs.slot.ChildIndex.remove.Goals as goal

pub returns-then-count-eq0-clause-kids : goal.returns-then-count-eq0-clause-kids
returns-then-count-eq0-clause-kids c =
    let ks = c.args.self.now.kids.items in
    sym (drop_none (λ (k : ℕ). k) c.args.above ks (item_none (λ (k : ℕ). k) ks c.args.above c.kids_upto-count.result c.requires c.if-count-eq0.true c.kids_upto-count.ensures))

pub returns-then-index-above-clause-kids : goal.returns-then-index-above-clause-kids
returns-then-index-above-clause-kids c =
    let ks = c.args.self.now.kids.items in
    on_some c.remove.result _ _ (c.remove.ensures.succeeds c.index.result.now (omega arith)) c.remove.ensures.items ∙ drop_at (λ (k : ℕ). k) ks c.args.above _ c.index.result.now c.requires (is_at (λ (k : ℕ). k) ks c.args.above c.kids_upto-count.result c.index.result.now c.requires c.if-count-eq0.false c.kids_upto-count.ensures c.index.ensures c.if-index-above.true)

pub returns-else-index-above-clause-kids : goal.returns-else-index-above-clause-kids
returns-else-index-above-clause-kids c =
    let ks = c.args.self.now.kids.items in
    sym (drop_none (λ (k : ℕ). k) c.args.above ks (none_last (λ (k : ℕ). k) ks c.args.above c.kids_upto-count.result c.index.result.now c.requires c.if-count-eq0.false c.kids_upto-count.ensures c.index.ensures c.if-index-above.false))
