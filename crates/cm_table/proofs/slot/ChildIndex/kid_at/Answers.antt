use Rattle.std.proofs.Common.{◌≡◌, ◌+◌, ◌<◌, ◌^◌, ◌∙◌, Some, sym, ap, length, arith}
use Rattle.std.specs.Prelude.{option_map}
use Rattle.cm_table.specs.Keys.{nth}
use Rattle.cm_table.specs.Slots.{kids_at}
use Rattle.cm_table.proofs.lemmas.lists.BinarySearch.{nth-some}
use Rattle.cm_table.proofs.lemmas.lists.EachItem.{each_nth}
use Rattle.cm_table.proofs.lemmas.indexes.Naming.{nth-map}
use Rattle.cm_table.proofs.slot.ChildIndex.kid_at.Goals as goal

pub overflow_add-result : goal.overflow_add-result
overflow_add-result c =
    let x = c.args.self.now in
    let lt : c.args.place < length x.kids.items = omega (arith, c.len.ensures) in
    let at : nth (kids_at x) c.args.place ≡ Some (x.base + c.index-above.result.now) =
    nth-map (λ k. x.base + k) x.kids.items c.args.place ∙ ap (option_map (λ k. x.base + k)) (nth-some x.kids.items c.args.place c.index-above.result.now lt)
    ∙ ap (λ n. Some (x.base + n)) (sym c.index-above.ensures) in
    let low : x.base + c.index-above.result.now < 2 ^ 64 = each_nth (λ k. k < 2 ^ 64) (kids_at x) c.args.place (x.base + c.index-above.result.now) c.requires at in
    omega (arith, low)

pub returns : goal.returns
returns c =
    let x = c.args.self.now in
    let lt : c.args.place < length x.kids.items = omega (arith, c.len.ensures) in
    sym (nth-map (λ k. x.base + k) x.kids.items c.args.place ∙ ap (option_map (λ k. x.base + k)) (nth-some x.kids.items c.args.place c.index-above.result.now lt)
    ∙ ap (λ n. Some (x.base + n)) (sym c.index-above.ensures))
