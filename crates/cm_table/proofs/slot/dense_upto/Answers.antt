use Rattle.std.proofs.Common.{ℕ, ◌∙◌, sym, arith}
use Rattle.cm_table.proofs.lemmas.lists.BinarySearch.{place_behind}
use Rattle.cm_table.proofs.slot.dense_upto.Goals as goal

pub returns-then-kid-above : goal.returns-then-kid-above
returns-then-kid-above c =
    place_behind (λ (k : ℕ). k) c.args.kids.now.items c.args.above _ c.index-kid.result.now c.requires (omega arith) (sym c.index-kid.ensures ∙ c.if-kid-above.true)
