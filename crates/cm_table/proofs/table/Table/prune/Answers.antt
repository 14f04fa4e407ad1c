use Rattle.std.proofs.Common.{◌≡◌, ◌+◌, ◌<◌, ◌==◌, List, ◌∙◌, ap, sym, subst, arith, length}
use Rattle.std.specs.Prelude.{option_and_then}
use Rattle.cm_world.specs.declared.row.Row.{Row}
use Rattle.cm_world.specs.Rows.{row_of}
use Rattle.cm_world.specs.After.{others_than}
use Rattle.cm_table.proofs.lemmas.lists.Drops.{length-drop_first}
use Rattle.cm_table.proofs.lemmas.tree.Leaves.{without, others_without}
use Rattle.cm_table.proofs.lemmas.tree.Removing.{Goes, gone, goes_on}
use Rattle.cm_table.proofs.table.Table.prune.Goals as goal

pub returns-then-leaf-top-clause-next : goal.returns-then-leaf-top-clause-next
returns-then-leaf-top-clause-next c =
    let rows : List Row = c.args.self.now.rows in
    ap (λ l. row_of l c.args.top) (c.remove_leaf-parent.ensures.rows ∙ ap (λ i. without i rows) c.if-leaf-top.true) ∙ gone rows c.args.self.now.next_inc c.args.top c.remove_leaf-parent.ensures.orderly

pub returns-clause-next : goal.returns-clause-next
returns-clause-next c =
    let rows : List Row = c.args.self.now.rows in
    let leaf = c.walk_down-leaf.result in
    subst (λ u. Goes c.remove_leaf-parent.new.self.rows c.args.top u) (sym c.remove_leaf-parent.ensures.parent)
    (subst (λ l. Goes l c.args.top (option_and_then (λ r. r.parent) (row_of rows leaf))) (sym c.remove_leaf-parent.ensures.rows)
    (goes_on rows c.args.self.now.next_inc c.args.top leaf c.remove_leaf-parent.ensures.orderly c.walk_down-leaf.ensures c.if-leaf-top.false))

pub returns-clause-others : goal.returns-clause-others
returns-clause-others c =
    ap (λ rs. others_than rs c.args.top) c.remove_leaf-parent.ensures.rows
    ∙ others_without c.args.self.now.rows c.args.self.now.next_inc c.args.top c.walk_down-leaf.result c.remove_leaf-parent.ensures.orderly c.walk_down-leaf.ensures.childless c.walk_down-leaf.ensures.below

pub returns-then-leaf-top-clause-others : goal.returns-then-leaf-top-clause-others
returns-then-leaf-top-clause-others c =
    ap (λ rs. others_than rs c.args.top) c.remove_leaf-parent.ensures.rows
    ∙ others_without c.args.self.now.rows c.args.self.now.next_inc c.args.top c.walk_down-leaf.result c.remove_leaf-parent.ensures.orderly c.walk_down-leaf.ensures.childless c.walk_down-leaf.ensures.below

pub returns-clause-fewer : goal.returns-clause-fewer
returns-clause-fewer c =
    let rows : List Row = c.args.self.now.rows in
    let one : length (without c.walk_down-leaf.result rows) + 1 ≡ length rows = length-drop_first (λ r. r.inc == c.walk_down-leaf.result) rows c.walk_down-leaf.ensures.lives in
    subst (λ l. length l < length rows) (sym c.remove_leaf-parent.ensures.rows) (omega (arith, one))

pub returns-then-leaf-top-clause-fewer : goal.returns-then-leaf-top-clause-fewer
returns-then-leaf-top-clause-fewer c =
    let rows : List Row = c.args.self.now.rows in
    let one : length (without c.walk_down-leaf.result rows) + 1 ≡ length rows = length-drop_first (λ r. r.inc == c.walk_down-leaf.result) rows c.walk_down-leaf.ensures.lives in
    subst (λ l. length l < length rows) (sym c.remove_leaf-parent.ensures.rows) (omega (arith, one))
