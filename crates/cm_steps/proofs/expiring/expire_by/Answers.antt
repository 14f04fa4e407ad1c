use Rattle.std.proofs.Common.{List, sym, ap}
use Rattle.cm_world.specs.declared.row.Row.{Row}
use Rattle.cm_world.specs.Expiring.{is_stopped}
use Rattle.cm_table.specs.Tree.{Tree}
use Rattle.cm_steps.proofs.lemmas.expiries.Goers.{none_stopped, same_stopped}
use Rattle.cm_steps.proofs.expiring.expire_by.Goals as goal

pub returns-then-closing-clause-goes : goal.returns-then-closing-clause-goes
returns-then-closing-clause-goes c =
    none_stopped (is_stopped c.args.outcome) c.args.table.now.rows c.args.inc (c.requires c.if-closing.true)

pub returns-then-closing-clause-rows : goal.returns-then-closing-clause-rows
returns-then-closing-clause-rows c =
    let t : Tree = c.args.table.now in
    ap (λ (rs : List Row). record t { rows = rs })
    (sym (same_stopped (is_stopped c.args.outcome) t.rows c.args.inc (c.requires c.if-closing.true)))
