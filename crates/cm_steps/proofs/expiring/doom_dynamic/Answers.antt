use Rattle.std.proofs.Common.{List, sym, ap, ◌∙◌}
use Rattle.cm_world.specs.declared.row.Row.{Row}
use Rattle.cm_table.specs.Tree.{Tree}
use Rattle.cm_steps.proofs.lemmas.expiries.Dooming.{doomed_there, undoomed_there}
use Rattle.cm_steps.proofs.expiring.doom_dynamic.Goals as goal

pub returns-then-may_go : goal.returns-then-may_go
returns-then-may_go c =
    let t : Tree = c.args.table.now in
    c.set_doomed.ensures
    ∙ ap (λ (rs : List Row). record t { rows = rs }) (doomed_there t.rows c.args.inc (sym c.may_go.ensures ∙ c.if-may_go.true))

pub returns-else-may_go : goal.returns-else-may_go
returns-else-may_go c =
    let t : Tree = c.args.table.now in
    ap (λ (rs : List Row). record t { rows = rs }) (undoomed_there t.rows c.args.inc (sym c.may_go.ensures ∙ c.if-may_go.false))
