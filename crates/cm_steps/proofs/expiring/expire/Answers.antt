use Rattle.std.proofs.Common.{List, sym, ap, ◌∙◌}
use Rattle.cm_world.specs.declared.row.Row.{Row}
use Rattle.cm_table.specs.Tree.{Tree}
use Rattle.cm_steps.proofs.lemmas.expiries.Goers.{none_expired}
use Rattle.cm_steps.proofs.expiring.expire.Goals as goal

pub returns-else-goes-clause-rows : goal.returns-else-goes-clause-rows
returns-else-goes-clause-rows c =
    let t : Tree = c.args.table.now in
    ap (λ (rs : List Row). record t { rows = rs }) (sym (none_expired t.rows c.args.inc (sym c.goes_some-goes.ensures ∙ c.if-goes.false)))
