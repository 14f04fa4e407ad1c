use Rattle.std.proofs.Common.{List, sym, ap, ◌∙◌}
use Rattle.cm_world.specs.declared.row.Row.{Row}
use Rattle.cm_table.specs.Tree.{Tree}
use Rattle.cm_steps.proofs.lemmas.expiries.Dooming.{expired_closed, expired_once}
use Rattle.cm_steps.proofs.expiring.doom_goers.Goals as goal

pub returns-then-is_closed : goal.returns-then-is_closed
returns-then-is_closed c =
    let t : Tree = c.args.table.now in
    ap (λ (rs : List Row). record t { rows = rs }) (sym (expired_closed t.rows c.args.inc (sym c.is_closed.ensures ∙ c.if-is_closed.true)))

pub returns-then-runs_once : goal.returns-then-runs_once
returns-then-runs_once c =
    let t : Tree = c.args.table.now in
    c.doom_dynamic.ensures
    ∙ ap (λ (rs : List Row). record t { rows = rs })
    (sym (expired_once t.rows t.next_inc c.args.inc c.runs_once.ensures.orderly (sym c.is_closed.ensures ∙ c.if-is_closed.false) (sym c.runs_once.ensures.once ∙ c.if-runs_once.true)))
