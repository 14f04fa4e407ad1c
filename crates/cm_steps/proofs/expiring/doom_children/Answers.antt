use Rattle.std.proofs.Common.{List, sym, ap, ◌∙◌}
use Rattle.cm_world.specs.declared.row.Row.{Row}
use Rattle.cm_world.specs.Rows.{has_parent}
use Rattle.cm_table.specs.Tree.{Tree}
use Rattle.cm_table.specs.Change.{with_changed}
use Rattle.cm_steps.specs.Expiring.{doomed_if_dynamic}
use Rattle.cm_walk.proofs.lemmas.descents.Behind.{left_falls}
use Rattle.cm_steps.proofs.lemmas.expiries.Dooming.{up_first, up_more, up_all, next_before}
use Rattle.cm_steps.proofs.expiring.doom_children.Goals as goal

pub next-init : goal.next-init
next-init c =
    let t : Tree = c.args.table.now in
    ap (λ (rs : List Row). record t { rows = rs }) (sym (up_first c.args.inc t.rows))

pub next-smaller : goal.next-smaller
next-smaller c =
    let t : Tree = c.args.table.now in
    let now = ap (λ (u : Tree). u.rows) c.next.invariant in
    left_falls (has_parent c.args.inc) t.rows t.next_inc c.in-Some.child c.next.after c.requires.orderly
    (next_before c.args.inc c.next.after t.rows _ _ now c.in-Some.ensures)

pub next-preserved : goal.next-preserved
next-preserved c =
    let t : Tree = c.args.table.now in
    let now = ap (λ (u : Tree). u.rows) c.next.invariant in
    c.doom_dynamic.ensures
    ∙ ap (with_changed c.in-Some.child doomed_if_dynamic) c.next.invariant
    ∙ ap (λ (rs : List Row). record t { rows = rs })
    (up_more c.args.inc c.next.after t.rows t.next_inc c.in-Some.child c.requires.orderly (next_before c.args.inc c.next.after t.rows _ _ now c.in-Some.ensures))

pub returns : goal.returns
returns c =
    let t : Tree = c.args.table.now in
    let now = ap (λ (u : Tree). u.rows) c.next.invariant in
    c.next.invariant
    ∙ ap (λ (rs : List Row). record t { rows = rs })
    (up_all c.args.inc c.next.after t.rows (next_before c.args.inc c.next.after t.rows _ _ now c.in_default.ensures))
