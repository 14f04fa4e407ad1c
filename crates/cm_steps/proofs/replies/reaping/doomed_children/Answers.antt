use Rattle.std.proofs.Common.{◌++◌, None, Some, cond, sym, ap, ◌∙◌}
use Rattle.std.specs.List.{filter_map}
use Rattle.cm_world.specs.Rows.{has_parent}
use Rattle.cm_world.proofs.lemmas.trees.Finding.{row_of-inc}
use Rattle.cm_walk.proofs.lemmas.descents.Behind.{behind, taken_first, taken_more, taken_all, left_falls}
use Rattle.cm_steps.proofs.lemmas.expiries.Dooming.{doomed_child, other_child, own_child, all_children}
use Rattle.cm_steps.proofs.replies.reaping.doomed_children.Goals as goal

pub next-init : goal.next-init
next-init g c =
    let rows = g.V.View.rows c.args.view.now in
    let taken = doomed_child c.args.inc in
    ap (λ seen. seen ++ filter_map taken (behind None rows)) c.new-incs.ensures ∙ taken_first taken rows

pub next-smaller : goal.next-smaller
next-smaller g c =
    left_falls (has_parent c.args.inc) (g.V.View.rows c.args.view.now) (g.V.View.next_inc c.args.view.now) c.in-Some.child c.next.after c.if_doomed-found.ensures.orderly (sym c.in-Some.ensures)

pub next-preserved : goal.next-preserved
next-preserved g c =
    taken_more (has_parent c.args.inc) (doomed_child c.args.inc) (g.V.View.rows c.args.view.now) (g.V.View.next_inc c.args.view.now) c.in-Some.child c.next.after c.next.incs c.push_found.new.list c.if_doomed-found.result c.if_doomed-found.ensures.orderly (other_child c.args.inc) (sym c.in-Some.ensures)
    (λ r lives own.
    c.if_doomed-found.ensures.doomed r lives
    ∙ ap (λ n. cond r.doomed (Some n) None) (sym (row_of-inc (g.V.View.rows c.args.view.now) c.in-Some.child r lives))
    ∙ own_child c.args.inc r own) c.in_ok-push_found.ensures c.next.invariant

pub returns : goal.returns
returns g c =
    taken_all (has_parent c.args.inc) (doomed_child c.args.inc) (g.V.View.rows c.args.view.now) c.next.after c.next.incs (other_child c.args.inc) (sym c.in_default.ensures) c.next.invariant
    ∙ all_children (g.V.View.rows c.args.view.now) c.args.inc
