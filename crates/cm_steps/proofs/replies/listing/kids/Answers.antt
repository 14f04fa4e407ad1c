use Rattle.std.proofs.Common.{◌++◌, None, sym, ap, ◌∙◌}
use Rattle.std.specs.List.{filter_map}
use Rattle.cm_world.specs.Rows.{has_parent}
use Rattle.cm_world.specs.Reports.{kid_of}
use Rattle.cm_walk.proofs.lemmas.descents.Behind.{behind, taken_first, taken_more, taken_all, left_falls}
use Rattle.cm_steps.proofs.lemmas.read.Reporting.{other_kid, own_kid}
use Rattle.cm_steps.proofs.replies.listing.kids.Goals as goal

pub next-init : goal.next-init
next-init g c =
    let rows = g.V.View.rows c.args.view.now in
    let taken = kid_of c.args.inc c.args.coll.now in
    ap (λ seen. seen ++ filter_map taken (behind None rows)) c.new-kids.ensures ∙ taken_first taken rows

pub next-smaller : goal.next-smaller
next-smaller g c =
    left_falls (has_parent c.args.inc) (g.V.View.rows c.args.view.now) (g.V.View.next_inc c.args.view.now) c.in-Some.child c.next.after c.kid.ensures.orderly (sym c.in-Some.ensures)

pub next-preserved : goal.next-preserved
next-preserved g c =
    taken_more (has_parent c.args.inc) (kid_of c.args.inc c.args.coll.now) (g.V.View.rows c.args.view.now) (g.V.View.next_inc c.args.view.now) c.in-Some.child c.next.after c.next.kids c.push_found.new.list c.in_ok-found.found c.kid.ensures.orderly (other_kid c.args.inc c.args.coll.now) (sym c.in-Some.ensures)
    (λ r lives own. c.in_ok-found.ensures.kid r lives ∙ own_kid c.args.inc c.args.coll.now r own) c.in_ok-push_found.ensures c.next.invariant

pub returns : goal.returns
returns g c =
    taken_all (has_parent c.args.inc) (kid_of c.args.inc c.args.coll.now) (g.V.View.rows c.args.view.now) c.next.after c.next.kids (other_kid c.args.inc c.args.coll.now) (sym c.in_default.ensures) c.next.invariant
