use Rattle.std.proofs.Common.{refl, sym, subst}
use Rattle.cm_walk.specs.Leading.{LeadsDownTo}
use Rattle.cm_walk.proofs.lemmas.ways.Leading.{begins_at}
use Rattle.cm_walk.proofs.locating.names_leading_to.Goals as goal

pub returns-then-starts_with : goal.returns-then-starts_with
returns-then-starts_with g c =
    let rows = g.V.View.rows c.args.view.now in
    subst (LeadsDownTo rows c.args.moniker.now.parts c.args.inc) (sym c.len.ensures)
    (begins_at rows (g.V.View.next_inc c.args.view.now) c.args.inc c.args.moniker.now.parts c.in-Some.own.now c.requires (sym (c.if-is_gone.ensures)) c.in-Some.ensures (c.if-starts_with.ensures.0 refl))
