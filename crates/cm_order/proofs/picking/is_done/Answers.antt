use Rattle.std.proofs.Common.{sym, ◌∙◌}
use Rattle.cm_world.specs.Rows.{row_of}
use Rattle.cm_order.proofs.lemmas.levels.Glancing.{shut_below}
use Rattle.cm_order.proofs.lemmas.searches.Upward.{unshut_told}
use Rattle.cm_order.proofs.lemmas.searches.Turns.{own_open}
use Rattle.cm_order.proofs.picking.is_done.Goals as goal

pub returns-then-not-facts : goal.returns-then-not-facts
returns-then-not-facts g c =
    let rows = g.V.View.rows c.args.view.now in
    sym (own_open rows (g.V.View.next_inc c.args.view.now) c.requires.sound.orderly c.args.target
    (unshut_told c.args.facts (row_of rows c.args.target) c.requires.facts ∙ c.if-not-facts.true))

pub returns-then-knows_below : goal.returns-then-knows_below
returns-then-knows_below g c =
    let rows = g.V.View.rows c.args.view.now in
    sym (shut_below rows (g.V.View.next_inc c.args.view.now) c.requires.sound.orderly c.args.target
    (unshut_told c.args.facts (row_of rows c.args.target) c.requires.facts ∙ c.if-not-facts.false)
    (c.knows_below.ensures rows c.requires.plan c.if-knows_below.true))
