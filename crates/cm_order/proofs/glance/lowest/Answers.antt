use Rattle.std.proofs.Common.{sym, ◌∙◌}
use Rattle.cm_order.proofs.lemmas.levels.Glancing.{here_last}
use Rattle.cm_order.proofs.glance.lowest.Goals as goal

pub returns-then-is_idle : goal.returns-then-is_idle
returns-then-is_idle g c =
    here_last (g.V.View.rows c.args.view.now) (g.V.View.next_inc c.args.view.now) c.requires.sound c.args.stand.now.inc (sym c.is_idle.ensures ∙ c.if-is_idle.true)
    (c.requires.known.below c.requires.below)
