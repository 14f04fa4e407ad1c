use Rattle.std.proofs.Common.{sym, ◌∙◌, ap}
use Rattle.cm_world.specs.declared.view.Facts.{Facts}
use Rattle.cm_walk.proofs.lemmas.ways.Up.{told}
use Rattle.cm_steps.proofs.lemmas.actions.Enabled.{dead_is, none_if, exit_dead, exit_by}
use Rattle.cm_steps.proofs.enabling.may_exit.Goals as goal

pub returns-in-None : goal.returns-in-None
returns-in-None g c = sym (exit_dead (g.V.View.rows c.args.view.now) c.args.inc (dead_is (g.V.View.rows c.args.view.now) c.args.inc c.in-None.ensures.facts))

pub returns-in-Some : goal.returns-in-Some
returns-in-Some g c =
    let it = told (g.V.View.rows c.args.view.now) c.args.inc c.in-Some.facts c.in-Some.ensures.facts in
    none_if c.in-Some.facts.pending c.is_none.result c.is_none.ensures ∙ sym (exit_by (g.V.View.rows c.args.view.now) c.args.inc it.row c.in-Some.facts.pending it.lives (sym (ap (λ (f : Facts). f.pending) it.facts)))
