use Rattle.std.proofs.Common.{sym, ◌∙◌, ap}
use Rattle.cm_world.specs.declared.view.Facts.{Facts}
use Rattle.cm_walk.proofs.lemmas.ways.Up.{told}
use Rattle.cm_steps.proofs.lemmas.actions.Enabled.{dead_is, begin_gone, begin_dead, begin_by}
use Rattle.cm_steps.proofs.enabling.may_begin.Goals as goal

pub returns-then-is_gone : goal.returns-then-is_gone
returns-then-is_gone g c = λ next. sym (begin_gone (g.V.View.rows c.args.view.now) next c.args.kind c.args.inc (sym c.is_gone.ensures ∙ c.if-is_gone.true))

pub returns-in-None : goal.returns-in-None
returns-in-None g c = λ next.
    sym (begin_dead (g.V.View.rows c.args.view.now) next c.args.kind c.args.inc (sym c.is_gone.ensures ∙ c.if-is_gone.false) (dead_is (g.V.View.rows c.args.view.now) c.args.inc c.in-None.ensures.facts))

pub returns-in-Some : goal.returns-in-Some
returns-in-Some g c = λ next.
    let it = told (g.V.View.rows c.args.view.now) c.args.inc c.in-Some.facts c.in-Some.ensures.facts in
    c.goes_with.ensures
    ∙ sym (begin_by (g.V.View.rows c.args.view.now) next c.args.kind c.args.inc it.row c.in-Some.facts.pending (sym c.is_gone.ensures ∙ c.if-is_gone.false) it.lives (sym (ap (λ (f : Facts). f.pending) it.facts)))
